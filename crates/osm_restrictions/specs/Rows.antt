-- The rows of turns of an extract, and the restrictions that are skipped.
use Rattle.std.specs.Prelude.{ℤ, List, Option, Some, None, Result, Ok, Err, filter_map, if◌then◌else◌}
use Rattle.osm_model.specs.declared.relations.OsmRelation.{OsmRelation}
use Rattle.osm_model.specs.declared.extract.Extract.{Extract}
use Rattle.osm_restrictions.specs.declared.rows.TurnRow.{TurnRow}
use Rattle.osm_restrictions.specs.declared.rows.Skipped.{Skipped}
use Rattle.osm_restrictions.specs.declared.rows.SkipReason.{SkipReason}
use Rattle.osm_restrictions.specs.Keys.{is_restriction}
use Rattle.osm_restrictions.specs.Turns.{turn_of}

-- the row or the reason, of what a relation is
abbrev pub row_in : Result TurnRow SkipReason → Option TurnRow
row_in (Ok row) = Some row
row_in (Err reason) = None

abbrev pub skipped_in : ℤ → Result TurnRow SkipReason → Option Skipped
skipped_in id (Ok row) = None
skipped_in id (Err reason) = Some (record { relation = id; reason = reason })

-- a relation's row, and its place among those that are skipped; none where it is no restriction
abbrev pub row_of : OsmRelation → Option TurnRow
row_of relation = if is_restriction relation.tags then row_in (turn_of relation) else None

abbrev pub skipped_of : OsmRelation → Option Skipped
skipped_of relation = if is_restriction relation.tags then skipped_in relation.id (turn_of relation) else None

-- all of an extract, in the order of its relations
abbrev pub rows_of_turns : Extract → List TurnRow
rows_of_turns x = filter_map row_of x.relations

abbrev pub skipped_turns : Extract → List Skipped
skipped_turns x = filter_map skipped_of x.relations
