-- What the relations say that the loop has passed.
use Rattle.std.proofs.Common.{◌≡◌, take}
use Rattle.std.specs.Prelude.{filter_map}
use Rattle.osm_restrictions.specs.Rows.{row_of, skipped_of}
use Rattle.osm_restrictions.proofs.listing.turn_rows.Given as goal

abbrev pub invariant-loop-i : goal.invariant-loop-i
invariant-loop-i l = record {
  rows : l.turns.rows ≡ filter_map row_of (take l.i l.extract.relations);
  skipped : l.turns.skipped ≡ filter_map skipped_of (take l.i l.extract.relations);
}
