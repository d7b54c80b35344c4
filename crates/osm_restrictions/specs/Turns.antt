-- What a restriction is: a row of turns, or skipped for the first reason that holds.
use Rattle.std.specs.Prelude.{◌==◌, Bool, not, length, Option, Some, None, Result, Ok, Err, codes, option_and_then, if◌then◌else◌}
use Rattle.osm_model.specs.declared.relations.OsmRelation.{OsmRelation}
use Rattle.osm_model.specs.declared.relations.MemberKind.TheVariants as kinds
use Rattle.osm_restrictions.specs.declared.rows.Via.{Via}
use Rattle.osm_restrictions.specs.declared.rows.TurnRow.{TurnRow}
use Rattle.osm_restrictions.specs.declared.rows.SkipReason.{SkipReason}
use Rattle.osm_restrictions.specs.declared.rows.SkipReason.TheVariants as skips
use Rattle.osm_restrictions.specs.Keys.{deciding_value, is_conditional}
use Rattle.osm_restrictions.specs.Kinds.{KindRow, turn_kind, is_right_count}
use Rattle.osm_restrictions.specs.Members.{ids_as, via_of}
use Rattle.osm_restrictions.specs.Exceptions.{restricted_modes}

-- the kind of a relation: none where no key decides, or its value isn't known
abbrev pub kind_of : OsmRelation → Option KindRow
kind_of relation = option_and_then turn_kind (deciding_value relation.tags)

-- the members may be as many as they are
abbrev pub is_from_right : OsmRelation → KindRow → Bool
is_from_right relation kind = is_right_count kind.many_from (length (ids_as kinds.Way (codes "from") relation.members))

abbrev pub is_to_right : OsmRelation → KindRow → Bool
is_to_right relation kind = is_right_count kind.many_to (length (ids_as kinds.Way (codes "to") relation.members))

-- the row of a relation of that kind, through that via
abbrev pub turn_row : OsmRelation → KindRow → Via → TurnRow
turn_row relation kind via =
    record {
      relation = relation.id;
      only = kind.only;
      u_turn = kind.u_turn;
      from = ids_as kinds.Way (codes "from") relation.members;
      via = via;
      to = ids_as kinds.Way (codes "to") relation.members;
      modes = restricted_modes relation.tags;
    }

abbrev pub through_via : OsmRelation → KindRow → Option Via → Result TurnRow SkipReason
through_via relation kind None = Err skips.BadVia
through_via relation kind (Some via) = Ok (turn_row relation kind via)

abbrev pub of_kind : OsmRelation → Option KindRow → Result TurnRow SkipReason
of_kind relation None = Err skips.UnknownKind
of_kind relation (Some kind) =
    if restricted_modes relation.tags == 0 then Err skips.NoModes
    else if not (is_from_right relation kind) then Err skips.WrongFrom
    else if not (is_to_right relation kind) then Err skips.WrongTo
    else through_via relation kind (via_of relation.members)

-- what a restriction is
abbrev pub turn_of : OsmRelation → Result TurnRow SkipReason
turn_of relation = if is_conditional relation.tags then Err skips.Conditional else of_kind relation (kind_of relation)
