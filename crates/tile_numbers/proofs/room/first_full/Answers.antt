use Rattle.std.proofs.Common.{◌∙◌, sym, ap, arith}
use Rattle.tile_numbers.specs.Limits.{fullness}
use Rattle.tile_numbers.proofs.FullTiles.{none_more, first_is, none_in, all_have_room}
use Rattle.tile_numbers.proofs.room.first_full.Goals as goal

pub returns-in-Some-clause-first : goal.returns-in-Some-clause-first
returns-in-Some-clause-first c =
    sym (first_is c.args.tiles.now c.loop-tile.tile-index c.tile-item.result c.in-Some.full (omega arith) c.tile-item.is c.loop-tile.invariant (ap fullness (sym c.rows.ensures) ∙ sym c.full_of.ensures ∙ c.in-Some.is))

pub loop-tile-preserved : goal.loop-tile-preserved
loop-tile-preserved c =
    none_more c.args.tiles.now c.loop-tile.tile-index c.tile-item.result (omega arith) c.tile-item.is c.loop-tile.invariant (ap fullness (sym c.rows.ensures) ∙ sym c.full_of.ensures ∙ c.in_default.is)

pub returns-clause-room : goal.returns-clause-room
returns-clause-room c = all_have_room c.args.tiles.now (none_in c.args.tiles.now c.loop-tile.tile-index (omega arith) c.loop-tile.invariant)
