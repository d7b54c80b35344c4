use Rattle.std.proofs.Common.{◌<◌, length, length-set, rules, sym, ◌∙◌}
use Rattle.tile_machine.specs.Inner.{state_of}
use Rattle.tile_machine.proofs.EveryEvent.{split_inside}
use Rattle.tile_machine.proofs.table.split.Goals as goal
use Rattle.tile_machine.proofs.table.split.Goals.{Else-not-is_inside}

-- the place of the cut is a worker's number
in_list : (c : Else-not-is_inside) → c.args.at < length c.args.workers.now
in_list c =
    split_inside (state_of c.args.cells.now c.args.workers.now) c.args.worker c.args.at c.in-Some.me c.requires
    (sym c.live.ensures ∙ c.in-Some.is) (sym c.is_inside.ensures ∙ c.if-not-is_inside.false)

pub offset_bounds-workers-at : goal.offset_bounds-workers-at
offset_bounds-workers-at c = let inside = in_list c in search rules

pub bounds-workers-at : goal.bounds-workers-at
bounds-workers-at c = rw length-set (in_list c)
