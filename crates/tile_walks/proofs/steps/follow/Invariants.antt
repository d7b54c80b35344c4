-- What is left of the items from where the walk stands.
use Rattle.std.proofs.Common.{drop}
use Rattle.std.specs.Prelude.{◌↔◌}
use Rattle.way_tags.specs.declared.modes.TheConstants.{VEHICLES}
use Rattle.tile_walks.specs.declared.items.Stand.{Stand}
use Rattle.tile_walks.specs.Steps.{Steps, start}
use Rattle.tile_walks.proofs.steps.follow.Given as goal

abbrev pub invariant-loop-item : goal.invariant-loop-item
invariant-loop-item l = (end : Stand) → Steps l.graph VEHICLES l.mode start l.items end ↔ Steps l.graph VEHICLES l.mode l.stand (drop l.item-index l.items) end
