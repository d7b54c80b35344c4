-- What is left of the list and of the items.
use Rattle.std.proofs.Common.{◌≤◌, drop, length}
use Rattle.std.specs.Prelude.{◌↔◌}
use Rattle.tile_walks.specs.Forbidden.{Begin}
use Rattle.tile_walks.proofs.forbidden.begin.Given as goal

abbrev pub invariant-loop-item : goal.invariant-loop-item
invariant-loop-item l = (l.k ≤ length l.edges) × (Begin l.edges l.items ↔ Begin (drop l.k l.edges) (drop l.item-index l.items))
