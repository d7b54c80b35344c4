-- What is left of the items.
use Rattle.std.proofs.Common.{drop}
use Rattle.std.specs.Prelude.{◌↔◌}
use Rattle.tile_walks.specs.Forbidden.{BeginSomewhere}
use Rattle.tile_walks.proofs.forbidden.begin_somewhere.Given as goal

abbrev pub invariant-loop-i : goal.invariant-loop-i
invariant-loop-i l = BeginSomewhere l.edges l.items ↔ BeginSomewhere l.edges (drop l.i l.items)
