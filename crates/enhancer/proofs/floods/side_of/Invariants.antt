use Rattle.std.proofs.Common.{◌≡◌, List}
use Rattle.bounded_flood.specs.Flood.{spread}
use Rattle.work_tile.specs.WorkRows.{WorkRows}
use Rattle.enhancer.specs.Graph.{same_node, near}
use Rattle.enhancer.specs.Tells.{Holds}
use Rattle.enhancer.proofs.floods.side_of.Given as goal

abbrev pub invariant-loop-n : goal.invariant-loop-n
invariant-loop-n l = (ps : List WorkRows) → Holds l.held ps → l.seen.items ≡ spread same_node (near l.places ps l.level l.left) l.fn.v l.n
