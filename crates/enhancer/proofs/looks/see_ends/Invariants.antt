-- What was seen, and then what the rest gives.
use Rattle.std.proofs.Common.{◌≡◌, drop}
use Rattle.bounded_flood.specs.Flood.{seen_all}
use Rattle.enhancer.specs.Graph.{same_node, ends_but}
use Rattle.enhancer.proofs.looks.see_ends.Given as goal

abbrev pub invariant-loop-k : goal.invariant-loop-k
invariant-loop-k l =
    seen_all same_node l.seen.items (ends_but l.left (drop l.k l.node.edges)) ≡ seen_all same_node l.fn.seen.items (ends_but l.left l.node.edges)
