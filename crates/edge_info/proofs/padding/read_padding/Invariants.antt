use Rattle.std.proofs.Common.{◌≡◌, length}
use Rattle.edge_info.specs.InfoSets.{padding_at}
use Rattle.edge_info.proofs.padding.read_padding.Given as goal

abbrev pub invariant-loop-first : goal.invariant-loop-first
invariant-loop-first l = padding_at l.end l.rest ≡ padding_at l.end l.bytes

abbrev pub decreases-loop-first : goal.decreases-loop-first
decreases-loop-first l = length l.rest
