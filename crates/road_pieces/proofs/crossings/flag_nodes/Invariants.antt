-- The flags so far are those of the nodes so far.
use Rattle.std.proofs.Common.{◌≡◌, take, map}
use Rattle.road_pieces.specs.Runs.{is_junction}
use Rattle.road_pieces.proofs.crossings.flag_nodes.Given as goal

abbrev pub invariant-loop-place : goal.invariant-loop-place
invariant-loop-place l = l.flags.items ≡ map (λ n. is_junction l.extract n.id) (take l.place l.extract.nodes)
