-- The offsets of the edges so far stand behind the others.
use Rattle.std.proofs.Common.{◌≡◌, ◌++◌, map, take}
use Rattle.tile_finish.specs.Finishing.{start_at_place}
use Rattle.tile_finish.proofs.edge_offsets.push_offsets.Given as goal

abbrev pub invariant-loop-k : goal.invariant-loop-k
invariant-loop-k l = l.offsets.items ≡ l.fn.offsets.items ++ map (λ e. start_at_place l.places l.starts e.place) (take l.k l.node.edges)
