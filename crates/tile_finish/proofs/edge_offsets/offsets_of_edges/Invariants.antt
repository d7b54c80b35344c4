-- The offsets of the edges of the nodes so far.
use Rattle.std.proofs.Common.{◌≡◌, map, take}
use Rattle.std.specs.List.{flat_map}
use Rattle.tile_finish.specs.Finishing.{start_at_place}
use Rattle.tile_finish.proofs.edge_offsets.offsets_of_edges.Given as goal

abbrev pub invariant-loop-k : goal.invariant-loop-k
invariant-loop-k l = l.offsets.items ≡ map (λ e. start_at_place l.places l.starts e.place) (flat_map (λ n. n.edges) (take l.k l.rows.nodes))
