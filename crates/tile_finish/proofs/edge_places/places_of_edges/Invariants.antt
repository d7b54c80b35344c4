-- The indexes of the edges of the nodes so far.
use Rattle.std.proofs.Common.{◌≡◌, map, take}
use Rattle.std.specs.List.{flat_map}
use Rattle.tile_finish.proofs.edge_places.places_of_edges.Given as goal

abbrev pub invariant-loop-k : goal.invariant-loop-k
invariant-loop-k l = l.places.items ≡ map (λ e. e.place) (flat_map (λ n. n.edges) (take l.k l.rows.nodes))
