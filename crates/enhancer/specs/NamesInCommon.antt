-- Which edges at the end of an edge have a name in common with it.
use Rattle.std.specs.Prelude.{ℕ, ◌==◌, ◌&&◌, Option, Some, None, Bool, List, [], slice_get}
use Rattle.std.specs.List.{list_any}
use Rattle.std.specs.Str.{bytes_eq}
use Rattle.road_pieces.specs.declared.rows.Piece.{Piece}
use Rattle.road_walks.specs.Orders.{number_of_bits}
use Rattle.work_tile.specs.declared.edge_rows.WorkEdge.{WorkEdge}
use Rattle.work_tile.specs.WorkRows.{WorkRows}
use Rattle.enhancer.specs.Graph.{edges_at, end_of}

abbrev pub names_in : Option Piece → List (List ℕ)
names_in None = []
names_in (Some piece) = piece.names

-- the names of the piece with this index
abbrev pub names_of_piece : List Piece → ℕ → List (List ℕ)
names_of_piece pieces place = names_in (slice_get pieces place)

-- a name stands in both lists
abbrev pub share_name : List (List ℕ) → List (List ℕ) → Bool
share_name names others = list_any (λ name. list_any (λ other. bytes_eq name other) others) names

-- one of these edges has local index k and a name in common with the piece
abbrev pub is_named_alike : List Piece → ℕ → List WorkEdge → ℕ → Bool
is_named_alike pieces place edges k =
    list_any (λ f. (f.local == k) && share_name (names_of_piece pieces place) (names_of_piece pieces f.place)) edges

-- bit k, for k below 8: whether one of these edges has local index k and a name in common with the piece
unfoldable pub alike_bits : List Piece → ℕ → List WorkEdge → ℕ
alike_bits pieces place edges = number_of_bits (is_named_alike pieces place edges) 0 8

-- bit k, for k below 8: whether the edge with local index k at the end has a name in common with this one
abbrev pub consistency_of : List Piece → List ℕ → List WorkRows → ℕ → WorkEdge → ℕ
consistency_of pieces places ps level edge =
    alike_bits pieces edge.place (edges_at places ps level (end_of edge))
