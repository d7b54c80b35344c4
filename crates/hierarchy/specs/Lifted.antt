-- Tiles on their levels: of tiles of level 2, for each of the levels 0, 1 and 2 the tiles with the nodes where an edge of that
-- level starts, and these edges.
use Rattle.std.specs.Prelude.{ℕ, ◌+◌, ◌*◌, ◌/◌, ◌%◌, Bool, List, [], ◌∷◌, map, filter, length, nat_eq, nat_lt, int_lt, if◌then◌else◌, ◌==◌}
use Rattle.std.specs.List.{flat_map}
use Rattle.tile_geometry.specs.Grid.{columns, class_level}
use Rattle.road_walks.specs.Orders.{rising, not_none}
use Rattle.work_tile.specs.declared.edge_rows.WorkEdge.{WorkEdge}
use Rattle.work_tile.specs.WorkRows.{WorkNode, WorkRows}

-- so many tiles of level 2 stand side by side in a tile of a level
abbrev pub tiles_across : ℕ → ℕ
tiles_across k = if k == 0 then 16 else (if k == 1 then 4 else 1)

-- the tile of a level in which a tile of level 2 lies
abbrev pub tile_over : ℕ → ℕ → ℕ
tile_over k tile = tile / columns 2 / tiles_across k * columns k + tile % columns 2 / tiles_across k

-- an edge on its level, which ends in a tile of that level
abbrev pub is_on_level : ℕ → WorkEdge → Bool
is_on_level k e = nat_eq (class_level e.class) k

abbrev pub lifted_edge : ℕ → WorkEdge → WorkEdge
lifted_edge k e = record e { end_tile = tile_over k e.end_tile }

-- the node with its edges of a level
abbrev pub lifted_node : ℕ → WorkNode → WorkNode
lifted_node k n = record n { edges = map (lifted_edge k) (filter (is_on_level k) n.edges) }

-- the nodes of a tile where an edge of the level starts
abbrev pub lifted_nodes : ℕ → WorkRows → List WorkNode
lifted_nodes k rows = filter (λ n. nat_lt 0 (length n.edges)) (map (lifted_node k) rows.nodes)

-- the tiles of level 2 that lie in a tile of a level
abbrev pub tiles_under : ℕ → ℕ → List WorkRows → List WorkRows
tiles_under k c tiles = filter (λ t. nat_eq (tile_over k t.tile) c) tiles

-- a tile of a level: the nodes of all these, in order of OSM id
abbrev pub lifted_tile : List WorkRows → ℕ → ℕ → WorkRows
lifted_tile tiles k c = record { level = k; tile = c; nodes = rising (λ m n. int_lt m.osm n.osm) (flat_map (lifted_nodes k) (tiles_under k c tiles)) }

-- the tiles of a level that have a node, in order
abbrev pub level_numbers : List WorkRows → ℕ → List ℕ
level_numbers tiles k = rising nat_lt (map (λ t. tile_over k t.tile) (filter (λ t. not_none (lifted_nodes k t)) tiles))

unfoldable pub tiles_of_level : List WorkRows → ℕ → List WorkRows
tiles_of_level tiles k = map (lifted_tile tiles k) (level_numbers tiles k)

-- the tiles of all levels
unfoldable pub lifted_tiles : List WorkRows → List WorkRows
lifted_tiles tiles = flat_map (tiles_of_level tiles) (0 ∷ (1 ∷ (2 ∷ [])))
