-- Where a tile is found, and the records of its first nodes, while they are made.
use Rattle.std.specs.Prelude.{◌≡◌, ℕ, ◌<◌, List, length, take, slice_index_or}
use Rattle.std.specs.List.{flat_map}
use Rattle.tile_records.specs.Nodes.{NodeFields}
use Rattle.tile_records.specs.Edges.{EdgeFields}
use Rattle.work_tile.specs.declared.edge_rows.WorkEdge.{WorkEdge}
use Rattle.work_tile.specs.WorkRows.{WorkNode, WorkRows}
use Rattle.tile_numbers.specs.LookUps.{no_rows, work_rows_at, other_nodes}
use Rattle.tile_numbers.specs.Records.{numbered_nodes, numbered_edges}

abbrev pub edges_in : List WorkNode → List WorkEdge
edges_in nodes = flat_map (λ n. n.edges) nodes

abbrev pub edges_so_far : List WorkRows → ℕ → ℕ → List WorkNode → List ℕ → ℕ → List EdgeFields
edges_so_far tiles level tile nodes offsets k = numbered_edges tiles level tile (edges_in (take k nodes)) (take (length (edges_in (take k nodes))) offsets)

-- the records of the first k nodes of a tile, of their edges, and their transitions
pub record AreSoFar (tiles : List WorkRows) (rows : WorkRows) (offsets : List ℕ) (k : ℕ) (nodes : List NodeFields) (edges : List EdgeFields) (transitions : List ℕ) : Type 0 where
  pub nodes_are : nodes ≡ numbered_nodes tiles rows.level 0 0 (take k rows.nodes)
  pub edges_are : edges ≡ edges_so_far tiles rows.level rows.tile rows.nodes offsets k
  pub transitions_are : transitions ≡ flat_map (other_nodes tiles rows.level) (take k rows.nodes)

-- a tile with this index is the one with this number on a level
pub record IsFoundTile (tiles : List WorkRows) (level tile i : ℕ) : Type 0 where
  pub inside : i < length tiles
  pub is : slice_index_or tiles i no_rows ≡ work_rows_at tiles level tile
