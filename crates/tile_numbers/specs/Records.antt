-- The records of a work tile among other tiles. What later stages tell is 0: density, not-thru, name consistency, shortcuts
-- and their chains.
use Rattle.std.specs.Prelude.{ℕ, ◌+◌, false, not, List, [], ◌∷◌, length, map, nat_eq}
use Rattle.std.specs.List.{flat_map, zip}
use Rattle.graph_id.specs.GraphId.{value_of}
use Rattle.tile_records.specs.Nodes.{NodeFields}
use Rattle.tile_records.specs.Edges.{EdgeFields}
use Rattle.work_tile.specs.declared.edge_rows.WorkEdge.{WorkEdge}
use Rattle.work_tile.specs.WorkRows.{WorkNode, WorkRows}
use Rattle.tile_numbers.specs.LookUps.{work_rows_at, node_index, opposing_index, opposing_local_index, other_nodes}

-- a node before which so many edges and so many transitions of the tile stand, and which has so many transitions itself
abbrev pub numbered_node : ℕ → ℕ → ℕ → WorkNode → NodeFields
numbered_node edges transitions others n = record {
  osm = n.osm;
  lat = n.at.lat;
  lon = n.at.lon;
  edge_index = edges;
  edge_count = length n.edges;
  transition_index = transitions;
  transition_count = others;
  access = n.access;
  density = 0;
  barrier = n.barrier;
}

-- nodes of a level in order, where so many edges and transitions stand before the first
abbrev pub numbered_nodes : List WorkRows → ℕ → ℕ → ℕ → List WorkNode → List NodeFields
numbered_nodes tiles level edges transitions [] = []
numbered_nodes tiles level edges transitions (n ∷ ns) =
    numbered_node edges transitions (length (other_nodes tiles level n)) n
    ∷ numbered_nodes tiles level (edges + length n.edges) (transitions + length (other_nodes tiles level n)) ns

-- an edge of a tile, where `rows` is the tile of its end, and the entry of its piece stands at the offset `info`
abbrev pub numbered_edge : ℕ → ℕ → WorkRows → WorkEdge → ℕ → EdgeFields
numbered_edge level tile rows e info = record {
  end = value_of level e.end_tile (node_index rows e.end);
  mask = e.mask;
  opposing = opposing_index rows e;
  cm = e.cm;
  local = e.local;
  opposing_local = opposing_local_index rows e;
  leaves_tile = not (nat_eq e.end_tile tile);
  shortcut = false;
  not_thru = false;
  forward = e.key.forward;
  flagged = e.flagged;
  in_chain = false;
  forward_access = e.forward_access;
  reverse_access = e.reverse_access;
  class = e.class;
  name_consistency = 0;
  info = info;
  chain = 0;
}

-- edges of a tile among all tiles, each with its offset
unfoldable pub numbered_edges : List WorkRows → ℕ → ℕ → List WorkEdge → List ℕ → List EdgeFields
numbered_edges tiles level tile edges offsets =
    map (λ (e, info). numbered_edge level tile (work_rows_at tiles level e.end_tile) e info) (zip edges offsets)

-- the edges of a tile in order, node by node
abbrev pub edges_of_rows : WorkRows → List WorkEdge
edges_of_rows rows = flat_map (λ n. n.edges) rows.nodes

-- the records of a tile, with an offset for each of its edges
abbrev pub node_records_of : List WorkRows → WorkRows → List NodeFields
node_records_of tiles rows = numbered_nodes tiles rows.level 0 0 rows.nodes

abbrev pub edge_records_of : List WorkRows → WorkRows → List ℕ → List EdgeFields
edge_records_of tiles rows offsets = numbered_edges tiles rows.level rows.tile (edges_of_rows rows) offsets

-- its transitions in order, node by node
abbrev pub transitions_of_rows : List WorkRows → WorkRows → List ℕ
transitions_of_rows tiles rows = flat_map (other_nodes tiles rows.level) rows.nodes
