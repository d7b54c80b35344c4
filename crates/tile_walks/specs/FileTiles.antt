-- The graph of the tiles of files.
use Rattle.std.specs.Prelude.{List, map}
use Rattle.graph_id.specs.GraphId.{level_of, tile_of_id}
use Rattle.edge_info.specs.declared.infos.Info.{Info}
use Rattle.tile_bytes.specs.declared.tile.Tile.{Tile}
use Rattle.tile_graph.specs.Graphs.{Graph}
use Rattle.tile_graph.specs.Tiles.{InfoFields, TileFields, graph_of_tiles}

-- an entry and a tile of a file as the definitions of graphs see them
abbrev pub fields_of_info : Info → InfoFields
fields_of_info e = record { way = e.key.way; run = e.key.run; piece = e.key.piece; points = e.shape; names = e.texts }

abbrev pub fields_of_tile : Tile → TileFields
fields_of_tile t = record {
  level = level_of t.id;
  tile = tile_of_id t.id;
  modes = t.modes;
  nodes = t.nodes;
  edges = t.edges;
  transitions = t.transitions;
  chains = t.chains;
  sequences = map (λ s. (s.edges, s.modes)) t.sequences;
  infos = map fields_of_info t.infos;
  texts = t.texts;
}

-- the graph of tiles of files
abbrev pub file_graph : List Tile → Graph
file_graph tiles = graph_of_tiles (map fields_of_tile tiles)
