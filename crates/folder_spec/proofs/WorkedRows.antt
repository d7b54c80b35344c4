-- A table and its tiles, worked out on small extracts.
use Rattle.std.proofs.Common.{◌≡◌, ℕ, ℤ, pos, List, [], ◌∷◌, map, refl, true, false, lit≤}
use Rattle.osm_model.specs.declared.extract.Extract.{Extract}
use Rattle.road_pieces.specs.DirectedPiece.{DirectedPiece}
use Rattle.road_pieces.specs.Rules.{is_routable, is_barrier, names_of, class_of, forward_access, backward_access, node_access}
use Rattle.folder_spec.specs.Links.{base_link}
use Rattle.road_walks.specs.BaseEdges.{FormatNumbers, directed_pieces}
use Rattle.folder_spec.specs.Tables.{TileRows, RowTable}
use Rattle.road_pieces.proofs.WorkedRows.{small}
use Rattle.tile_graph.specs.Tiles.{TileFields}
use Rattle.folder_spec.specs.Records.{ToldFields, tile_from}
use Rattle.std.specs.Prelude.{◌+◌, ◌*◌}
use Rattle.fixed_geo.specs.declared.points.Point.{Point}
use Rattle.fixed_geo.specs.Length.{length_cm, square_length, longitude_difference, latitude_difference, west_east, short_way, cosine_of, mean_latitude}
use Rattle.fixed_geo.specs.Root.{whole_root_of}
use Rattle.tile_geometry.specs.Grid.{grid_tile, row_of, column_of}
use Rattle.folder_spec.specs.Folder.{Given, folder_tiles}
use Rattle.folder_spec.specs.Rows.{links_at, nodes_in, tiles_on, extract_table}

abbrev numbers : FormatNumbers
numbers = record { all = 79; vehicles = 77; bits = 8 }

-- one way of two nodes
abbrev two_nodes : Extract
two_nodes = small 2 (1 ∷ 2 ∷ []) (lit≤ tt) (lit≤ tt)

abbrev there : DirectedPiece
there = record { way = pos 7; run = 0; from = 0; to = 1; forward = true }

abbrev again : DirectedPiece
again = record { way = pos 7; run = 0; from = 0; to = 1; forward = false }

its_pieces : directed_pieces two_nodes ≡ there ∷ (again ∷ [])
unfolding is_routable is_barrier
its_pieces = refl

abbrev one_tile : ℕ → ℤ → ℕ
one_tile k n = 5

its_nodes : nodes_in two_nodes 79 numbers [] one_tile 2 5 ≡ pos 1 ∷ (pos 2 ∷ [])
unfolding is_routable is_barrier class_of forward_access backward_access node_access
its_nodes = refl

its_tiles : tiles_on two_nodes 79 numbers [] one_tile 2 ≡ 5 ∷ []
unfolding is_routable is_barrier class_of forward_access backward_access node_access
its_tiles = refl

its_links : links_at two_nodes 79 numbers [] one_tile 2 (pos 2) ≡ base_link again ∷ []
unfolding is_routable is_barrier class_of forward_access backward_access node_access
its_links = refl

abbrev its_table : RowTable
its_table = extract_table two_nodes 79 numbers [] one_tile

abbrev its_rows : TileRows
its_rows = record {
  level = 2;
  tile = 5;
  nodes = record { osm = pos 1; links = base_link there ∷ []; levels = [] } ∷ (record { osm = pos 2; links = base_link again ∷ []; levels = [] } ∷ []);
}

table_is : its_table.tiles ≡ its_rows ∷ []
unfolding is_routable is_barrier class_of forward_access backward_access node_access
table_is = refl

abbrev told : ToldFields
told = record {
  modes = 79;
  lat = λ n. pos 0;
  lon = λ n. pos 0;
  density = λ n. 0;
  consistency = λ p. 0;
  not_thru = λ p. false;
  flagged = λ p. false;
  in_chain = λ p. false;
  info = λ k c p. 0;
  entries = λ k c. [];
  texts = λ k c. [];
}

abbrev its_tile : TileFields
its_tile = tile_from two_nodes told its_table one_tile its_rows

nodes_are : its_tile.nodes ≡ record { osm = pos 1; lat = pos 0; lon = pos 0; edge_index = 0; edge_count = 1; transition_index = 0; transition_count = 0; access = 79; density = 0; barrier = false } ∷ (record { osm = pos 2; lat = pos 0; lon = pos 0; edge_index = 1; edge_count = 1; transition_index = 0; transition_count = 0; access = 79; density = 0; barrier = false } ∷ [])
unfolding is_routable is_barrier class_of forward_access backward_access node_access
nodes_are = refl

-- the ends of its edges: node 1 and node 0 of tile 5 on level 2
ends_are : map (λ e. e.end) its_tile.edges ≡ 33_554_474 ∷ (42 ∷ [])
unfolding is_routable is_barrier class_of forward_access backward_access node_access
ends_are = refl

opposing_are : map (λ e. e.opposing) its_tile.edges ≡ 0 ∷ (0 ∷ [])
unfolding is_routable is_barrier class_of forward_access backward_access node_access
opposing_are = refl

-- ---- the whole definition, on one way of two nodes where the equator meets the first meridian

abbrev nothing : Given
nothing = record { patterns = []; not_thru = λ p. true }

abbrev whole : List TileFields
whole = folder_tiles two_nodes 79 numbers nothing

its_number : map (λ t. t.tile) whole ≡ 519_120 ∷ []
unfolding is_routable is_barrier class_of forward_access backward_access node_access names_of grid_tile row_of column_of
its_number = refl

its_edges : map (λ t. t.edges) whole ≡ (record { end = 33_554_432 + (8 * 519_120 + 2); mask = 0; opposing = 0; cm = 0; local = 0; opposing_local = 0; leaves_tile = false; shortcut = false; not_thru = true; forward = true; flagged = false; in_chain = false; forward_access = 79; reverse_access = 79; class = 6; name_consistency = 0; info = 0; chain = 0 } ∷ (record { end = 8 * 519_120 + 2; mask = 0; opposing = 0; cm = 0; local = 0; opposing_local = 0; leaves_tile = false; shortcut = false; not_thru = true; forward = false; flagged = false; in_chain = false; forward_access = 79; reverse_access = 79; class = 6; name_consistency = 0; info = 0; chain = 0 } ∷ [])) ∷ []
unfolding is_routable is_barrier class_of forward_access backward_access node_access names_of grid_tile row_of column_of length_cm square_length longitude_difference latitude_difference west_east short_way cosine_of mean_latitude whole_root_of
its_edges = refl

abbrev the_point : Point
the_point = record { lat = pos 0; lon = pos 0 }

its_infos : map (λ t. t.infos) whole ≡ (record { way = pos 7; run = 0; piece = 0; points = the_point ∷ (the_point ∷ []); names = [] } ∷ []) ∷ []
unfolding is_routable is_barrier class_of forward_access backward_access node_access names_of grid_tile row_of column_of
its_infos = refl
