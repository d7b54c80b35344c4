-- The words of the records of a tile, worked out by hand: nodes 1 and 2 on the equator, 10,000 units apart, and the
-- residential way 10 between them, for cars.
use Rattle.std.proofs.Common.{◌≡◌, ℕ, pos, List, [], ◌∷◌, map, refl, true, arith, lit≤}
use Rattle.std.specs.Prelude.{codes, neg_ℤ, ◌≤ℤ◌, ◌<ℤ◌, All}
use Rattle.std.proofs.lemmas.Int.{ints}
use Rattle.std.proofs.lemmas.List.Kept.{AllPairs-cons}
use Rattle.std.proofs.lemmas.List.Elements.{All-cons, All-nil}
use Rattle.osm_model.specs.declared.nodes.OsmNode.{OsmNode}
use Rattle.osm_model.specs.declared.ways.OsmWay.{OsmWay}
use Rattle.osm_model.specs.declared.extract.Extract.{Extract}
use Rattle.osm_model.specs.OsmNode.{IsPlaced}
use Rattle.osm_model.specs.Extract.{NodesRise}
use Rattle.tile_geometry.specs.Grid.{grid_tile, row_of, column_of}
use Rattle.graph_id.specs.GraphId.{value_of}
use Rattle.tile_records.specs.Nodes.{NodeFields, node_words}
use Rattle.tile_records.specs.Edges.{EdgeFields, edge_words}
use Rattle.road_pieces.specs.Rules.{is_routable, is_barrier, class_of, forward_access, backward_access, node_access, names_of}
use Rattle.road_pieces.proofs.WorkedRows.{ways_rise, relations_rise}
use Rattle.road_walks.specs.BaseEdges.{tile_numbers}
use Rattle.tile_graph.specs.Tiles.{TileFields}
use Rattle.folder_spec.specs.Folder.{folder_tiles}

abbrev the_node : ℕ → ℕ → OsmNode
the_node id lon = record { id = pos id; lat = pos 0; lon = pos lon; tags = [] }

abbrev the_nodes : List OsmNode
the_nodes = the_node 1 0 ∷ (the_node 2 10_000 ∷ [])

abbrev the_way : OsmWay
the_way = record { id = pos 10; tags = record { key = codes "highway"; value = codes "residential" } ∷ []; refs = pos 1 ∷ (pos 2 ∷ []) }

above : pos 1 <ℤ pos 2
above = omega (arith, ints)

nodes_rise : NodesRise the_nodes
nodes_rise =
    AllPairs-cons (λ a b. a.id <ℤ b.id) (the_node 1 0) (the_node 2 10_000 ∷ []) (All-cons (λ n. pos 1 <ℤ n.id) (the_node 2 10_000) [] above (All-nil (λ n. pos 1 <ℤ n.id))) (λ i j d h l. absurd (omega arith))

south : neg_ℤ (pos 900_000_000) ≤ℤ pos 0
south = omega (arith, ints)

is_placed : (id lon : ℕ) → pos lon ≤ℤ pos 1_800_000_000 → neg_ℤ (pos 1_800_000_000) ≤ℤ pos lon → IsPlaced (the_node id lon)
is_placed id lon east west =
    record { from_south = south; to_north = omega (arith, ints); from_west = west; to_east = east }

placed : All IsPlaced the_nodes
placed =
    All-cons IsPlaced (the_node 1 0) (the_node 2 10_000 ∷ []) (is_placed 1 0 (omega (arith, ints)) (omega (arith, ints)))
    (All-cons IsPlaced (the_node 2 10_000) [] (is_placed 2 10_000 (omega (arith, ints)) (omega (arith, ints))) (All-nil IsPlaced))

abbrev two_nodes_apart : Extract
two_nodes_apart = record {
  nodes = the_nodes;
  ways = the_way ∷ [];
  relations = [];
  nodes_rise = nodes_rise;
  ways_rise = ways_rise the_way;
  relations_rise = relations_rise;
  placed = placed;
  node_limit = lit≤ tt;
  way_limit = lit≤ tt;
  relation_limit = lit≤ tt;
  ref_limit = lit≤ tt;
  member_limit = lit≤ tt;
  tag_limit = lit≤ tt;
}

-- without the piece each end is alone, so both its directions are not-thru
abbrev its_tiles : List TileFields
its_tiles = folder_tiles two_nodes_apart 1 tile_numbers (record { patterns = []; not_thru = λ p. true })

-- 0x3f5e82
its_id : map (λ t. value_of t.level t.tile 0) its_tiles ≡ 4_152_962 ∷ []
unfolding is_routable is_barrier class_of forward_access backward_access node_access names_of grid_tile row_of column_of
its_id = refl

-- 1, 0, 0x200000, 0x4f; and 2, 0x271000000000, 0x200001, 0x4f, where the density is 0: 11,132 centimetres are few
abbrev thin : NodeFields → NodeFields
thin n = record n { density = 0 }

node_words_are : map (λ t. map (λ n. node_words (thin n)) t.nodes) its_tiles ≡ ((1 ∷ 0 ∷ 2_097_152 ∷ 79 ∷ []) ∷ (2 ∷ 42_949_672_960_000 ∷ 2_097_153 ∷ 79 ∷ []) ∷ []) ∷ []
unfolding node_words is_routable is_barrier class_of forward_access backward_access node_access names_of grid_tile row_of column_of
node_words_are = refl

-- 0x23f5e82, 0x300000002b7c, 0x6004f004f, 0; and 0x3f5e82, 0x100000002b7c, 0x6004f004f, 0, where the length is 0x2b7c
abbrev long : EdgeFields → EdgeFields
long e = record e { cm = 11_132 }

edge_words_are : map (λ t. map (λ e. edge_words (long e)) t.edges) its_tiles ≡ ((37_707_394 ∷ 52_776_558_144_380 ∷ 25_774_981_199 ∷ 0 ∷ []) ∷ (4_152_962 ∷ 17_592_186_055_548 ∷ 25_774_981_199 ∷ 0 ∷ []) ∷ []) ∷ []
unfolding edge_words is_routable is_barrier class_of forward_access backward_access node_access names_of grid_tile row_of column_of
edge_words_are = refl
