-- Streets that meet at one node, worked out by hand: streets 1, 2, .. with two refs each, their number and the node.
use Rattle.std.proofs.Common.{Bool, ℤ, ◌≡◌, ℕ, zero, suc, ◌+◌, ◌*◌, ◌<◌, ◌≤◌, pos, List, [], ◌∷◌, length, map, refl, arith, ◌∙◌, lit≤, true, false, inr}
use Rattle.std.specs.Prelude.{codes, ◌<ℤ◌, All, sum_by}
use Rattle.std.proofs.lemmas.List.Sums.{sum_by-cons}
use Rattle.std.proofs.lemmas.List.Kept.{AllPairs-cons}
use Rattle.std.proofs.lemmas.List.Elements.{All-cons, All-nil}
use Rattle.std.proofs.lemmas.Int.{ints}
use Rattle.osm_model.specs.declared.ways.OsmWay.{OsmWay}
use Rattle.osm_model.specs.declared.extract.Extract.{Extract}
use Rattle.osm_model.specs.Extract.{WaysRise, refs_in, tags_in}
use Rattle.road_pieces.specs.declared.steps.Step.{Step}
use Rattle.road_pieces.specs.DirectedPiece.{DirectedPiece}
use Rattle.road_pieces.specs.Rules.{is_routable, is_barrier}
use Rattle.road_pieces.specs.Pieces.{IsPiece}
use Rattle.road_pieces.specs.Turns.{Written}
use Rattle.road_pieces.specs.Matches.{TurnRule, via_node, IsMatch}
use Rattle.road_pieces.proofs.WorkedRows.{nodes_from, nodes_rise, placed, relations_rise, few_nodes}
use Rattle.road_walks.specs.Masks.{in_mask}
use Rattle.road_walks.specs.BaseEdges.{base_edges, local_index, tile_numbers}

-- a residential street from the node with its number to the hub
abbrev pub street : ℕ → ℕ → OsmWay
street id hub = record { id = pos id; tags = record { key = codes "highway"; value = codes "residential" } ∷ []; refs = pos id ∷ (pos hub ∷ []) }

abbrev pub streets_from : ℕ → ℕ → ℕ → List OsmWay
streets_from hub id zero = []
streets_from hub id (suc count) = street id hub ∷ streets_from hub (id + 1) count

rising : (hub low id count : ℕ) → low < id → All (λ w. pos low <ℤ w.id) (streets_from hub id count)
rising hub low id zero h = All-nil (λ w. pos low <ℤ w.id)
rising hub low id (suc count) h =
    All-cons (λ w. pos low <ℤ w.id) (street id hub) (streets_from hub (id + 1) count) (omega (arith, ints)) (rising hub low (id + 1) count (omega arith))

pub streets_rise : (hub id count : ℕ) → WaysRise (streets_from hub id count)
streets_rise hub id zero = λ i j d h l. absurd (omega arith)
streets_rise hub id (suc count) =
    AllPairs-cons (λ a b. a.id <ℤ b.id) (street id hub) (streets_from hub (id + 1) count) (rising hub id (id + 1) count (omega arith)) (streets_rise hub (id + 1) count)

way_count : (hub id count : ℕ) → length (streets_from hub id count) ≡ count
way_count hub id zero = refl
way_count hub id (suc count) = omega (arith, way_count hub (id + 1) count)

pub few_ways : (hub id count : ℕ) → count ≤ 1_000 → length (streets_from hub id count) ≤ 2_000_000
few_ways hub id count h = omega (arith, way_count hub id count)

ref_count : (hub id count : ℕ) → refs_in (streets_from hub id count) ≡ count * 2
ref_count hub id zero = refl
ref_count hub id (suc count) =
    sum_by-cons (λ way. length way.refs) (street id hub) (streets_from hub (id + 1) count) ∙ omega (arith, ref_count hub (id + 1) count)

pub few_refs : (hub id count : ℕ) → count ≤ 1_000 → refs_in (streets_from hub id count) ≤ 20_000_000
few_refs hub id count h = omega (arith, ref_count hub id count)

node_tag_count : (id count : ℕ) → sum_by (λ n. length n.tags) (nodes_from id count) ≡ 0
node_tag_count id zero = refl
node_tag_count id (suc count) =
    sum_by-cons (λ n. length n.tags) (record { id = pos id; lat = pos 0; lon = pos 0; tags = [] }) (nodes_from (id + 1) count) ∙ omega (arith, node_tag_count (id + 1) count)

way_tag_count : (hub id count : ℕ) → sum_by (λ w. length w.tags) (streets_from hub id count) ≡ count
way_tag_count hub id zero = refl
way_tag_count hub id (suc count) =
    sum_by-cons (λ w. length w.tags) (street id hub) (streets_from hub (id + 1) count) ∙ omega (arith, way_tag_count hub (id + 1) count)

pub few_tags : (hub nodes count : ℕ) → count ≤ 1_000 → tags_in (nodes_from 1 nodes) (streets_from hub 1 count) [] ≤ 20_000_000
few_tags hub nodes count h = omega (arith, node_tag_count 1 nodes, way_tag_count hub 1 count)

-- so many streets that meet at the hub, the last of so many nodes
abbrev pub star : (count hub : ℕ) → count ≤ 1_000 → hub ≤ 1_000 → Extract
star count hub few low = record {
  nodes = nodes_from 1 hub;
  ways = streets_from hub 1 count;
  relations = [];
  nodes_rise = nodes_rise 1 hub;
  ways_rise = streets_rise hub 1 count;
  relations_rise = relations_rise;
  placed = placed 1 hub;
  node_limit = few_nodes 1 hub low;
  way_limit = few_ways hub 1 count few;
  relation_limit = lit≤ tt;
  ref_limit = few_refs hub 1 count few;
  member_limit = lit≤ tt;
  tag_limit = few_tags hub hub count few;
}

-- four streets to node 5
abbrev pub four_streets : Extract
four_streets = star 4 5 (lit≤ tt) (lit≤ tt)

-- into the hub, and out of it
abbrev pub into : ℕ → DirectedPiece
into id = record { way = pos id; run = 0; from = 0; to = 1; forward = true }

abbrev pub out_of : ℕ → DirectedPiece
out_of id = record { way = pos id; run = 0; from = 0; to = 1; forward = false }

edges_at_5 : base_edges four_streets (pos 5) ≡ out_of 1 ∷ (out_of 2 ∷ (out_of 3 ∷ (out_of 4 ∷ [])))
unfolding is_routable is_barrier
edges_at_5 = refl

-- no left turn from street 1, via node 5, to street 2
abbrev no_left_turn : TurnRule
no_left_turn = record { only = false; u_turn = false; from = pos 1 ∷ []; via = via_node (pos 5); to = pos 2 ∷ []; modes = 77 }

abbrev into_1 : Step
into_1 = record { way = pos 1; run = 0; segment = 0; forward = true }

abbrev onto_2 : Step
onto_2 = record { way = pos 2; run = 0; segment = 0; forward = false }

the_turn : IsMatch four_streets no_left_turn (into_1 ∷ (onto_2 ∷ []))
unfolding is_routable is_barrier
the_turn = record {
  first = into_1;
  parts = [];
  last = onto_2;
  is = refl;
  from = (0, lit≤ tt, refl);
  via = (refl, refl, λ same. absurd (omega (arith, ints, same)));
  to = (0, lit≤ tt, refl);
  leads = (record { inside = lit≤ tt }, refl, inr refl, (record { inside = lit≤ tt }, refl, tt, refl));
  turns = refl;
  changes = All-nil _;
}

-- its pattern: into node 5 by street 1, out of it by street 2
its_pattern : Written four_streets (into_1 ∷ (onto_2 ∷ [])) (into 1 ∷ (out_of 2 ∷ []))
unfolding is_routable is_barrier
its_pattern = record {
  first = into_1;
  last = onto_2;
  from = into 1;
  between = [];
  to = out_of 2;
  turn_is = refl;
  pattern_is = refl;
  from_exists = record { rises = lit≤ tt; inside = lit≤ tt; begins = refl; ends = refl; plain = λ k h l. absurd (omega arith) };
  between_exist = All-nil (IsPiece four_streets);
  to_exists = record { rises = lit≤ tt; inside = lit≤ tt; begins = refl; ends = refl; plain = λ k h l. absurd (omega arith) };
  ends_with_first = ([], refl);
  begins_with_last = ([], refl);
}

-- the second piece has the local index 1: the pattern is a mask bit, and no sequence
second_index : local_index four_streets (out_of 2) ≡ 1
unfolding is_routable is_barrier
second_index = refl

a_bit : in_mask (local_index four_streets) tile_numbers.vehicles tile_numbers.bits (into 1 ∷ (out_of 2 ∷ [])) 77 ≡ true
unfolding is_routable is_barrier
a_bit = refl

-- but a sequence, where the bus is excepted
no_bit : in_mask (local_index four_streets) tile_numbers.vehicles tile_numbers.bits (into 1 ∷ (out_of 2 ∷ [])) 13 ≡ false
unfolding is_routable is_barrier
no_bit = refl

-- ten streets to node 50: street 10 has the local index 9, so a turn from street 1 to it is a sequence
abbrev ten_streets : Extract
ten_streets = star 10 50 (lit≤ tt) (lit≤ tt)

tenth_index : local_index ten_streets (out_of 10) ≡ 9
unfolding is_routable is_barrier
tenth_index = refl

a_sequence : in_mask (local_index ten_streets) tile_numbers.vehicles tile_numbers.bits (into 1 ∷ (out_of 10 ∷ [])) 77 ≡ false
unfolding is_routable is_barrier
a_sequence = refl

-- way 5 with refs 4, 2, 5 and way 7 with refs 1, 2, 3, which cross at node 2: its edges along way 7 have the local
-- indexes 2 and 3
abbrev way_of : ℕ → List ℕ → OsmWay
way_of id refs = record { id = pos id; tags = record { key = codes "highway"; value = codes "residential" } ∷ []; refs = map pos refs }

abbrev crossing_ways : List OsmWay
crossing_ways = way_of 5 (4 ∷ 2 ∷ 5 ∷ []) ∷ (way_of 7 (1 ∷ 2 ∷ 3 ∷ []) ∷ [])

above : pos 5 <ℤ pos 7
above = omega (arith, ints)

crossing_rise : WaysRise crossing_ways
crossing_rise =
    AllPairs-cons (λ a b. a.id <ℤ b.id) (way_of 5 (4 ∷ 2 ∷ 5 ∷ [])) (way_of 7 (1 ∷ 2 ∷ 3 ∷ []) ∷ []) (All-cons (λ w. pos 5 <ℤ w.id) (way_of 7 (1 ∷ 2 ∷ 3 ∷ [])) [] above (All-nil (λ w. pos 5 <ℤ w.id))) (λ i j d h l. absurd (omega arith))

abbrev crossing : Extract
crossing = record {
  nodes = nodes_from 1 5;
  ways = crossing_ways;
  relations = [];
  nodes_rise = nodes_rise 1 5;
  ways_rise = crossing_rise;
  relations_rise = relations_rise;
  placed = placed 1 5;
  node_limit = lit≤ tt;
  way_limit = lit≤ tt;
  relation_limit = lit≤ tt;
  ref_limit = lit≤ tt;
  member_limit = lit≤ tt;
  tag_limit = lit≤ tt;
}

along_7 : ℕ → Bool → DirectedPiece
along_7 from forward = record { way = pos 7; run = 0; from = from; to = from + 1; forward = forward }

edges_at_2 : map {B = ℤ × ℕ} (λ p. (p.way, p.from)) (base_edges crossing (pos 2)) ≡ (pos 5, 0) ∷ (pos 5, 1) ∷ (pos 7, 0) ∷ (pos 7, 1) ∷ []
unfolding is_routable is_barrier
edges_at_2 = refl

indexes_at_2 : map (local_index crossing) (along_7 0 false ∷ along_7 1 true ∷ []) ≡ 2 ∷ 3 ∷ []
unfolding along_7 is_routable is_barrier
indexes_at_2 = refl
