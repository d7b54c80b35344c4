-- Roads of small extracts with tags, computed by the definitions and worked out by hand: classes, access, names, barriers;
-- and the refusals.
use Rattle.std.proofs.Common.{◌≡◌, ℕ, zero, suc, ◌+◌, ◌==◌, ◌<◌, ◌≤◌, ℤ, pos, List, [], ◌∷◌, length, map, refl, sym, ap, ◌∙◌, arith, Bool, true, false, cond, lit≤, lit<}
use Rattle.std.specs.Prelude.{codes, ◌<ℤ◌, All, Option, Some, None, find, option_map, nat_lt, if◌then◌else◌}
use Rattle.std.proofs.lemmas.Bool.{cond-true, cond-false, lt-ltb, le-ltb}
use Rattle.std.proofs.lemmas.List.Kept.{AllPairs-cons}
use Rattle.std.proofs.lemmas.List.Elements.{All-cons, All-nil, All-head, All-tail}
use Rattle.std.proofs.lemmas.Int.{ints}
use Rattle.osm_model.specs.declared.tags.Tag.{Tag}
use Rattle.osm_model.specs.declared.nodes.OsmNode.{OsmNode}
use Rattle.osm_model.specs.declared.ways.OsmWay.{OsmWay}
use Rattle.osm_model.specs.declared.extract.Extract.{Extract}
use Rattle.osm_model.specs.OsmNode.{IsPlaced}
use Rattle.osm_model.specs.Extract.{NodesRise, WaysRise, refs_in, tags_in}
use Rattle.road_pieces.specs.declared.rows.Piece.{Piece}
use Rattle.road_pieces.specs.declared.faults.CutFault.{CutFault}
use Rattle.road_pieces.specs.declared.faults.CutFault.TheVariants.{TooManyPieces, EdgeTooLong}
use Rattle.road_pieces.specs.Rules.{is_routable, is_barrier, class_of, forward_access, backward_access, node_access, names_of}
use Rattle.road_pieces.specs.Rows.{piece_rows, junction_rows, routable_ways, missing_refs, too_long, refusal}
use Rattle.road_pieces.proofs.WorkedRows.{the_node, relations_rise, ways_rise, placed_node}

-- ---- extracts

abbrev tag : List ℕ → List ℕ → Tag
tag key value = record { key = key; value = value }

-- so many nodes where the equator meets the first meridian, their ids from id on, each with its tags
abbrev tagged_node : (ℕ → List Tag) → ℕ → OsmNode
tagged_node tags id = record { id = pos id; lat = pos 0; lon = pos 0; tags = tags id }

abbrev tagged_from : (ℕ → List Tag) → ℕ → ℕ → List OsmNode
tagged_from tags id zero = []
tagged_from tags id (suc count) = tagged_node tags id ∷ tagged_from tags (id + 1) count

rising : (tags : ℕ → List Tag) (low id count : ℕ) → low < id → All (λ n. pos low <ℤ n.id) (tagged_from tags id count)
rising tags low id zero h = All-nil (λ n. pos low <ℤ n.id)
rising tags low id (suc count) h =
    All-cons (λ n. pos low <ℤ n.id) (tagged_node tags id) (tagged_from tags (id + 1) count) (omega (arith, ints)) (rising tags low (id + 1) count (omega arith))

nodes_rise : (tags : ℕ → List Tag) (id count : ℕ) → NodesRise (tagged_from tags id count)
nodes_rise tags id zero = λ i j d h l. absurd (omega arith)
nodes_rise tags id (suc count) =
    AllPairs-cons (λ a b. a.id <ℤ b.id) (tagged_node tags id) (tagged_from tags (id + 1) count) (rising tags id (id + 1) count (omega arith)) (nodes_rise tags (id + 1) count)

same_place : (tags : ℕ → List Tag) (id : ℕ) → IsPlaced (the_node id) → IsPlaced (tagged_node tags id)
same_place tags id p = record { from_south = p.from_south; to_north = p.to_north; from_west = p.from_west; to_east = p.to_east }

placed : (tags : ℕ → List Tag) (id count : ℕ) → All IsPlaced (tagged_from tags id count)
placed tags id zero = All-nil IsPlaced
placed tags id (suc count) =
    All-cons IsPlaced (tagged_node tags id) (tagged_from tags (id + 1) count) (same_place tags id (placed_node id)) (placed tags (id + 1) count)

-- an extract of so many of them, their ids from 1 on, and of these ways
abbrev tagged : (tags : ℕ → List Tag) (count : ℕ) (ways : List OsmWay) → WaysRise ways → length (tagged_from tags 1 count) ≤ 10_000_000 → length ways ≤ 2_000_000 → refs_in ways ≤ 20_000_000 → tags_in (tagged_from tags 1 count) ways [] ≤ 20_000_000 → Extract
tagged tags count ways rise few_nodes few_ways few_refs few_tags = record {
  nodes = tagged_from tags 1 count;
  ways = ways;
  relations = [];
  nodes_rise = nodes_rise tags 1 count;
  ways_rise = rise;
  relations_rise = relations_rise;
  placed = placed tags 1 count;
  node_limit = few_nodes;
  way_limit = few_ways;
  relation_limit = lit≤ tt;
  ref_limit = few_refs;
  member_limit = lit≤ tt;
  tag_limit = few_tags;
}

abbrev way_of : ℕ → List Tag → List ℕ → OsmWay
way_of id tags refs = record { id = pos id; tags = tags; refs = map pos refs }

abbrev untagged : ℕ → List Tag
untagged id = []

-- what is told of pieces: way, start and end; class and access; names. And of junctions: id, access, barrier
abbrev ends_told : Extract → List (ℤ × (ℤ × ℤ))
ends_told x = map {B = ℤ × (ℤ × ℤ)} (λ p. (p.key.way, (p.start, p.end))) (piece_rows x)

abbrev uses_told : Extract → List (ℕ × (ℕ × ℕ))
uses_told x = map {B = ℕ × (ℕ × ℕ)} (λ p. (p.class, (p.forward, p.backward))) (piece_rows x)

abbrev names_told : Extract → List (List (List ℕ))
names_told x = map (λ p. p.names) (piece_rows x)

abbrev junctions_told : Extract → List (ℤ × (ℕ × Bool))
junctions_told x = map {B = ℤ × (ℕ × Bool)} (λ j. (j.osm, (j.access, j.barrier))) (junction_rows x)

-- ---- footway 5 and primary way 7 cross at node 2; the modes are 2, pedestrians, and 79, all

abbrev crossing_ways : List OsmWay
crossing_ways =
    way_of 5 (tag (codes "highway") (codes "footway") ∷ tag (codes "name") (codes "Gartenweg") ∷ []) (4 ∷ 2 ∷ 5 ∷ [])
    ∷ way_of 7 (tag (codes "ref") (codes "B 1") ∷ tag (codes "highway") (codes "primary") ∷ tag (codes "name") (codes "Langer Weg") ∷ []) (1 ∷ 2 ∷ 3 ∷ [])
    ∷ []

above : pos 5 <ℤ pos 7
above = omega (arith, ints)

crossing_rise : WaysRise crossing_ways
crossing_rise = rise_by _ _ above
  where
    rise_by : (one two : OsmWay) → one.id <ℤ two.id → WaysRise (one ∷ two ∷ [])
    rise_by one two h =
        AllPairs-cons (λ a b. a.id <ℤ b.id) one (two ∷ []) (All-cons (λ w. one.id <ℤ w.id) two [] h (All-nil (λ w. one.id <ℤ w.id))) (λ i j d h l. absurd (omega arith))

abbrev crossing : Extract
crossing = tagged untagged 5 crossing_ways crossing_rise (lit≤ tt) (lit≤ tt) (lit≤ tt) (lit≤ tt)

crossing_ends : ends_told crossing ≡ (pos 5, (pos 4, pos 2)) ∷ (pos 5, (pos 2, pos 5)) ∷ (pos 7, (pos 1, pos 2)) ∷ (pos 7, (pos 2, pos 3)) ∷ []
unfolding is_routable is_barrier
crossing_ends = refl

crossing_uses : uses_told crossing ≡ (7, (2, 2)) ∷ (7, (2, 2)) ∷ (2, (79, 79)) ∷ (2, (79, 79)) ∷ []
unfolding is_routable is_barrier class_of forward_access backward_access
crossing_uses = refl

crossing_names : names_told crossing ≡ (codes "Gartenweg" ∷ []) ∷ (codes "Gartenweg" ∷ []) ∷ (codes "Langer Weg" ∷ codes "B 1" ∷ []) ∷ (codes "Langer Weg" ∷ codes "B 1" ∷ []) ∷ []
unfolding is_routable is_barrier names_of
crossing_names = refl

-- ---- a bollard in a run is a junction, which pedestrians and bicycles pass: 6

abbrev residential : List Tag
residential = tag (codes "highway") (codes "residential") ∷ []

abbrev bollard : ℕ → List Tag
bollard id = if id == 2 then tag (codes "barrier") (codes "bollard") ∷ [] else []

abbrev barred : Extract
barred = tagged bollard 3 (way_of 7 residential (1 ∷ 2 ∷ 3 ∷ []) ∷ []) (ways_rise (way_of 7 residential (1 ∷ 2 ∷ 3 ∷ []))) (lit≤ tt) (lit≤ tt) (lit≤ tt) (lit≤ tt)

barred_ends : ends_told barred ≡ (pos 7, (pos 1, pos 2)) ∷ (pos 7, (pos 2, pos 3)) ∷ []
unfolding is_routable is_barrier
barred_ends = refl

barred_junctions : junctions_told barred ≡ (pos 1, (79, false)) ∷ (pos 2, (6, true)) ∷ (pos 3, (79, false)) ∷ []
unfolding is_routable is_barrier node_access
barred_junctions = refl

-- ---- a private gate at the end of a run is closed to all, and `barrier=no` in it is no barrier

abbrev gate : ℕ → List Tag
gate id =
    if id == 3 then tag (codes "barrier") (codes "gate") ∷ tag (codes "access") (codes "private") ∷ [] else tag (codes "barrier") (codes "no") ∷ []

abbrev closed_end : Extract
closed_end = tagged gate 3 (way_of 7 residential (1 ∷ 2 ∷ 3 ∷ []) ∷ []) (ways_rise (way_of 7 residential (1 ∷ 2 ∷ 3 ∷ []))) (lit≤ tt) (lit≤ tt) (lit≤ tt) (lit≤ tt)

closed_ends : ends_told closed_end ≡ (pos 7, (pos 1, pos 3)) ∷ []
unfolding is_routable is_barrier
closed_ends = refl

closed_junctions : junctions_told closed_end ≡ (pos 1, (79, false)) ∷ (pos 3, (0, true)) ∷ []
unfolding is_routable is_barrier node_access
closed_junctions = refl

-- ---- an area is no road, and its refs without a node aren't counted

abbrev square : OsmWay
square = way_of 7 (tag (codes "highway") (codes "pedestrian") ∷ tag (codes "area") (codes "yes") ∷ []) (1 ∷ 2 ∷ 99 ∷ 1 ∷ [])

abbrev area : Extract
area = tagged untagged 2 (square ∷ []) (ways_rise square) (lit≤ tt) (lit≤ tt) (lit≤ tt) (lit≤ tt)

area_counts : ◌≡◌ {A = ℕ × (ℕ × ℕ)} (routable_ways area, (missing_refs area, length (junction_rows area))) (0, (0, 0))
unfolding is_routable is_barrier
area_counts = refl

-- ---- refusals: 4,000,000 pieces and 268,435,455 centimetres are not too many; where both limits are passed, the number
-- of pieces is refused; and of two pieces that are too long the first

abbrev piece : ℕ → ℕ → Piece
piece number cm = record {
  key = record { way = pos 7; run = 0; piece = number };
  start = pos 1;
  end = pos 2;
  shape = [];
  cm = cm;
  class = 6;
  forward = 79;
  backward = 79;
  names = [];
}

abbrev short : Piece
short = piece 0 268_435_455

none_long : (pieces : List Piece) → All (λ p. p.cm ≤ 268_435_455) pieces → find (λ p. nat_lt 268_435_455 p.cm) pieces ≡ None
none_long [] all = refl
none_long (p ∷ pieces) all =
    cond-false _ (Some p) (find (λ q. nat_lt 268_435_455 q.cm) pieces) (le-ltb 268_435_455 p.cm (All-head (λ q. q.cm ≤ 268_435_455) p pieces all))
    ∙ none_long pieces (All-tail (λ q. q.cm ≤ 268_435_455) p pieces all)

most_pieces : (pieces : List Piece) → length pieces ≡ 4_000_000 → All (λ p. p.cm ≤ 268_435_455) pieces → refusal pieces ≡ None
most_pieces pieces e all =
    cond-false _ _ _ (le-ltb 4_000_000 (length pieces) (omega (arith, e))) ∙ ap (option_map too_long) (none_long pieces all)

too_many : (pieces : List Piece) → length pieces ≡ 4_000_001 → refusal pieces ≡ Some (TooManyPieces 4_000_001)
too_many pieces e =
    cond-true _ _ _ (lt-ltb 4_000_000 (length pieces) (omega (arith, e))) ∙ ap (λ n. Some (TooManyPieces n)) e

longest : refusal (short ∷ []) ≡ None
longest = refl

first_long : refusal (short ∷ piece 1 268_435_456 ∷ piece 2 268_435_457 ∷ []) ≡ Some (EdgeTooLong (pos 7) 0 1 268_435_456)
first_long = refl
