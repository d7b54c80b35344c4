-- The definitions, computed on small extracts that were worked out by hand.
use Rattle.std.proofs.Common.{◌≡◌, ℕ, zero, suc, ◌+◌, ◌<◌, ◌≤◌, ℤ, pos, List, [], ◌∷◌, length, map, refl, arith, ap, ◌∙◌, lit≤}
use Rattle.std.specs.Prelude.{codes, ◌<ℤ◌, ◌≤ℤ◌, neg_ℤ, All, sum_by}
use Rattle.std.proofs.lemmas.List.{length-map}
use Rattle.std.proofs.lemmas.List.Sums.{sum_by-cons}
use Rattle.std.proofs.lemmas.List.Kept.{AllPairs-cons}
use Rattle.std.proofs.lemmas.List.Elements.{All-cons, All-nil}
use Rattle.std.proofs.lemmas.Int.{ints}
use Rattle.osm_model.specs.declared.nodes.OsmNode.{OsmNode}
use Rattle.osm_model.specs.declared.ways.OsmWay.{OsmWay}
use Rattle.osm_model.specs.declared.extract.Extract.{Extract}
use Rattle.osm_model.specs.OsmNode.{IsPlaced}
use Rattle.osm_model.specs.Extract.{NodesRise, WaysRise, RelationsRise, refs_in, tags_in}
use Rattle.road_pieces.specs.Rules.{is_routable, is_barrier}
use Rattle.road_pieces.specs.Runs.{all_runs}
use Rattle.road_pieces.specs.Rows.{piece_rows, junction_rows, missing_refs}

-- so many nodes where the equator meets the first meridian, their ids from id on
abbrev pub the_node : ℕ → OsmNode
the_node id = record { id = pos id; lat = pos 0; lon = pos 0; tags = [] }

abbrev pub nodes_from : ℕ → ℕ → List OsmNode
nodes_from id zero = []
nodes_from id (suc count) = the_node id ∷ nodes_from (id + 1) count

-- a residential way
abbrev pub road : List ℕ → OsmWay
road refs = record { id = pos 7; tags = record { key = codes "highway"; value = codes "residential" } ∷ []; refs = map pos refs }

-- these lists are those of an extract
rising : (low id count : ℕ) → low < id → All (λ n. pos low <ℤ n.id) (nodes_from id count)
rising low id zero h = All-nil (λ n. pos low <ℤ n.id)
rising low id (suc count) h =
    All-cons (λ n. pos low <ℤ n.id) (the_node id) (nodes_from (id + 1) count) (omega (arith, ints)) (rising low (id + 1) count (omega arith))

pub nodes_rise : (id count : ℕ) → NodesRise (nodes_from id count)
nodes_rise id zero = λ i j d h l. absurd (omega arith)
nodes_rise id (suc count) =
    AllPairs-cons (λ a b. a.id <ℤ b.id) (the_node id) (nodes_from (id + 1) count) (rising id (id + 1) count (omega arith)) (nodes_rise (id + 1) count)

-- a test of one number that computes
low : (n : ℕ) → neg_ℤ (pos n) ≤ℤ pos 0
low n = omega (arith, ints)

pub placed_node : (id : ℕ) → IsPlaced (the_node id)
placed_node id =
    record { from_south = low 900_000_000; to_north = omega (arith, ints); from_west = low 1_800_000_000; to_east = omega (arith, ints) }

pub placed : (id count : ℕ) → All IsPlaced (nodes_from id count)
placed id zero = All-nil IsPlaced
placed id (suc count) = All-cons IsPlaced (the_node id) (nodes_from (id + 1) count) (placed_node id) (placed (id + 1) count)

pub ways_rise : (way : OsmWay) → WaysRise (way ∷ [])
ways_rise way = λ i j d h l. absurd (omega arith)

pub relations_rise : RelationsRise []
relations_rise = λ i j d h l. absurd (omega arith)

node_limit : (id count : ℕ) → length (nodes_from id count) ≡ count
node_limit id zero = refl
node_limit id (suc count) = ap suc (node_limit (id + 1) count)

pub few_nodes : (id count : ℕ) → count ≤ 1_000 → length (nodes_from id count) ≤ 10_000_000
few_nodes id count h = omega (arith, node_limit id count)

pub few_refs : (refs : List ℕ) → length refs ≤ 1_000 → refs_in (road refs ∷ []) ≤ 20_000_000
few_refs refs h = omega (arith, length-map refs pos, sum_by-cons (λ way. length way.refs) (road refs) [])

node_tags : (id count : ℕ) → sum_by (λ n. length n.tags) (nodes_from id count) ≡ 0
node_tags id zero = refl
node_tags id (suc count) =
    sum_by-cons (λ n. length n.tags) (the_node id) (nodes_from (id + 1) count) ∙ omega (arith, node_tags (id + 1) count)

pub few_tags : (id count : ℕ) (refs : List ℕ) → tags_in (nodes_from id count) (road refs ∷ []) [] ≤ 20_000_000
few_tags id count refs = omega (arith, node_tags id count)

-- an extract of so many nodes, their ids from 1 on, and one residential way with these refs
abbrev pub small : (count : ℕ) (refs : List ℕ) → count ≤ 1_000 → length refs ≤ 1_000 → Extract
small count refs few short = record {
  nodes = nodes_from 1 count;
  ways = road refs ∷ [];
  relations = [];
  nodes_rise = nodes_rise 1 count;
  ways_rise = ways_rise (road refs);
  relations_rise = relations_rise;
  placed = placed 1 count;
  node_limit = few_nodes 1 count few;
  way_limit = lit≤ tt;
  relation_limit = lit≤ tt;
  ref_limit = few_refs refs short;
  member_limit = lit≤ tt;
  tag_limit = few_tags 1 count refs;
}

-- where the pieces of an extract start and end, after their numbers of run and piece
abbrev outline : Extract → List ((ℕ × ℕ) × (ℤ × ℤ))
outline x = map {B = (ℕ × ℕ) × (ℤ × ℤ)} (λ p. ((p.key.run, p.key.piece), (p.start, p.end))) (piece_rows x)

-- the ids of its junctions
abbrev crossings : Extract → List ℤ
crossings x = map (λ j. j.osm) (junction_rows x)

-- refs 1, 2, 3, 4, 2: node 2 is a junction; a piece from 1 to 2, and a loop
abbrev pub lasso : Extract
lasso = small 4 (1 ∷ 2 ∷ 3 ∷ 4 ∷ 2 ∷ []) (lit≤ tt) (lit≤ tt)

lasso_crossings : crossings lasso ≡ pos 1 ∷ pos 2 ∷ []
unfolding is_routable is_barrier
lasso_crossings = refl

lasso_pieces : outline lasso ≡ ((0, 0), (pos 1, pos 2)) ∷ ((0, 1), (pos 2, pos 2)) ∷ []
unfolding is_routable is_barrier
lasso_pieces = refl

-- refs 1, 1, 2: the run 1, 2
abbrev pub twice : Extract
twice = small 2 (1 ∷ 1 ∷ 2 ∷ []) (lit≤ tt) (lit≤ tt)

twice_runs : all_runs twice ≡ (pos 1 ∷ pos 2 ∷ []) ∷ []
unfolding is_routable is_barrier
twice_runs = refl

-- refs 1, 1: no run
abbrev pub alone : Extract
alone = small 1 (1 ∷ 1 ∷ []) (lit≤ tt) (lit≤ tt)

alone_runs : all_runs alone ≡ []
unfolding is_routable is_barrier
alone_runs = refl

-- refs 1, 2, 99, 3, 4 without node 99: two runs, four junctions, two pieces, one missing ref
abbrev pub clipped : Extract
clipped = small 4 (1 ∷ 2 ∷ 99 ∷ 3 ∷ 4 ∷ []) (lit≤ tt) (lit≤ tt)

clipped_runs : all_runs clipped ≡ (pos 1 ∷ pos 2 ∷ []) ∷ (pos 3 ∷ pos 4 ∷ []) ∷ []
unfolding is_routable is_barrier
clipped_runs = refl

clipped_crossings : crossings clipped ≡ pos 1 ∷ pos 2 ∷ pos 3 ∷ pos 4 ∷ []
unfolding is_routable is_barrier
clipped_crossings = refl

clipped_pieces : outline clipped ≡ ((0, 0), (pos 1, pos 2)) ∷ ((1, 0), (pos 3, pos 4)) ∷ []
unfolding is_routable is_barrier
clipped_pieces = refl

clipped_missing : missing_refs clipped ≡ 1
unfolding is_routable is_barrier
clipped_missing = refl

-- refs 1, 2, 3, 1, 4, 5, 1: one junction and two loops
abbrev pub loops : Extract
loops = small 5 (1 ∷ 2 ∷ 3 ∷ 1 ∷ 4 ∷ 5 ∷ 1 ∷ []) (lit≤ tt) (lit≤ tt)

loops_crossings : crossings loops ≡ pos 1 ∷ []
unfolding is_routable is_barrier
loops_crossings = refl

loops_pieces : outline loops ≡ ((0, 0), (pos 1, pos 1)) ∷ ((0, 1), (pos 1, pos 1)) ∷ []
unfolding is_routable is_barrier
loops_pieces = refl
