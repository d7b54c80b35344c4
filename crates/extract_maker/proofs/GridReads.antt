-- The bytes of the grid's file are a file of the grid's lists.
use Rattle.std.proofs.Common.{◌≡◌, ℕ, zero, suc, ◌+◌, ◌*◌, ◌<◌, ◌≤◌, ℤ, pos, List, [], ◌∷◌, ◌++◌, map, length, Option, Some, None, refl, sym, ap, ◌∙◌, subst, arith}
use Rattle.std.specs.List.{AllByRecursion, AllPairs, flat_map, range_with_len, sum_by}
use Rattle.std.proofs.lemmas.List.{length-append, length-map}
use Rattle.std.proofs.lemmas.List.FromFn.{length-range_with_len}
use Rattle.std.proofs.lemmas.List.Concat.{length-flat_map}
use Rattle.std.proofs.lemmas.List.Elements.{All-from_recursion}
use Rattle.std.proofs.lemmas.List.Sums.{sum_by-le}
use Rattle.std.proofs.lemmas.List.Sorted.{IsPermutation-refl}
use Rattle.std.proofs.Math.Nat.{mul-le-mul_left, mul_comm}
use Rattle.osm_model.specs.declared.nodes.OsmNode.{OsmNode}
use Rattle.osm_model.specs.declared.ways.OsmWay.{OsmWay}
use Rattle.osm_model.specs.declared.relations.OsmRelation.{OsmRelation}
use Rattle.osm_model.specs.Extract.{refs_in, members_in, tags_of_nodes, tags_of_ways, tags_of_relations, AreWithin}
use Rattle.osm_objects.specs.Objects.{Objects}
use Rattle.osm_blocks.specs.Order.{InOrder}
use Rattle.osm_blocks.specs.Extracts.{node_id, way_id, relation_id}
use Rattle.osm_blocks.specs.FileContent.{AllGive, IsFileOf}
use Rattle.extract_maker.specs.Grid.{counted, grid_node_id, grid_node, node_row, row_way, column_way, row_way_id, column_way_id, next_state, drawn_from, draws, turn_kind, turn_id, grid_turn, turn_at, turns_from, grid_nodes, grid_ways, grid_turns, grid}
use Rattle.extract_maker.specs.GridFile.{grid_file, header_file}
use Rattle.extract_maker.proofs.Counting.{all_counted}
use Rattle.extract_maker.proofs.RisingIds.{Rises, rises_lower, rises_append, all_pairs, rises_counted, rises_joined}
use Rattle.extract_maker.proofs.GridChunks.{chunks_bytes, file_blobs, file_triples, file_gives, file_headed, file_headers_first, all_given}
use Rattle.extract_maker.proofs.GridContent.{grid_chunks, file_is, are_grid_chunks, few_grid_chunks, grid_given}

-- ---- order

row_rises : (side row : ℕ) → Rises node_id (row * side + 1) ((row + 1) * side + 1) (node_row side row)
row_rises side row =
    let first : row * side + 1 + 0 ≡ row * side + 1 = omega arith in
    let next : row * side + 1 + (0 + side) ≡ (row + 1) * side + 1 = omega (arith, mul_comm (row + 1) side, mul_comm row side) in
    subst (λ (k : ℕ). Rises node_id (row * side + 1) k (node_row side row)) next
    (subst (λ (k : ℕ). Rises node_id k (row * side + 1 + (0 + side)) (node_row side row)) first
    (rises_counted node_id (grid_node side row) (row * side + 1) 0 side (λ column. ap (λ (k : ℕ). pos k) (moved (row * side) column))))
  where
    moved : (a b : ℕ) → a + b + 1 ≡ a + 1 + b
    moved a b = omega arith

nodes_rise : (side : ℕ) → Rises node_id (0 * side + 1) ((0 + side) * side + 1) (grid_nodes side)
nodes_rise side = rises_joined node_id (node_row side) (λ row. row * side + 1) 0 side (row_rises side)

ways_rise : (side : ℕ) → side ≤ 500 → Rises way_id 1_000_000 3_000_000 (grid_ways side)
ways_rise side few =
    rises_append way_id 1_000_000 2_000_000 3_000_000 (map (row_way side) (counted side)) (map (column_way side) (counted side))
    (rises_higher way_id (1_000_000 + 0) (1_000_000 + (0 + side)) 2_000_000 (map (row_way side) (counted side)) (omega arith) (rises_counted way_id (row_way side) 1_000_000 0 side (λ row. refl)))
    (rises_higher way_id (2_000_000 + 0) (2_000_000 + (0 + side)) 3_000_000 (map (column_way side) (counted side)) (omega arith) (rises_counted way_id (column_way side) 2_000_000 0 side (λ column. refl)))
  where
    rises_higher : {X : Type 0} (id_of : X → ℤ) (low high higher : ℕ) (xs : List X) → high ≤ higher → Rises id_of low high xs → Rises id_of low higher xs
    rises_higher id_of low high higher [] above rises = omega arith
    rises_higher id_of low high higher (x ∷ xs) above rises = (rises.0, rises.1, rises.2, rises_higher id_of (rises.0 + 1) high higher xs above rises.3)

turn_rises_at : (side place : ℕ) (kind : Option (List ℕ)) → Rises relation_id (turn_id place) (turn_id (place + 1)) (turn_at side place kind)
turn_rises_at side place None = omega arith
turn_rises_at side place (Some kind) = (turn_id place, refl, omega arith, omega arith)

turns_rise : (side place : ℕ) (numbers : List ℕ) → Rises relation_id (turn_id place) (turn_id (place + length numbers)) (turns_from side place numbers)
turns_rise side place [] = omega arith
turns_rise side place (draw ∷ numbers) =
    let same : turn_id (place + 1 + length numbers) ≡ turn_id (place + suc (length numbers)) = omega arith in
    subst (λ (k : ℕ). Rises relation_id (turn_id place) k (turns_from side place (draw ∷ numbers))) same
    (rises_append relation_id (turn_id place) (turn_id (place + 1)) (turn_id (place + 1 + length numbers)) (turn_at side place (turn_kind draw)) (turns_from side (place + 1) numbers)
    (turn_rises_at side place (turn_kind draw)) (turns_rise side (place + 1) numbers))

in_order : {X : Type 0} (id_of : X → ℤ) (low high : ℕ) (xs : List X) → Rises id_of low high xs → InOrder id_of xs xs
in_order id_of low high xs rises = record { same = IsPermutation-refl xs; rises = all_pairs id_of low high xs rises }

-- ---- counts

length_counted : {X : Type 0} (f : ℕ → X) (side : ℕ) → length (map f (counted side)) ≡ side
length_counted f side = length-map (counted side) f ∙ length-range_with_len 0 side

sum_few : {X : Type 0} (f : X → ℕ) (most : ℕ) (xs : List X) → AllByRecursion (λ x. f x ≤ most) xs → sum_by f xs ≤ length xs * most
sum_few f most xs all = sum_by-le f most xs (All-from_recursion (λ x. f x ≤ most) xs all)

joined_few : {X : Type 0} (f : ℕ → List X) (many a n : ℕ) → ((i : ℕ) → length (f i) ≡ many) → length (flat_map f (range_with_len a n)) ≡ n * many
joined_few f many a zero each = omega arith
joined_few f many a (suc n) each = omega (arith, length-append (f a) (flat_map f (range_with_len (a + 1) n)), each a, joined_few f many (a + 1) n each, mul_comm (suc n) many, mul_comm n many)

node_count : (side : ℕ) → length (grid_nodes side) ≡ side * side
node_count side = joined_few (node_row side) side 0 side (λ row. length_counted (grid_node side row) side)

way_count : (side : ℕ) → length (grid_ways side) ≡ side + side
way_count side =
    omega (arith, length-append (map (row_way side) (counted side)) (map (column_way side) (counted side)), length_counted (row_way side) side, length_counted (column_way side) side)

one_turn : (side place : ℕ) (kind : Option (List ℕ)) → length (turn_at side place kind) ≤ 1
one_turn side place None = omega arith
one_turn side place (Some kind) = omega arith

few_turns : (side place : ℕ) (numbers : List ℕ) → length (turns_from side place numbers) ≤ length numbers
few_turns side place [] = omega arith
few_turns side place (draw ∷ numbers) =
    omega (arith, length-append (turn_at side place (turn_kind draw)) (turns_from side (place + 1) numbers), one_turn side place (turn_kind draw), few_turns side (place + 1) numbers)

length_draws : (many state : ℕ) → length (draws many state) ≡ many
length_draws zero state = refl
length_draws (suc many) state = ap (λ (k : ℕ). suc k) (length_draws many (next_state state))

all_append : {X : Type 0} (P : X → Type 0) (xs ys : List X) → AllByRecursion P xs → AllByRecursion P ys → AllByRecursion P (xs ++ ys)
all_append P [] ys one other = other
all_append P (x ∷ xs) ys one other = (one.0, all_append P xs ys one.1 other)

-- what holds of each node, each way and each restriction of the grid
all_nodes : (P : OsmNode → Type 0) (side a n : ℕ) → ((row column : ℕ) → P (grid_node side row column)) → AllByRecursion P (flat_map (node_row side) (range_with_len a n))
all_nodes P side a zero each = tt
all_nodes P side a (suc n) each =
    all_append P (node_row side a) (flat_map (node_row side) (range_with_len (a + 1) n))
    (all_counted P (grid_node side a) 0 side (λ column low high. each a column)) (all_nodes P side (a + 1) n each)

all_ways : (P : OsmWay → Type 0) (side : ℕ) → ((row : ℕ) → P (row_way side row)) → ((column : ℕ) → P (column_way side column)) → AllByRecursion P (grid_ways side)
all_ways P side rows columns =
    all_append P (map (row_way side) (counted side)) (map (column_way side) (counted side))
    (all_counted P (row_way side) 0 side (λ row low high. rows row)) (all_counted P (column_way side) 0 side (λ column low high. columns column))

all_turns : (P : OsmRelation → Type 0) (side place : ℕ) (numbers : List ℕ) → ((at : ℕ) (kind : List ℕ) → P (grid_turn side at kind)) → AllByRecursion P (turns_from side place numbers)
all_turns P side place [] each = tt
all_turns P side place (draw ∷ numbers) each =
    all_append P (turn_at side place (turn_kind draw)) (turns_from side (place + 1) numbers) (at (turn_kind draw)) (all_turns P side (place + 1) numbers each)
  where
    at : (kind : Option (List ℕ)) → AllByRecursion P (turn_at side place kind)
    at None = tt
    at (Some kind) = (each place kind, tt)

square_few : (side : ℕ) → side ≤ 500 → side * side ≤ 250_000
square_few side few = let scaled : side * side ≤ side * 500 = mul-le-mul_left side few in omega (arith, scaled)

grid_within : (side seed : ℕ) → side ≤ 500 → AreWithin (grid_nodes side) (grid_ways side) (grid_turns side seed)
grid_within side seed few =
    let nodes = node_count side in
    let ways = way_count side in
    let square = square_few side few in
    let numbers = draws side seed in
    let turns = few_turns side 0 numbers in
    let drawn = length_draws side seed in
    let refs = sum_few (λ (way : OsmWay). length way.refs) side (grid_ways side) (all_ways (λ (way : OsmWay). length way.refs ≤ side) side
    (λ row. omega (arith, length_counted (λ column. pos (grid_node_id side row column)) side)) (λ column. omega (arith, length_counted (λ row. pos (grid_node_id side row column)) side))) in
    let members = sum_few (λ (relation : OsmRelation). length relation.members) 3 (grid_turns side seed) (all_turns (λ (relation : OsmRelation). length relation.members ≤ 3) side 0 numbers (λ at kind. omega arith)) in
    let node_tags = sum_few (λ (node : OsmNode). length node.tags) 0 (grid_nodes side) (all_nodes (λ (node : OsmNode). length node.tags ≤ 0) side 0 side (λ row column. omega arith)) in
    let way_tags = sum_few (λ (way : OsmWay). length way.tags) 2 (grid_ways side) (all_ways (λ (way : OsmWay). length way.tags ≤ 2) side (λ row. omega arith) (λ column. omega arith)) in
    let turn_tags = sum_few (λ (relation : OsmRelation). length relation.tags) 2 (grid_turns side seed) (all_turns (λ (relation : OsmRelation). length relation.tags ≤ 2) side 0 numbers (λ at kind. omega arith)) in
    let scaled : length (grid_ways side) * side ≤ length (grid_ways side) * 500 = mul-le-mul_left (length (grid_ways side)) few in
    record {
      node_limit = omega arith;
      way_limit = omega arith;
      relation_limit = omega arith;
      ref_limit = omega arith;
      member_limit = omega arith;
      tag_limit = omega arith;
    }

-- ---- the file

pub grid_file_of : (side seed : ℕ) → side ≤ 500 → IsFileOf (grid_file side seed) (grid side seed)
unfolding grid
grid_file_of side seed few =
    let chunks = grid_chunks side seed in
    let are = are_grid_chunks side seed few in
    let file : IsFileOf (header_file ++ chunks_bytes chunks) (grid side seed) = record {
      blobs = file_blobs chunks;
      triples = file_triples chunks are (few_grid_chunks side seed few);
      headed = file_headed chunks;
      headers_first = file_headers_first chunks;
      all = grid side seed;
      gives = subst (λ (o : Objects). AllGive (file_blobs chunks) o) (grid_given side seed) (file_gives chunks are);
      nodes = in_order node_id (0 * side + 1) ((0 + side) * side + 1) (grid_nodes side) (nodes_rise side);
      ways = in_order way_id 1_000_000 3_000_000 (grid_ways side) (ways_rise side few);
      relations = in_order relation_id (turn_id 0) (turn_id (0 + length (draws side seed))) (grid_turns side seed) (turns_rise side 0 (draws side seed));
      within = grid_within side seed few;
    } in
    subst (λ (bytes : List ℕ). IsFileOf bytes (grid side seed)) (sym (file_is side seed)) file
