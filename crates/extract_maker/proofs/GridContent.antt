-- The grid's file says exactly the grid.
use Rattle.std.proofs.Common.{◌≡◌, ℕ, zero, suc, ◌+◌, ◌*◌, ◌/◌, ◌%◌, ◌^◌, ◌<◌, ◌≤◌, eqb, cond, Bool, true, false, ℤ, pos, ◌≤ℤ◌, List, [], ◌∷◌, ◌++◌, map, length, Option, Some, None, refl, sym, ap, ◌∙◌, subst, arith, inl, inr, append_assoc}
use Rattle.std.specs.Prelude.{codes}
use Rattle.std.specs.List.{AllByRecursion, flat_map, range_with_len}
use Rattle.std.specs.Fmt.{decimal}
use Rattle.std.specs.Str.{IsUtf8}
use Rattle.std.proofs.lemmas.Fmt.{length-decimal-le, IsAscii-decimal}
use Rattle.std.proofs.lemmas.Str.{IsUtf8-from_ascii, IsUtf8-append}
use Rattle.std.proofs.lemmas.Int.{ints}
use lib.Utf8.{encode}
use Rattle.std.proofs.Math.Nat.{mul-le-mul_left, mul_comm}
use Rattle.std.proofs.lemmas.List.{append-nil, length-append, length-map}
use Rattle.std.proofs.lemmas.List.FromFn.{length-range_with_len}
use Rattle.std.proofs.lemmas.List.Concat.{flat_map-append}
use Rattle.osm_messages.specs.declared.kind.ObjectKind.TheVariants as kinds
use Rattle.osm_model.specs.declared.nodes.OsmNode.{OsmNode}
use Rattle.osm_model.specs.declared.ways.OsmWay.{OsmWay}
use Rattle.osm_model.specs.declared.relations.OsmRelation.{OsmRelation}
use Rattle.osm_objects.specs.Objects.{Objects, no_objects, just_nodes, just_ways, just_relations, joined}
use Rattle.extract_maker.specs.Grid.{counted, grid_node_id, grid_node, node_row, row_way_id, column_way_id, row_class, column_class, row_way, column_way, next_state, drawn_from, draws, turn_kind, turn_id, grid_turn, turn_at, turns_from, grid_nodes, grid_ways, grid_turns, grid}
use Rattle.extract_maker.specs.Spelling.{packed, packed_differences, Piece, NumberPiece, BytesPiece, message_bytes}
use Rattle.extract_maker.specs.GridFile.{table_bytes, group_bytes, block_bytes, dense_bytes, road_bytes, turn_bytes, road_texts, turn_texts, node_block, row_block, column_block, turn_block, data_bytes, turn_data, turn_file, header_file, node_file, row_file, column_file, grid_file, rising}
use Rattle.extract_maker.proofs.Varints.{few_packed}
use Rattle.extract_maker.proofs.Messages.{IsGood, message_few}
use Rattle.extract_maker.proofs.Sums.{IsSmall}
use Rattle.extract_maker.proofs.Counting.{all_counted, map_same, map_map, flat_map_map}
use Rattle.extract_maker.proofs.DataBlocks.{good_number, IsShort, is_payload}
use Rattle.extract_maker.proofs.GridObjects.{a_road, IsPlain, AreTurnTexts, few_differences, nodes_mean, road_means, turn_means}
use Rattle.extract_maker.proofs.GridChunks.{Chunk, IsChunk, chunks_bytes, all_given}

-- ---- how long blocks are

pub block_few : (table : List ℕ) (number : ℕ) (object : List ℕ) → length (block_bytes table number object) ≤ 60 + length table + length object
unfolding block_bytes
block_few table number object = omega (arith, message_few (BytesPiece 1 table ∷ BytesPiece 2 (group_bytes number object) ∷ []), message_few (BytesPiece number object ∷ []))

pub group_few : (number : ℕ) (object : List ℕ) → length (group_bytes number object) ≤ 20 + length object
group_few number object = omega (arith, message_few (BytesPiece number object ∷ []))

pub dense_few : (nodes : List OsmNode) → length (dense_bytes nodes) ≤ 60 + 30 * length nodes
unfolding dense_bytes
dense_few nodes =
    let ids : List ℤ = map (λ (node : OsmNode). node.id) nodes in
    let lats : List ℤ = map (λ (node : OsmNode). node.lat) nodes in
    let lons : List ℤ = map (λ (node : OsmNode). node.lon) nodes in
    omega (
      arith,
      few_differences ids,
      few_differences lats,
      few_differences lons,
      length-map nodes (λ (node : OsmNode). node.id),
      length-map nodes (λ (node : OsmNode). node.lat),
      length-map nodes (λ (node : OsmNode). node.lon),
      message_few (BytesPiece 1 (packed_differences ids) ∷ BytesPiece 8 (packed_differences lats) ∷ BytesPiece 9 (packed_differences lons) ∷ []),
    )

pub road_few : (id : ℕ) (refs : List ℤ) → length (road_bytes id refs) ≤ 200 + 10 * length refs
unfolding road_bytes
road_few id refs = omega (arith, few_differences refs, few_packed (1 ∷ 3 ∷ []), few_packed (2 ∷ 4 ∷ []), message_few (NumberPiece 1 id ∷ BytesPiece 2 (packed (1 ∷ 3 ∷ [])) ∷ BytesPiece 3 (packed (2 ∷ 4 ∷ [])) ∷ BytesPiece 8 (packed_differences refs) ∷ []))

pub turn_few : (id : ℕ) (from via to : ℤ) → length (turn_bytes id (from ∷ via ∷ to ∷ [])) ≤ 400
unfolding turn_bytes
turn_few id from via to = omega (
  arith,
  few_differences (from ∷ via ∷ to ∷ []),
  few_packed (1 ∷ 2 ∷ []),
  few_packed (2 ∷ 3 ∷ []),
  few_packed (4 ∷ 5 ∷ 6 ∷ []),
  few_packed (1 ∷ 0 ∷ 1 ∷ []),
  message_few (NumberPiece 1 id ∷ BytesPiece 2 (packed (1 ∷ 2 ∷ [])) ∷ BytesPiece 3 (packed (2 ∷ 3 ∷ [])) ∷ BytesPiece 8 (packed (4 ∷ 5 ∷ 6 ∷ [])) ∷ BytesPiece 9 (packed_differences (from ∷ via ∷ to ∷ [])) ∷ BytesPiece 10 (packed (1 ∷ 0 ∷ 1 ∷ [])) ∷ []),
)

pub road_table_few : (class letter : List ℕ) (number : ℕ) → length (table_bytes (road_texts class letter number)) ≤ 200 + length class + (length letter + length (decimal number))
unfolding table_bytes
road_table_few class letter number = omega (
  arith,
  length-append letter (decimal number),
  message_few (BytesPiece 1 [] ∷ BytesPiece 1 (codes "highway") ∷ BytesPiece 1 class ∷ BytesPiece 1 (codes "name") ∷ BytesPiece 1 (letter ++ decimal number) ∷ []),
)

pub turn_table_few : (kind : List ℕ) → length (table_bytes (turn_texts kind)) ≤ 300 + length kind
unfolding table_bytes
turn_table_few kind = omega (arith, message_few (BytesPiece 1 [] ∷ BytesPiece 1 (codes "type") ∷ BytesPiece 1 (codes "restriction") ∷ BytesPiece 1 kind ∷ BytesPiece 1 (codes "from") ∷ BytesPiece 1 (codes "via") ∷ BytesPiece 1 (codes "to") ∷ []))

pub empty_table_few : length (table_bytes []) ≤ 20
unfolding table_bytes
empty_table_few = omega (arith, message_few (BytesPiece 1 [] ∷ []))

-- ---- texts

pub record IsWritable (text : List ℕ) : Type 0 where
  pub utf8 : IsUtf8 text
  pub few : length text ≤ 30

-- a property of both is one of what a test picks
both : {X : Type 0} (P : X → Type 0) (b : Bool) (x y : X) → P x → P y → P (cond b x y)
both P true x y one other = one
both P false x y one other = other

text : (bytes : List ℕ) → IsUtf8 bytes → length bytes ≤ 30 → IsWritable bytes
text bytes utf8 few = record { utf8 = utf8; few = few }

pub row_class_text : (row : ℕ) → IsWritable (row_class row)
unfolding encode
row_class_text row =
    both IsWritable (eqb (row % 8) 0) (codes "primary") (cond (eqb (row % 4) 0) (codes "secondary") (codes "residential")) (text (codes "primary") (codes "primary", (refl, refl)) (omega arith))
    (both IsWritable (eqb (row % 4) 0) (codes "secondary") (codes "residential") (text (codes "secondary") (codes "secondary", (refl, refl)) (omega arith)) (text (codes "residential") (codes "residential", (refl, refl)) (omega arith)))

pub column_class_text : (column : ℕ) → IsWritable (column_class column)
unfolding encode
column_class_text column =
    both IsWritable (eqb (column % 16) 0) (codes "trunk") (codes "unclassified") (text (codes "trunk") (codes "trunk", (refl, refl)) (omega arith)) (text (codes "unclassified") (codes "unclassified", (refl, refl)) (omega arith))

name_text : (letter : List ℕ) (number : ℕ) → IsUtf8 letter → length letter ≤ 1 → number < 1000 → IsWritable (letter ++ decimal number)
name_text letter number utf8 one small = record {
  utf8 = IsUtf8-append letter (decimal number) utf8 (IsUtf8-from_ascii (decimal number) (IsAscii-decimal number (omega arith)));
  few = omega (arith, length-append letter (decimal number), length-decimal-le 3 number (omega arith) (omega arith) (omega arith));
}

-- ---- numbers

-- a node's number is small
pub product_few : (side row : ℕ) → side ≤ 500 → row < side → row * side ≤ 249_500
product_few side row few less =
    let below : row ≤ 499 = omega arith in
    let scaled : side * row ≤ side * 499 = mul-le-mul_left side below in
    omega (arith, scaled, mul_comm row side)

small : (n : ℕ) → n ≤ 10_000_000 → IsSmall (pos n)
small n few = record { least = omega (arith, ints); most = omega (arith, ints) }

node_small : (side row column : ℕ) → side ≤ 500 → row < side → column < side → IsSmall (pos (grid_node_id side row column))
node_small side row column few row_less column_less = small (grid_node_id side row column) (omega (arith, product_few side row few row_less))

-- ---- the chunks of the grid

abbrev pub node_chunk : ℕ → ℕ → Chunk
node_chunk side row = record { payload = node_block side row; given = just_nodes (node_row side row) }

abbrev pub row_chunk : ℕ → ℕ → Chunk
row_chunk side row = record { payload = row_block side row; given = just_ways (row_way side row ∷ []) }

abbrev pub column_chunk : ℕ → ℕ → Chunk
column_chunk side column = record { payload = column_block side column; given = just_ways (column_way side column ∷ []) }

abbrev pub turn_chunk : ℕ → ℕ → List ℕ → Chunk
turn_chunk side place kind = record { payload = turn_block side place kind; given = just_relations (grid_turn side place kind ∷ []) }

length_counted : {X : Type 0} (f : ℕ → X) (side : ℕ) → length (map f (counted side)) ≡ side
length_counted f side = length-map (counted side) f ∙ length-range_with_len 0 side

is_node_chunk : (side row : ℕ) → side ≤ 500 → row < side → IsChunk (node_chunk side row)
is_node_chunk side row few less =
    let nodes = node_row side row in
    let many = length_counted (grid_node side row) side in
    let dense = dense_few nodes in
    let plain = all_counted IsPlain (grid_node side row) 0 side (λ column low high. record {
      id = node_small side row column few less (omega arith);
      lat = small (row * 10_000) (omega arith);
      lon = small (column * 10_000) (omega arith);
      tags = refl;
    }) in
    record {
      few = omega (arith, block_few (table_bytes []) 2 (dense_bytes nodes), empty_table_few);
      is_payload = is_payload [] 2 kinds.DenseNodes (dense_bytes nodes) (just_nodes nodes) tt (omega (arith, empty_table_few)) (omega (arith, group_few 2 (dense_bytes nodes))) refl
          (good_number 2 (omega arith) (omega arith), omega arith) (λ place. nodes_mean place nodes plain (omega arith));
    }

highway_utf8 : IsUtf8 (codes "highway")
unfolding encode
highway_utf8 = (codes "highway", (refl, refl))

name_utf8 : IsUtf8 (codes "name")
unfolding encode
name_utf8 = (codes "name", (refl, refl))

-- a road of this class and number
is_road_chunk : (id : ℕ) (class letter : List ℕ) (number : ℕ) (refs : List ℤ) → id < 10_000_000 → IsWritable class → IsUtf8 letter → length letter ≤ 1 → number < 1000
    → AllByRecursion IsSmall refs → length refs ≤ 500
    → IsChunk (record {
      payload = block_bytes (table_bytes (road_texts class letter number)) 3 (road_bytes id refs);
      given = just_ways (a_road id class (letter ++ decimal number) refs ∷ []);
    })
is_road_chunk id class letter number refs id_small class_text letter_utf8 one number_small all few =
    let name = name_text letter number letter_utf8 one number_small in
    let class_few = class_text.few in
    let name_few = name.few in
    let object = road_few id refs in
    let table = road_table_few class letter number in
    let digits_few = length-decimal-le 3 number (omega arith) (omega arith) (omega arith) in
    record {
      few = omega (arith, block_few (table_bytes (road_texts class letter number)) 3 (road_bytes id refs));
      is_payload = is_payload (road_texts class letter number) 3 kinds.Way (road_bytes id refs) (just_ways (a_road id class (letter ++ decimal number) refs ∷ []))
          (omega arith, (omega arith, (omega arith, (omega arith, tt)))) (omega arith) (omega (arith, group_few 3 (road_bytes id refs))) refl
          (good_number 3 (omega arith) (omega arith), omega arith)
          (λ place. road_means place id class (letter ++ decimal number) refs id_small highway_utf8 name_utf8 class_text.utf8 name.utf8 all (omega arith));
    }

is_row_chunk : (side row : ℕ) → side ≤ 500 → row < side → IsChunk (row_chunk side row)
unfolding encode
is_row_chunk side row few less =
    let ref : ℕ → ℤ = λ column. pos (grid_node_id side row column) in
    let many = length_counted ref side in
    is_road_chunk (row_way_id row) (row_class row) (codes "R") row (map ref (counted side)) (omega arith) (row_class_text row) (codes "R", (refl, refl)) (omega arith) (omega arith)
    (all_counted IsSmall ref 0 side (λ column low high. node_small side row column few less (omega arith))) (omega arith)

is_column_chunk : (side column : ℕ) → side ≤ 500 → column < side → IsChunk (column_chunk side column)
unfolding encode
is_column_chunk side column few less =
    let ref : ℕ → ℤ = λ row. pos (grid_node_id side row column) in
    let many = length_counted ref side in
    is_road_chunk (column_way_id column) (column_class column) (codes "C") column (map ref (counted side)) (omega arith) (column_class_text column) (codes "C", (refl, refl)) (omega arith) (omega arith)
    (all_counted IsSmall ref 0 side (λ row low high. node_small side row column few (omega arith) less)) (omega arith)

is_turn_chunk : (side place : ℕ) (kind : List ℕ) → side ≤ 500 → place < side → IsWritable kind → IsChunk (turn_chunk side place kind)
unfolding encode
is_turn_chunk side place kind few less kind_text =
    let via_small = node_small side place place few less less in
    let kind_few = kind_text.few in
    let object = turn_few (turn_id place) (pos (row_way_id place)) (pos (grid_node_id side place place)) (pos (column_way_id place)) in
    let table = turn_table_few kind in
    let ids : List ℤ = pos (row_way_id place) ∷ pos (grid_node_id side place place) ∷ pos (column_way_id place) ∷ [] in
    record {
      few = omega (arith, block_few (table_bytes (turn_texts kind)) 4 (turn_bytes (turn_id place) ids));
      is_payload = is_payload (turn_texts kind) 4 kinds.Relation (turn_bytes (turn_id place) ids) (just_relations (grid_turn side place kind ∷ []))
          (omega arith, (omega arith, (omega arith, (omega arith, (omega arith, (omega arith, tt)))))) (omega arith) (omega (arith, group_few 4 (turn_bytes (turn_id place) ids))) refl
          (good_number 4 (omega arith) (omega arith), omega arith)
          (λ at. turn_means at (turn_id place) kind (pos (row_way_id place)) (pos (grid_node_id side place place)) (pos (column_way_id place)) (omega arith)
          (record {
            type_key = (codes "type", (refl, refl));
            restriction = (codes "restriction", (refl, refl));
            kind_text = kind_text.utf8;
            from_role = (codes "from", (refl, refl));
            via_role = (codes "via", (refl, refl));
            to_role = (codes "to", (refl, refl));
          })
          (small (row_way_id place) (omega arith)) via_small (small (column_way_id place) (omega arith)));
    }

-- ---- restrictions

abbrev pub turn_chunks_at : ℕ → ℕ → Option (List ℕ) → List Chunk
turn_chunks_at side place None = []
turn_chunks_at side place (Some kind) = turn_chunk side place kind ∷ []

abbrev pub turn_chunks : ℕ → ℕ → ℕ → ℕ → List Chunk
turn_chunks side place zero state = []
turn_chunks side place (suc many) state = turn_chunks_at side place (turn_kind (drawn_from (next_state state))) ++ turn_chunks side (place + 1) many (next_state state)

-- a draw is a text that can be written, where it means a restriction
abbrev IsWritableKind : Option (List ℕ) → Type 0
IsWritableKind None = Unit {0}
IsWritableKind (Some kind) = IsWritable kind

kind_text_of : (draw : ℕ) → IsWritableKind (turn_kind draw)
unfolding encode
kind_text_of draw =
    both IsWritableKind (eqb (draw % 3) 0) None (cond (eqb (draw % 3) 1) (Some (codes "no_left_turn")) (Some (codes "only_right_turn"))) tt
    (both IsWritableKind (eqb (draw % 3) 1) (Some (codes "no_left_turn")) (Some (codes "only_right_turn"))
    (text (codes "no_left_turn") (codes "no_left_turn", (refl, refl)) (omega arith)) (text (codes "only_right_turn") (codes "only_right_turn", (refl, refl)) (omega arith)))

all_append : {X : Type 0} (P : X → Type 0) (xs ys : List X) → AllByRecursion P xs → AllByRecursion P ys → AllByRecursion P (xs ++ ys)
all_append P [] ys one other = other
all_append P (x ∷ xs) ys one other = (one.0, all_append P xs ys one.1 other)

are_chunks_at : (side place : ℕ) (kind : Option (List ℕ)) → side ≤ 500 → place < side → IsWritableKind kind → AllByRecursion IsChunk (turn_chunks_at side place kind)
are_chunks_at side place None few less writable = tt
are_chunks_at side place (Some kind) few less writable = (is_turn_chunk side place kind few less writable, tt)

are_turn_chunks : (side place many state : ℕ) → side ≤ 500 → place + many ≤ side → AllByRecursion IsChunk (turn_chunks side place many state)
are_turn_chunks side place zero state few within = tt
are_turn_chunks side place (suc many) state few within =
    let kind = turn_kind (drawn_from (next_state state)) in
    all_append IsChunk (turn_chunks_at side place kind) (turn_chunks side (place + 1) many (next_state state))
    (are_chunks_at side place kind few (omega arith) (kind_text_of (drawn_from (next_state state)))) (are_turn_chunks side (place + 1) many (next_state state) few (omega arith))

one_chunk : (side place : ℕ) (kind : Option (List ℕ)) → length (turn_chunks_at side place kind) ≤ 1
one_chunk side place None = omega arith
one_chunk side place (Some kind) = omega arith

few_turn_chunks : (side place many state : ℕ) → length (turn_chunks side place many state) ≤ many
few_turn_chunks side place zero state = omega arith
few_turn_chunks side place (suc many) state =
    let kind = turn_kind (drawn_from (next_state state)) in
    omega (arith, length-append (turn_chunks_at side place kind) (turn_chunks side (place + 1) many (next_state state)), one_chunk side place kind, few_turn_chunks side (place + 1) many (next_state state))

-- ---- their bytes

turn_bytes_at : (side place : ℕ) (kind : Option (List ℕ)) → chunks_bytes (turn_chunks_at side place kind) ≡ turn_data side place kind
turn_bytes_at side place None = refl
turn_bytes_at side place (Some kind) = append-nil (data_bytes (turn_block side place kind))

turn_bytes_are : (side place many state : ℕ) → chunks_bytes (turn_chunks side place many state) ≡ turn_file side place many state
turn_bytes_are side place zero state = refl
turn_bytes_are side place (suc many) state =
    let kind = turn_kind (drawn_from (next_state state)) in
    flat_map-append (λ (chunk : Chunk). data_bytes chunk.payload) (turn_chunks_at side place kind) (turn_chunks side (place + 1) many (next_state state))
    ∙ ap (λ (l : List ℕ). l ++ chunks_bytes (turn_chunks side (place + 1) many (next_state state))) (turn_bytes_at side place kind)
    ∙ ap (λ (l : List ℕ). turn_data side place kind ++ l) (turn_bytes_are side (place + 1) many (next_state state))

abbrev pub grid_chunks : ℕ → ℕ → List Chunk
grid_chunks side seed = map (node_chunk side) (counted side) ++ (map (row_chunk side) (counted side) ++ (map (column_chunk side) (counted side) ++ turn_chunks side 0 side seed))

chunks_append : (xs ys : List Chunk) → chunks_bytes (xs ++ ys) ≡ chunks_bytes xs ++ chunks_bytes ys
chunks_append xs ys = flat_map-append (λ (chunk : Chunk). data_bytes chunk.payload) xs ys

pub file_is : (side seed : ℕ) → grid_file side seed ≡ header_file ++ chunks_bytes (grid_chunks side seed)
unfolding grid_file
file_is side seed =
    let payload_bytes : Chunk → List ℕ = λ chunk. data_bytes chunk.payload in
    let nodes = map (node_chunk side) (counted side) in
    let rows = map (row_chunk side) (counted side) in
    let columns = map (column_chunk side) (counted side) in
    let turns = turn_chunks side 0 side seed in
    sym (ap (λ (l : List ℕ). header_file ++ l)
    (chunks_append nodes (rows ++ (columns ++ turns))
    ∙ ap (λ (l : List ℕ). chunks_bytes nodes ++ l) (chunks_append rows (columns ++ turns) ∙ ap (λ (l : List ℕ). chunks_bytes rows ++ l) (chunks_append columns turns))
    ∙ (λ i. flat_map_map payload_bytes (node_chunk side) (counted side) i
    ++ (flat_map_map payload_bytes (row_chunk side) (counted side) i
    ++ (flat_map_map payload_bytes (column_chunk side) (counted side) i ++ turn_bytes_are side 0 side seed i)))))

pub are_grid_chunks : (side seed : ℕ) → side ≤ 500 → AllByRecursion IsChunk (grid_chunks side seed)
are_grid_chunks side seed few =
    all_append IsChunk (map (node_chunk side) (counted side)) (map (row_chunk side) (counted side) ++ (map (column_chunk side) (counted side) ++ turn_chunks side 0 side seed))
    (all_counted IsChunk (node_chunk side) 0 side (λ row low high. is_node_chunk side row few (omega arith)))
    (all_append IsChunk (map (row_chunk side) (counted side)) (map (column_chunk side) (counted side) ++ turn_chunks side 0 side seed)
    (all_counted IsChunk (row_chunk side) 0 side (λ row low high. is_row_chunk side row few (omega arith)))
    (all_append IsChunk (map (column_chunk side) (counted side)) (turn_chunks side 0 side seed)
    (all_counted IsChunk (column_chunk side) 0 side (λ column low high. is_column_chunk side column few (omega arith)))
    (are_turn_chunks side 0 side seed few (omega arith))))

pub few_grid_chunks : (side seed : ℕ) → side ≤ 500 → length (grid_chunks side seed) ≤ 2_000
few_grid_chunks side seed few =
    let nodes = map (node_chunk side) (counted side) in
    let rows = map (row_chunk side) (counted side) in
    let columns = map (column_chunk side) (counted side) in
    let turns = turn_chunks side 0 side seed in
    omega (
      arith,
      length-append nodes (rows ++ (columns ++ turns)),
      length-append rows (columns ++ turns),
      length-append columns turns,
      length_counted (node_chunk side) side,
      length_counted (row_chunk side) side,
      length_counted (column_chunk side) side,
      few_turn_chunks side 0 side seed,
    )

-- ---- what they give

given_append : (xs ys : List Chunk) → all_given (xs ++ ys) ≡ joined (all_given xs) (all_given ys)
given_append [] ys = refl
given_append (x ∷ xs) ys =
    let rest = given_append xs ys in
    ap (λ (o : Objects). joined x.given o) rest ∙ (λ i. record {
      nodes = sym (append_assoc x.given.nodes (all_given xs).nodes (all_given ys).nodes) i;
      ways = sym (append_assoc x.given.ways (all_given xs).ways (all_given ys).ways) i;
      relations = sym (append_assoc x.given.relations (all_given xs).relations (all_given ys).relations) i;
    })

nodes_given : (side : ℕ) (rows : List ℕ) → all_given (map (node_chunk side) rows) ≡ just_nodes (flat_map (node_row side) rows)
nodes_given side [] = refl
nodes_given side (row ∷ rows) = ap (λ (o : Objects). joined (just_nodes (node_row side row)) o) (nodes_given side rows)

rows_given : (side : ℕ) (rows : List ℕ) → all_given (map (row_chunk side) rows) ≡ just_ways (map (row_way side) rows)
rows_given side [] = refl
rows_given side (row ∷ rows) = ap (λ (o : Objects). joined (just_ways (row_way side row ∷ [])) o) (rows_given side rows)

columns_given : (side : ℕ) (columns : List ℕ) → all_given (map (column_chunk side) columns) ≡ just_ways (map (column_way side) columns)
columns_given side [] = refl
columns_given side (column ∷ columns) = ap (λ (o : Objects). joined (just_ways (column_way side column ∷ [])) o) (columns_given side columns)

turn_given_at : (side place : ℕ) (kind : Option (List ℕ)) → all_given (turn_chunks_at side place kind) ≡ just_relations (turn_at side place kind)
turn_given_at side place None = refl
turn_given_at side place (Some kind) = refl

turns_given : (side place many state : ℕ) → all_given (turn_chunks side place many state) ≡ just_relations (turns_from side place (draws many state))
turns_given side place zero state = refl
turns_given side place (suc many) state =
    let kind = turn_kind (drawn_from (next_state state)) in
    given_append (turn_chunks_at side place kind) (turn_chunks side (place + 1) many (next_state state))
    ∙ (λ i. joined (turn_given_at side place kind i) (turns_given side (place + 1) many (next_state state) i))

pub grid_given : (side seed : ℕ) → all_given (grid_chunks side seed) ≡ grid side seed
unfolding grid
grid_given side seed =
    let nodes = map (node_chunk side) (counted side) in
    let rows = map (row_chunk side) (counted side) in
    let columns = map (column_chunk side) (counted side) in
    let turns = turn_chunks side 0 side seed in
    given_append nodes (rows ++ (columns ++ turns))
    ∙ ap (λ (o : Objects). joined (all_given nodes) o) (given_append rows (columns ++ turns) ∙ ap (λ (o : Objects). joined (all_given rows) o) (given_append columns turns))
    ∙ (λ i. joined (nodes_given side (counted side) i) (joined (rows_given side (counted side) i) (joined (columns_given side (counted side) i) (turns_given side 0 side seed i))))
    ∙ (λ i. record {
      nodes = append-nil (grid_nodes side) i;
      ways = map (row_way side) (counted side) ++ append-nil (map (column_way side) (counted side)) i;
      relations = grid_turns side seed;
    })

-- ---- how long the parts of blocks are

pub node_object_few : (side row : ℕ) → side ≤ 500 → length (dense_bytes (node_row side row)) ≤ 100_000
node_object_few side row few = omega (arith, dense_few (node_row side row), length_counted (grid_node side row) side)

pub road_object_few : (id first step many : ℕ) → many ≤ 500 → length (road_bytes id (rising first step many)) ≤ 100_000
road_object_few id first step many few = omega (arith, road_few id (rising first step many), length_counted (λ i. pos (first + i * step)) many)

pub row_table_few : (row : ℕ) → row < 500 → length (table_bytes (road_texts (row_class row) (codes "R") row)) ≤ 10_000
row_table_few row few = let class = (row_class_text row).few in omega (arith, road_table_few (row_class row) (codes "R") row, length-decimal-le 3 row (omega arith) (omega arith) (omega arith))

pub column_table_few : (column : ℕ) → column < 500 → length (table_bytes (road_texts (column_class column) (codes "C") column)) ≤ 10_000
column_table_few column few = let class = (column_class_text column).few in omega (arith, road_table_few (column_class column) (codes "C") column, length-decimal-le 3 column (omega arith) (omega arith) (omega arith))

pub left_kind : (draw : ℕ) → draw % 3 ≡ 1 → turn_kind draw ≡ Some (codes "no_left_turn")
left_kind draw e = ap (λ (k : ℕ). cond (eqb k 0) None (cond (eqb k 1) (Some (codes "no_left_turn")) (Some (codes "only_right_turn")))) e

pub right_kind : (draw : ℕ) → draw % 3 ≡ 2 → turn_kind draw ≡ Some (codes "only_right_turn")
right_kind draw e = ap (λ (k : ℕ). cond (eqb k 0) None (cond (eqb k 1) (Some (codes "no_left_turn")) (Some (codes "only_right_turn")))) e
