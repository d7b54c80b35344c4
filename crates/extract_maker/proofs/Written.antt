-- What is written piece by piece is the whole.
use Rattle.std.proofs.Common.{◌≡◌, ℕ, zero, suc, ◌+◌, ◌*◌, ℤ, pos, List, [], ◌∷◌, ◌++◌, map, length, refl, sym, ap, ◌∙◌, subst, arith, append_assoc}
use Rattle.std.specs.Prelude.{codes}
use Rattle.std.specs.Int.{w32, to_be_bytes}
use Rattle.std.specs.List.{flat_map, range_with_len}
use Rattle.std.proofs.lemmas.List.{append-nil, length-append}
use Rattle.std.proofs.lemmas.List.Concat.{flat_map-append}
use Rattle.osm_model.specs.declared.nodes.OsmNode.{OsmNode}
use Rattle.extract_maker.specs.Grid.{counted, node_row, grid_node, grid_node_id}
use Rattle.extract_maker.specs.Spelling.{groups_written, varint_bytes, packed, packed_differences, Piece, NumberPiece, BytesPiece, number_field, field_front, bytes_field, message_bytes}
use Rattle.extract_maker.specs.GridFile.{header_bytes, body_bytes, triple_front, triple_bytes, features_bytes, table_bytes, group_bytes, block_bytes, dense_bytes, road_bytes, turn_bytes, rising, data_bytes, header_file}
use Rattle.extract_maker.proofs.Counting.{map_map, map_same, range_more}

-- ---- triples

-- three lists behind bytes
three : (out a b c : List ℕ) → ((out ++ a) ++ b) ++ c ≡ out ++ (a ++ (b ++ c))
three out a b c = append_assoc (out ++ a) b c ∙ append_assoc out a (b ++ c)

four : (out a b c d : List ℕ) → (((out ++ a) ++ b) ++ c) ++ d ≡ out ++ (a ++ (b ++ (c ++ d)))
four out a b c d = append_assoc ((out ++ a) ++ b) c d ∙ three out a b (c ++ d)

length_field : (number : ℕ) (bytes : List ℕ) → length (bytes_field number bytes) ≡ length (field_front number (length bytes)) + length bytes
length_field number bytes = length-append (field_front number (length bytes)) bytes

pub front_written : (out kind : List ℕ) (many size header : ℕ) → size ≡ length (field_front 1 many) + many
    → header ≡ (length (field_front 1 (length kind)) + length kind) + length (varint_bytes 24) + length (varint_bytes size)
    → (((out ++ to_be_bytes w32 header) ++ bytes_field 1 kind) ++ number_field 3 size) ++ field_front 1 many ≡ out ++ triple_front kind many
unfolding triple_front
front_written out kind many size header size_is header_is =
    let whole = header_bytes kind size in
    let parts : whole ≡ bytes_field 1 kind ++ number_field 3 size = ap (λ (l : List ℕ). bytes_field 1 kind ++ l) (append-nil (number_field 3 size)) in
    let same : header ≡ length whole =
    header_is ∙ sym (ap (λ (l : List ℕ). length l) parts ∙ length-append (bytes_field 1 kind) (number_field 3 size) ∙ sums _ _ _ _ _ _ (length_field 1 kind) (length-append (varint_bytes 24) (varint_bytes size))) in
    four out (to_be_bytes w32 header) (bytes_field 1 kind) (number_field 3 size) (field_front 1 many)
    ∙ ap (λ (l : List ℕ). out ++ (to_be_bytes w32 header ++ l)) (sym (append_assoc (bytes_field 1 kind) (number_field 3 size) (field_front 1 many)))
    ∙ ap (λ (l : List ℕ). out ++ (to_be_bytes w32 header ++ (l ++ field_front 1 many))) (sym parts)
    ∙ ap (λ (k : ℕ). out ++ (to_be_bytes w32 k ++ (whole ++ field_front 1 many))) same
    ∙ ap (λ (l : List ℕ). out ++ l) (sym (append_assoc (to_be_bytes w32 (length whole)) whole (field_front 1 many)))
    ∙ ap (λ (k : ℕ). out ++ ((to_be_bytes w32 (length (header_bytes kind k)) ++ header_bytes kind k) ++ field_front 1 many)) size_is
  where
    sums : (a b c d e f : ℕ) → a ≡ b + c → d ≡ e + f → a + d ≡ b + c + e + f
    sums a b c d e f one other = omega arith

-- a payload behind all else of its triple
pub triple_written : (kind payload : List ℕ) → triple_front kind (length payload) ++ payload ≡ triple_bytes kind payload
unfolding triple_front triple_bytes
triple_written kind payload =
    let front = field_front 1 (length payload) in
    let body : body_bytes payload ≡ front ++ payload = append-nil (bytes_field 1 payload) in
    let size : length front + length payload ≡ length (body_bytes payload) = sym (ap (λ (l : List ℕ). length l) body ∙ length-append front payload) in
    let header = header_bytes kind (length front + length payload) in
    append_assoc (to_be_bytes w32 (length header) ++ header) front payload
    ∙ ap (λ (l : List ℕ). (to_be_bytes w32 (length header) ++ header) ++ l) (sym body)
    ∙ ap (λ (k : ℕ). (to_be_bytes w32 (length (header_bytes kind k)) ++ header_bytes kind k) ++ body_bytes payload) size

features_parts : bytes_field 4 (codes "OsmSchema-V0.6") ++ bytes_field 4 (codes "DenseNodes") ≡ features_bytes
unfolding features_bytes
features_parts = ap (λ (l : List ℕ). bytes_field 4 (codes "OsmSchema-V0.6") ++ l) (sym (append-nil (bytes_field 4 (codes "DenseNodes"))))

features_length : 28 ≡ length features_bytes
unfolding features_bytes varint_bytes groups_written
features_length = refl

pub header_written : (out : List ℕ) → ((out ++ triple_front (codes "OSMHeader") 28) ++ bytes_field 4 (codes "OsmSchema-V0.6")) ++ bytes_field 4 (codes "DenseNodes") ≡ out ++ header_file
header_written out =
    let a = bytes_field 4 (codes "OsmSchema-V0.6") in
    let b = bytes_field 4 (codes "DenseNodes") in
    three out (triple_front (codes "OSMHeader") 28) a b
    ∙ ap (λ (l : List ℕ). out ++ (triple_front (codes "OSMHeader") 28 ++ l)) features_parts
    ∙ ap (λ (k : ℕ). out ++ (triple_front (codes "OSMHeader") k ++ features_bytes)) features_length
    ∙ ap (λ (l : List ℕ). out ++ l) (triple_written (codes "OSMHeader") features_bytes)

-- ---- PrimitiveBlocks

pub data_written : (out table : List ℕ) (number : ℕ) (object : List ℕ) (payload group : ℕ)
    → group ≡ length (field_front number (length object)) + length object
    → payload ≡ (length (field_front 1 (length table)) + length table) + (length (field_front 2 group) + group)
    → (((out ++ triple_front (codes "OSMData") payload) ++ bytes_field 1 table) ++ field_front 2 group) ++ bytes_field number object ≡ out ++ data_bytes (block_bytes table number object)
unfolding block_bytes
data_written out table number object payload group group_is payload_is =
    let kind = codes "OSMData" in
    let inner : group_bytes number object ≡ bytes_field number object = append-nil (bytes_field number object) in
    let group_same : group ≡ length (group_bytes number object) = group_is ∙ sym (ap (λ (l : List ℕ). length l) inner ∙ length_field number object) in
    let block : (bytes_field 1 table ++ (field_front 2 group ++ bytes_field number object)) ≡ block_bytes table number object =
    ap (λ (l : List ℕ). bytes_field 1 table ++ (field_front 2 group ++ l)) (sym inner)
    ∙ ap (λ (k : ℕ). bytes_field 1 table ++ (field_front 2 k ++ group_bytes number object)) group_same
    ∙ ap (λ (l : List ℕ). bytes_field 1 table ++ l) (sym (append-nil (bytes_field 2 (group_bytes number object)))) in
    let same : payload ≡ length (block_bytes table number object) =
    payload_is ∙ sym (ap (λ (l : List ℕ). length l) (sym block) ∙ sums _ _ _ _ _ _ _ _ (length-append (bytes_field 1 table) (field_front 2 group ++ bytes_field number object)) (length_field 1 table)
    (length-append (field_front 2 group) (bytes_field number object)) (length_field number object) group_is) in
    four out (triple_front kind payload) (bytes_field 1 table) (field_front 2 group) (bytes_field number object)
    ∙ ap (λ (l : List ℕ). out ++ (triple_front kind payload ++ l)) block
    ∙ ap (λ (k : ℕ). out ++ (triple_front kind k ++ block_bytes table number object)) same
    ∙ ap (λ (l : List ℕ). out ++ l) (triple_written kind (block_bytes table number object))
  where
    sums : (whole a b c d e f g : ℕ) → whole ≡ a + b → a ≡ c + d → b ≡ e + f → f ≡ g → group ≡ g → whole ≡ (c + d) + (e + group)
    sums whole a b c d e f g one two third fourth fifth = omega arith

-- ---- tables

pub empty_table : bytes_field 1 [] ≡ table_bytes []
unfolding table_bytes
empty_table = sym (append-nil (bytes_field 1 []))

pub road_table_is : (a b c d : List ℕ) → (((table_bytes [] ++ bytes_field 1 a) ++ bytes_field 1 b) ++ bytes_field 1 c) ++ bytes_field 1 d ≡ table_bytes (a ∷ b ∷ c ∷ d ∷ [])
unfolding table_bytes
road_table_is a b c d =
    ap (λ (l : List ℕ). (((l ++ bytes_field 1 a) ++ bytes_field 1 b) ++ bytes_field 1 c) ++ bytes_field 1 d) (append-nil (bytes_field 1 []))
    ∙ four (bytes_field 1 []) (bytes_field 1 a) (bytes_field 1 b) (bytes_field 1 c) (bytes_field 1 d)
    ∙ ap (λ (l : List ℕ). bytes_field 1 [] ++ (bytes_field 1 a ++ (bytes_field 1 b ++ (bytes_field 1 c ++ l)))) (sym (append-nil (bytes_field 1 d)))

pub turn_table_is : (a b c d e f : List ℕ) → (((((table_bytes [] ++ bytes_field 1 a) ++ bytes_field 1 b) ++ bytes_field 1 c) ++ bytes_field 1 d) ++ bytes_field 1 e) ++ bytes_field 1 f ≡ table_bytes (a ∷ b ∷ c ∷ d ∷ e ∷ f ∷ [])
unfolding table_bytes
turn_table_is a b c d e f =
    ap (λ (l : List ℕ). (((((l ++ bytes_field 1 a) ++ bytes_field 1 b) ++ bytes_field 1 c) ++ bytes_field 1 d) ++ bytes_field 1 e) ++ bytes_field 1 f) (append-nil (bytes_field 1 []))
    ∙ three ((((bytes_field 1 [] ++ bytes_field 1 a) ++ bytes_field 1 b) ++ bytes_field 1 c)) (bytes_field 1 d) (bytes_field 1 e) (bytes_field 1 f)
    ∙ three (bytes_field 1 [] ++ bytes_field 1 a) (bytes_field 1 b) (bytes_field 1 c) (bytes_field 1 d ++ (bytes_field 1 e ++ bytes_field 1 f))
    ∙ append_assoc (bytes_field 1 []) (bytes_field 1 a) (bytes_field 1 b ++ (bytes_field 1 c ++ (bytes_field 1 d ++ (bytes_field 1 e ++ bytes_field 1 f))))
    ∙ ap (λ (l : List ℕ). bytes_field 1 [] ++ (bytes_field 1 a ++ (bytes_field 1 b ++ (bytes_field 1 c ++ (bytes_field 1 d ++ (bytes_field 1 e ++ l)))))) (sym (append-nil (bytes_field 1 f)))

-- ---- objects

moved : (a b : ℕ) → a + 1 + b * 1 ≡ a + b + 1
moved a b = omega arith

stays : (a b : ℕ) → a + b * 0 ≡ a
stays a b = omega arith

rises : (a : ℕ) → 0 + a * 10_000 ≡ a * 10_000
rises a = omega arith

ids_rise : (side row : ℕ) → rising (row * side + 1) 1 side ≡ map (λ (node : OsmNode). node.id) (node_row side row)
ids_rise side row =
    map_same (λ i. pos (row * side + 1 + i * 1)) (λ i. pos (grid_node_id side row i)) (counted side) (λ i. ap (λ (k : ℕ). pos k) (moved (row * side) i))
    ∙ sym (map_map (λ (node : OsmNode). node.id) (grid_node side row) (counted side))

lats_rise : (side row : ℕ) → rising (row * 10_000) 0 side ≡ map (λ (node : OsmNode). node.lat) (node_row side row)
lats_rise side row =
    map_same (λ i. pos (row * 10_000 + i * 0)) (λ i. pos (row * 10_000)) (counted side) (λ i. ap (λ (k : ℕ). pos k) (stays (row * 10_000) i))
    ∙ sym (map_map (λ (node : OsmNode). node.lat) (grid_node side row) (counted side))

lons_rise : (side row : ℕ) → rising 0 10_000 side ≡ map (λ (node : OsmNode). node.lon) (node_row side row)
lons_rise side row =
    map_same (λ i. pos (0 + i * 10_000)) (λ i. pos (i * 10_000)) (counted side) (λ i. ap (λ (k : ℕ). pos k) (rises i))
    ∙ sym (map_map (λ (node : OsmNode). node.lon) (grid_node side row) (counted side))

pub nodes_written : (side row : ℕ) → (([] ++ bytes_field 1 (packed_differences (rising (row * side + 1) 1 side))) ++ bytes_field 8 (packed_differences (rising (row * 10_000) 0 side))) ++ bytes_field 9 (packed_differences (rising 0 10_000 side)) ≡ dense_bytes (node_row side row)
unfolding dense_bytes
nodes_written side row =
    let ids = packed_differences (map (λ (node : OsmNode). node.id) (node_row side row)) in
    let lats = packed_differences (map (λ (node : OsmNode). node.lat) (node_row side row)) in
    let lons = packed_differences (map (λ (node : OsmNode). node.lon) (node_row side row)) in
    ap (λ (zs : List ℤ). (bytes_field 1 (packed_differences zs) ++ bytes_field 8 (packed_differences (rising (row * 10_000) 0 side))) ++ bytes_field 9 (packed_differences (rising 0 10_000 side))) (ids_rise side row)
    ∙ ap (λ (zs : List ℤ). (bytes_field 1 ids ++ bytes_field 8 (packed_differences zs)) ++ bytes_field 9 (packed_differences (rising 0 10_000 side))) (lats_rise side row)
    ∙ ap (λ (zs : List ℤ). (bytes_field 1 ids ++ bytes_field 8 lats) ++ bytes_field 9 (packed_differences zs)) (lons_rise side row)
    ∙ append_assoc (bytes_field 1 ids) (bytes_field 8 lats) (bytes_field 9 lons)
    ∙ ap (λ (l : List ℕ). bytes_field 1 ids ++ (bytes_field 8 lats ++ l)) (sym (append-nil (bytes_field 9 lons)))

pub road_written : (id : ℕ) (refs : List ℤ) → ((([] ++ number_field 1 id) ++ bytes_field 2 (packed (1 ∷ 3 ∷ []))) ++ bytes_field 3 (packed (2 ∷ 4 ∷ []))) ++ bytes_field 8 (packed_differences refs) ≡ road_bytes id refs
unfolding road_bytes
road_written id refs =
    let d = bytes_field 8 (packed_differences refs) in
    three (number_field 1 id) (bytes_field 2 (packed (1 ∷ 3 ∷ []))) (bytes_field 3 (packed (2 ∷ 4 ∷ []))) d
    ∙ ap (λ (l : List ℕ). number_field 1 id ++ (bytes_field 2 (packed (1 ∷ 3 ∷ [])) ++ (bytes_field 3 (packed (2 ∷ 4 ∷ [])) ++ l))) (sym (append-nil d))

pub turn_written : (id : ℕ) (ids : List ℤ) → (([] ++ number_field 1 id) ++ bytes_field 2 (packed (1 ∷ 2 ∷ [])) ++ bytes_field 3 (packed (2 ∷ 3 ∷ [])) ++ bytes_field 8 (packed (4 ∷ 5 ∷ 6 ∷ []))) ++ bytes_field 9 (packed_differences ids) ++ bytes_field 10 (packed (1 ∷ 0 ∷ 1 ∷ [])) ≡ turn_bytes id ids
unfolding turn_bytes
turn_written id ids =
    let a = number_field 1 id in
    let b = bytes_field 2 (packed (1 ∷ 2 ∷ [])) in
    let c = bytes_field 3 (packed (2 ∷ 3 ∷ [])) in
    let d = bytes_field 8 (packed (4 ∷ 5 ∷ 6 ∷ [])) in
    let e = bytes_field 9 (packed_differences ids) in
    let f = bytes_field 10 (packed (1 ∷ 0 ∷ 1 ∷ [])) in
    four (a ++ b) c d e f
    ∙ append_assoc a b (c ++ (d ++ (e ++ f)))
    ∙ ap (λ (l : List ℕ). a ++ (b ++ (c ++ (d ++ (e ++ l))))) (sym (append-nil f))

-- ---- blocks, one more at a time

pub blocks_more : (f : ℕ → List ℕ) (out now new : List ℕ) (n : ℕ) → now ≡ out ++ flat_map f (counted n) → new ≡ now ++ f n → new ≡ out ++ flat_map f (counted (n + 1))
blocks_more f out now new n so_far pushed =
    let next : counted (n + 1) ≡ counted n ++ n ∷ [] = ap (λ (k : ℕ). counted k) (one n) ∙ range_more 0 n ∙ ap (λ (k : ℕ). counted n ++ k ∷ []) (none n) in
    pushed ∙ ap (λ (l : List ℕ). l ++ f n) so_far ∙ append_assoc out (flat_map f (counted n)) (f n)
    ∙ ap (λ (l : List ℕ). out ++ (flat_map f (counted n) ++ l)) (sym (append-nil (f n)))
    ∙ ap (λ (l : List ℕ). out ++ l) (sym (flat_map-append f (counted n) (n ∷ [])))
    ∙ ap (λ (l : List ℕ). out ++ flat_map f l) (sym next)
  where
    one : (n : ℕ) → n + 1 ≡ suc n
    one n = omega arith

    none : (n : ℕ) → 0 + n ≡ n
    none n = omega arith

-- ---- roads

pub row_refs : (side row : ℕ) → rising (row * side + 1) 1 side ≡ map (λ column. pos (grid_node_id side row column)) (counted side)
row_refs side row = map_same (λ i. pos (row * side + 1 + i * 1)) (λ column. pos (grid_node_id side row column)) (counted side) (λ i. ap (λ (k : ℕ). pos k) (moved (row * side) i))

turned : (column product : ℕ) → column + 1 + product ≡ product + column + 1
turned column product = omega arith

pub column_refs : (side column : ℕ) → rising (column + 1) side side ≡ map (λ row. pos (grid_node_id side row column)) (counted side)
column_refs side column = map_same (λ i. pos (column + 1 + i * side)) (λ row. pos (grid_node_id side row column)) (counted side) (λ i. ap (λ (k : ℕ). pos k) (turned column (i * side)))

-- ---- the whole

pub whole_written : (h n r c t : List ℕ) → (((([] ++ h) ++ n) ++ r) ++ c) ++ t ≡ h ++ (n ++ (r ++ (c ++ t)))
whole_written h n r c t = four h n r c t

pub turns_more : (out now rest whole here : List ℕ) → now ≡ out ++ here → out ++ (here ++ rest) ≡ whole → now ++ rest ≡ whole
turns_more out now rest whole here pushed so_far = ap (λ (l : List ℕ). l ++ rest) pushed ∙ append_assoc out here rest ∙ so_far
