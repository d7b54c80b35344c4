-- The bytes of the grid's file (fileformat.proto, osmformat.proto): a header, then a PrimitiveBlock for each row of nodes, for
-- each way and for each turn restriction. Each block has a string table of its own.
use Rattle.std.specs.Prelude.{ℕ, zero, suc, ◌+◌, ◌*◌, ℤ, pos, List, [], ◌∷◌, ◌++◌, map, length, Option, Some, None, codes}
use Rattle.std.specs.Int.{w32, to_be_bytes}
use Rattle.std.specs.List.{flat_map}
use Rattle.std.specs.Fmt.{decimal}
use Rattle.osm_model.specs.declared.nodes.OsmNode.{OsmNode}
use Rattle.extract_maker.specs.Grid.{counted, node_row, row_way_id, column_way_id, row_class, column_class, grid_node_id, turn_id, turn_kind, next_state, drawn_from}
use Rattle.extract_maker.specs.Spelling.{packed, packed_differences, Piece, NumberPiece, BytesPiece, field_front, message_bytes}

-- ---- triples

-- the BlobHeader of a blob of this type and size
abbrev pub header_bytes : List ℕ → ℕ → List ℕ
header_bytes kind size = message_bytes (BytesPiece 1 kind ∷ NumberPiece 3 size ∷ [])

-- the Blob with this payload
abbrev pub body_bytes : List ℕ → List ℕ
body_bytes payload = message_bytes (BytesPiece 1 payload ∷ [])

-- a length, a BlobHeader and a Blob
abbrev pub framed_bytes : List ℕ → List ℕ → List ℕ
framed_bytes header body = to_be_bytes w32 (length header) ++ header ++ body

-- what stands before a payload of so many bytes: all of the triple but the payload
unfoldable pub triple_front : List ℕ → ℕ → List ℕ
triple_front kind many =
    let header = header_bytes kind (length (field_front 1 many) + many) in
    to_be_bytes w32 (length header) ++ header ++ field_front 1 many

unfoldable pub triple_bytes : List ℕ → List ℕ → List ℕ
triple_bytes kind payload = framed_bytes (header_bytes kind (length (body_bytes payload))) (body_bytes payload)

-- ---- payloads

-- the header block, which names what a reader has to know
unfoldable pub features_bytes : List ℕ
features_bytes = message_bytes (BytesPiece 4 (codes "OsmSchema-V0.6") ∷ BytesPiece 4 (codes "DenseNodes") ∷ [])

-- a string table of these texts, behind the empty one, which has index 0
unfoldable pub table_bytes : List (List ℕ) → List ℕ
table_bytes texts = message_bytes (BytesPiece 1 [] ∷ map (λ text. BytesPiece 1 text) texts)

-- a PrimitiveBlock with this string table and one PrimitiveGroup of one object, which is the group's field of this number
abbrev pub group_bytes : ℕ → List ℕ → List ℕ
group_bytes number object = message_bytes (BytesPiece number object ∷ [])

unfoldable pub block_bytes : List ℕ → ℕ → List ℕ → List ℕ
block_bytes table number object = message_bytes (BytesPiece 1 table ∷ BytesPiece 2 (group_bytes number object) ∷ [])

-- ---- objects

-- numbers that begin with the first and rise by a step, so many of them
abbrev pub rising : ℕ → ℕ → ℕ → List ℤ
rising first step many = map (λ i. pos (first + i * step)) (counted many)

-- the DenseNodes of these nodes, which have no tags
unfoldable pub dense_bytes : List OsmNode → List ℕ
dense_bytes nodes = message_bytes (
    BytesPiece 1 (packed_differences (map (λ (node : OsmNode). node.id) nodes))
    ∷ BytesPiece 8 (packed_differences (map (λ (node : OsmNode). node.lat) nodes))
    ∷ BytesPiece 9 (packed_differences (map (λ (node : OsmNode). node.lon) nodes))
    ∷ [])

-- the texts of a road, and its message: id 1, keys 2, values 3, refs 8
abbrev pub road_texts : List ℕ → List ℕ → ℕ → List (List ℕ)
road_texts class letter number = codes "highway" ∷ class ∷ codes "name" ∷ (letter ++ decimal number) ∷ []

unfoldable pub road_bytes : ℕ → List ℤ → List ℕ
road_bytes id refs = message_bytes (
    NumberPiece 1 id
    ∷ BytesPiece 2 (packed (1 ∷ 3 ∷ []))
    ∷ BytesPiece 3 (packed (2 ∷ 4 ∷ []))
    ∷ BytesPiece 8 (packed_differences refs)
    ∷ [])

-- the texts of a restriction, and its message: id 1, keys 2, values 3, roles 8, and ids 9 and types 10 of its members
abbrev pub turn_texts : List ℕ → List (List ℕ)
turn_texts kind = codes "type" ∷ codes "restriction" ∷ kind ∷ codes "from" ∷ codes "via" ∷ codes "to" ∷ []

unfoldable pub turn_bytes : ℕ → List ℤ → List ℕ
turn_bytes id ids = message_bytes (
    NumberPiece 1 id
    ∷ BytesPiece 2 (packed (1 ∷ 2 ∷ []))
    ∷ BytesPiece 3 (packed (2 ∷ 3 ∷ []))
    ∷ BytesPiece 8 (packed (4 ∷ 5 ∷ 6 ∷ []))
    ∷ BytesPiece 9 (packed_differences ids)
    ∷ BytesPiece 10 (packed (1 ∷ 0 ∷ 1 ∷ []))
    ∷ [])

-- ---- the blocks of the grid

abbrev pub node_block : ℕ → ℕ → List ℕ
node_block side row = block_bytes (table_bytes []) 2 (dense_bytes (node_row side row))

abbrev pub row_block : ℕ → ℕ → List ℕ
row_block side row =
    block_bytes (table_bytes (road_texts (row_class row) (codes "R") row)) 3
    (road_bytes (row_way_id row) (map (λ column. pos (grid_node_id side row column)) (counted side)))

abbrev pub column_block : ℕ → ℕ → List ℕ
column_block side column =
    block_bytes (table_bytes (road_texts (column_class column) (codes "C") column)) 3
    (road_bytes (column_way_id column) (map (λ row. pos (grid_node_id side row column)) (counted side)))

abbrev pub turn_block : ℕ → ℕ → List ℕ → List ℕ
turn_block side place kind =
    block_bytes (table_bytes (turn_texts kind)) 4
    (turn_bytes (turn_id place) (pos (row_way_id place) ∷ pos (grid_node_id side place place) ∷ pos (column_way_id place) ∷ []))

abbrev pub data_bytes : List ℕ → List ℕ
data_bytes payload = triple_bytes (codes "OSMData") payload

abbrev pub turn_data : ℕ → ℕ → Option (List ℕ) → List ℕ
turn_data side place None = []
turn_data side place (Some kind) = data_bytes (turn_block side place kind)

-- the blocks of so many draws behind a state, the first of which is that of this place
abbrev pub turn_file : ℕ → ℕ → ℕ → ℕ → List ℕ
turn_file side place zero state = []
turn_file side place (suc many) state =
    turn_data side place (turn_kind (drawn_from (next_state state))) ++ turn_file side (place + 1) many (next_state state)

-- ---- the file

abbrev pub header_file : List ℕ
header_file = triple_bytes (codes "OSMHeader") features_bytes

abbrev pub node_file : ℕ → List ℕ → List ℕ
node_file side rows = flat_map (λ row. data_bytes (node_block side row)) rows

abbrev pub row_file : ℕ → List ℕ → List ℕ
row_file side rows = flat_map (λ row. data_bytes (row_block side row)) rows

abbrev pub column_file : ℕ → List ℕ → List ℕ
column_file side columns = flat_map (λ column. data_bytes (column_block side column)) columns

unfoldable pub grid_file : ℕ → ℕ → List ℕ
grid_file side seed =
    header_file ++ (node_file side (counted side) ++ (row_file side (counted side) ++ (column_file side (counted side) ++ turn_file side 0 side seed)))
