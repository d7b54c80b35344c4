-- The header of a tile file: eight words.
use Rattle.std.specs.Prelude.{◌≡◌, ℕ, ◌+◌, ◌*◌, ◌/◌, ◌%◌, ◌^◌, ◌<◌, ◌≤◌, nat_lt, nat_le, ◌==◌, ◌&&◌, Bool, true, List, [], ◌∷◌, length, slice_index, drop, Result, Ok, Err, if◌then◌else◌}
use Rattle.std.specs.Int.{w32, cast_unsigned}
use Rattle.graph_id.specs.GraphId.{level_of, tile_of_id, id_of, invalid}
use Rattle.tile_geometry.specs.Grid.{tile_count, corner}
use Rattle.section_grammar.specs.WordBytes.{words_in}
use Rattle.section_grammar.specs.Answers.{FailedCheck, Check}
use Rattle.edge_info.specs.InfoSets.{gap}
use Rattle.tile_bytes.specs.declared.header.Header.{Header}
use Rattle.tile_bytes.specs.declared.header.TheConstants.{SIGNATURE, MOST_RECORDS}
use Rattle.way_tags.specs.declared.modes.TheConstants.{ALL}
use Rattle.tile_bytes.specs.Modes.{is_within}

-- the halves of a word
abbrev pub low_half : ℕ → ℕ
low_half word = word % 2 ^ 32

abbrev pub high_half : ℕ → ℕ
high_half word = word / 2 ^ 32

-- the bytes of the file: the header, the sections and the padding
abbrev pub file_size : Header → ℕ
file_size h =
    64 + 32 * h.nodes + 32 * h.edges + 8 * h.transitions + 8 * h.chain_words + 8 * h.sequence_words + (h.info_bytes + h.text_bytes)
    + gap (h.info_bytes + h.text_bytes)

-- what eight words say
abbrev pub header_of : List ℕ → Header
header_of words = record {
  id = slice_index words 1;
  modes = slice_index words 7 / 2 ^ 48;
  nodes = low_half (slice_index words 3);
  edges = high_half (slice_index words 3);
  transitions = low_half (slice_index words 4);
  chain_words = high_half (slice_index words 4);
  sequence_words = low_half (slice_index words 5);
  texts = high_half (slice_index words 5);
  info_bytes = low_half (slice_index words 6);
  text_bytes = high_half (slice_index words 6);
}

-- the south-west corner of a tile as a word: the latitude low, the longitude high
unfoldable pub corner_word : ℕ → ℕ
corner_word id =
    cast_unsigned w32 (corner (level_of id) (tile_of_id id)).lat + 2 ^ 32 * cast_unsigned w32 (corner (level_of id) (tile_of_id id)).lon

-- the words of a header
unfoldable pub header_words : Header → List ℕ
header_words h =
    SIGNATURE
    ∷ h.id
    ∷ corner_word h.id
    ∷ (h.nodes + 2 ^ 32 * h.edges)
    ∷ (h.transitions + 2 ^ 32 * h.chain_words)
    ∷ (h.sequence_words + 2 ^ 32 * h.texts)
    ∷ (h.info_bytes + 2 ^ 32 * h.text_bytes)
    ∷ (file_size h + 2 ^ 48 * h.modes)
    ∷ []

-- ---- the checks

-- a GraphId of level 0 to 2, a tile of that level, and id 0
abbrev pub names_tile : ℕ → Bool
names_tile id = nat_lt id invalid && nat_le (level_of id) 2 && nat_lt (tile_of_id id) (tile_count (level_of id)) && id_of id == 0

-- there are modes, all of them known
abbrev pub are_modes : ℕ → Bool
are_modes modes = nat_lt 0 modes && is_within modes ALL

-- check 2: the file begins with the eight bytes `MJTILE01`
abbrev pub has_signature : List ℕ → Bool
has_signature words = slice_index words 0 == SIGNATURE

-- check 3: the second word names a tile
abbrev pub has_tile : List ℕ → Bool
has_tile words = names_tile (slice_index words 1)

-- check 4: the third word is that tile's south-west corner
abbrev pub has_corner : List ℕ → Bool
has_corner words = slice_index words 2 == corner_word (slice_index words 1)

-- check 5: neither nodes nor edges are too many
abbrev pub has_few_records : List ℕ → Bool
has_few_records words = nat_le (header_of words).nodes MOST_RECORDS && nat_le (header_of words).edges MOST_RECORDS

-- check 6: the transitions are at most twice the nodes
abbrev pub has_few_transitions : List ℕ → Bool
has_few_transitions words = nat_le (header_of words).transitions (2 * (header_of words).nodes)

-- check 7: the file has so many bytes as its last word and its sections say, and there are modes
abbrev pub has_size : ℕ → List ℕ → Bool
has_size size words = slice_index words 7 % 2 ^ 48 == size && file_size (header_of words) == size && are_modes (header_of words).modes

-- the first of these tests that fails, with its check and its place
abbrev pub tested : {A : Type 0} → List (Bool × FailedCheck) → A → Result A FailedCheck
tested [] x = Ok x
tested (t ∷ ts) x = if t.0 then tested ts x else Err t.1

-- the checks on the words of a header, in a file of so many bytes
abbrev pub header_tests : ℕ → List ℕ → List (Bool × FailedCheck)
header_tests size words =
    (has_signature words, Check 2 0)
    ∷ (has_tile words, Check 3 8)
    ∷ (has_corner words, Check 4 16)
    ∷ (has_few_records words, Check 5 24)
    ∷ (has_few_transitions words, Check 6 32)
    ∷ (has_size size words, Check 7 56)
    ∷ []

-- the header of a file; check 1: the file has its eight words
unfoldable pub header_at : List ℕ → Result (Header × List ℕ) FailedCheck
header_at bytes =
    if nat_lt (length bytes) 64 then Err (Check 1 (length bytes))
    else tested (header_tests (length bytes) (words_in 8 bytes)) (header_of (words_in 8 bytes), drop 64 bytes)

-- what a header that passes the checks is, beside that its numbers fit
pub record IsTileHeader (h : Header) : Type 0 where
  pub tile : names_tile h.id ≡ true
  pub few_nodes : h.nodes ≤ MOST_RECORDS
  pub few_edges : h.edges ≤ MOST_RECORDS
  pub few_transitions : h.transitions ≤ 2 * h.nodes
  pub chain_words : h.chain_words < 2 ^ 32
  pub sequence_words : h.sequence_words < 2 ^ 32
  pub texts : h.texts < 2 ^ 32
  pub info_bytes : h.info_bytes < 2 ^ 32
  pub text_bytes : h.text_bytes < 2 ^ 32
  pub modes : are_modes h.modes ≡ true
