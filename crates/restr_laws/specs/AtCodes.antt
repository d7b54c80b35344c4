-- Patterns of codes are patterns of directed pieces: masks, flags and stored patterns are the same.
use Rattle.std.specs.Prelude.{◌≡◌, ◌<◌, ◌*◌, ℕ, ℤ, pos, Bool, true, false, List, [], map, length, slice_index, slice_index_or}
use Rattle.osm_model.specs.declared.extract.Extract.{Extract}
use Rattle.road_pieces.specs.DirectedPiece.{DirectedPiece}
use Rattle.road_walks.specs.BaseEdges.{directed_pieces, local_index, tile_numbers}
use Rattle.folder_spec.specs.Rows.{keeps_piece, mask_of, is_flagged, stored_patterns}
use Rattle.complex_restr.specs.Codes.{coded_piece, CodesBelow, code_mask, is_code_flagged, stored_codes}

-- a directed piece that stands for none
abbrev pub no_piece : DirectedPiece
no_piece = record { way = pos 0; run = 0; from = 0; to = 0; forward = true }

-- the directed piece of a code
abbrev pub piece_at : Extract → ℕ → DirectedPiece
piece_at x code = slice_index_or (directed_pieces x) code no_piece

-- a pattern of codes as one of directed pieces
abbrev pub pattern_at : Extract → List ℕ × ℕ → List DirectedPiece × ℕ
pattern_at x s = (map (piece_at x) s.0, s.1)

-- the list has the local index of each code
pub record AreLocals (x : Extract) (locals : List ℕ) : Type 0 where
  pub all : length locals ≡ length (directed_pieces x)
  pub each : (c : ℕ) → c < length (directed_pieces x) → slice_index locals c ≡ local_index x (piece_at x c)

-- patterns of codes of the extract, with the local index of each code
pub record AreCoded (x : Extract) (patterns : List (List ℕ × ℕ)) (locals : List ℕ) : Type 0 where
  pub below : CodesBelow (length (directed_pieces x)) patterns
  pub locals_are : AreLocals x locals

-- the list says of each piece whether it is open to an asked mode in some direction; the further arguments of `keeps_piece` don't matter
pub record AreKeptFlags (x : Extract) (asked : ℕ) (kept : List Bool) : Type 0 where
  pub all : length (directed_pieces x) ≡ 2 * length kept
  pub each : (k : ℕ) → k < length kept → slice_index_or kept k false ≡ keeps_piece x asked tile_numbers [] (λ k n. 0) (piece_at x (2 * k))

abbrev pub MasksAtCodes : Type 0
MasksAtCodes = (x : Extract) (asked : ℕ) (tile_of : ℕ → ℤ → ℕ) (patterns : List (List ℕ × ℕ)) (locals : List ℕ) → AreCoded x patterns locals → (c : ℕ) → c < length (directed_pieces x) → mask_of x asked tile_numbers (map (pattern_at x) patterns) tile_of (piece_at x c) ≡ code_mask locals patterns c

abbrev pub FlagsAtCodes : Type 0
FlagsAtCodes = (x : Extract) (asked : ℕ) (tile_of : ℕ → ℤ → ℕ) (patterns : List (List ℕ × ℕ)) (locals : List ℕ) → AreCoded x patterns locals → (c : ℕ) → c < length (directed_pieces x) → is_flagged x asked tile_numbers (map (pattern_at x) patterns) tile_of (piece_at x c) ≡ is_code_flagged locals patterns (coded_piece c)

abbrev pub StoredAtCodes : Type 0
StoredAtCodes = (x : Extract) (asked : ℕ) (tile_of : ℕ → ℤ → ℕ) (patterns : List (List ℕ × ℕ)) (locals : List ℕ) (kept : List Bool) → AreCoded x patterns locals → AreKeptFlags x asked kept → stored_patterns x asked tile_numbers (map (pattern_at x) patterns) tile_of ≡ map (pattern_at x) (stored_codes locals kept patterns)
