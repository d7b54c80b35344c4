-- The codes of an extract's directed pieces: of which piece each is, and its local index from where all of them start.
use Rattle.std.specs.Prelude.{◌≡◌, ◌<◌, ◌*◌, ◌%◌, ℕ, List, length, map, nat_eq, None}
use Rattle.osm_model.specs.declared.extract.Extract.{Extract}
use Rattle.road_pieces.specs.Rows.{junction_rows, piece_rows}
use Rattle.road_walks.specs.BaseEdges.{directed_pieces}
use Rattle.edge_builder.specs.BaseRows.{start_places, crowded}
use Rattle.edge_builder.specs.ExtractRows.{piece_place}
use Rattle.complex_restr.specs.Codes.{coded_piece}
use Rattle.complex_restr.specs.KeptPieces.{is_kept_piece}
use Rattle.complex_restr.specs.Locals.{AreCodeLocals, AreFewStarts}
use Rattle.restr_laws.specs.AtCodes.{piece_at, AreLocals, AreKeptFlags}

-- where the codes of the extract start: the places of junctions
abbrev pub code_starts : Extract → List ℕ
code_starts x = start_places (junction_rows x) (piece_rows x)

-- the code has the index of its piece, and tells its direction
pub record IsCoded (x : Extract) (code : ℕ) : Type 0 where
  pub place : piece_place x (piece_at x code) ≡ coded_piece code
  pub direction : (piece_at x code).forward ≡ nat_eq (code % 2) 0

-- there are two codes for each piece
pub record ArePieceCodes (x : Extract) : Type 0 where
  pub all : length (directed_pieces x) ≡ 2 * length (piece_rows x)
  pub each : (c : ℕ) → c < length (directed_pieces x) → IsCoded x c

abbrev pub PiecesAtCodes : Type 0
PiecesAtCodes = (x : Extract) → ArePieceCodes x

abbrev pub StartsAtCodes : Type 0
StartsAtCodes = (x : Extract) → crowded (junction_rows x) (piece_rows x) ≡ None → AreFewStarts (length (junction_rows x)) (code_starts x)

abbrev pub LocalsAtCodes : Type 0
LocalsAtCodes = (x : Extract) (locals : List ℕ) → AreCodeLocals (code_starts x) locals → AreLocals x locals

-- the pieces that an asked mode may use in some direction are those that the folder keeps
abbrev pub KeptAtCodes : Type 0
KeptAtCodes = (x : Extract) (asked : ℕ) → AreKeptFlags x asked (map (is_kept_piece asked) (piece_rows x))
