-- Walks over a list of pieces, each told by its start, its end and its length.
use Rattle.std.specs.Prelude.{◌≡◌, ◌↔◌, ⊤, ℕ, ℤ, Bool, true, List, map, sum_by, if◌then◌else◌}
use Rattle.std.specs.List.{Contains}
use Rattle.osm_model.specs.declared.extract.Extract.{Extract}
use Rattle.road_pieces.specs.declared.rows.Piece.{Piece}
use Rattle.road_pieces.specs.Modes.{all_mode_bits, IsMode}
use Rattle.road_pieces.specs.Paths.{Leads}
use Rattle.road_pieces.specs.Runs.{is_junction}
use Rattle.road_pieces.specs.Rows.{piece_rows}
use Rattle.road_pieces.specs.Walks.{RoadWalk}
use Rattle.road_pieces.specs.PlainExtracts.{IsPlainExtract}

-- a piece as a list tells it: where it starts, where it ends, and its length in centimetres
pub record ListedPiece : Type 0 where
  pub start : ℤ
  pub end : ℤ
  pub cm : ℕ

abbrev pub listed : Piece → ListedPiece
listed piece = record { start = piece.start; end = piece.end; cm = piece.cm }

-- a piece of the list, walked from its start to its end, or back
pub record Ride : Type 0 where
  pub piece : ListedPiece
  pub forward : Bool

abbrev pub ride_start : Ride → ℤ
ride_start ride = if ride.forward then ride.piece.start else ride.piece.end

abbrev pub ride_end : Ride → ℤ
ride_end ride = if ride.forward then ride.piece.end else ride.piece.start

-- its piece stands in the list
abbrev pub IsRide : List ListedPiece → Ride → Type 0
IsRide pieces ride = Contains pieces ride.piece

-- a walk over the list: pieces of it, each in one direction and each starting where the one before it ends,
-- lead from a to b; the lengths add up
pub record PlainWalk (pieces : List ListedPiece) (a b : ℤ) (total : ℕ) : Type 0 where
  pub rides : List Ride
  pub leads : Leads (IsRide pieces) ride_start ride_end (λ ride next. ⊤) a rides b
  pub length_is : sum_by (λ ride. ride.piece.cm) rides ≡ total

-- The law of listed pieces: where all modes are asked, the roads of a plain extract, walked by single segments, have
-- between two junctions exactly the walks that their pieces have, told by starts, ends and lengths.
abbrev pub ListsWalks : Type 0
ListsWalks = (x : Extract) → IsPlainExtract x → (mode : ℕ) → IsMode mode → (a b : ℤ) → is_junction x a ≡ true → is_junction x b ≡ true → (total : ℕ) → RoadWalk x all_mode_bits mode a b total ↔ PlainWalk (map listed (piece_rows x)) a b total
