-- Patterns of turn restrictions, by the codes of directed pieces: a directed piece has twice the index of its piece as
-- its code, and one more where it runs backward. Which patterns the masks of edges tell, and which are told by sequences.
use Rattle.std.specs.Prelude.{◌≡◌, ◌<◌, ◌/◌, ℕ, Bool, false, not, ◌&&◌, List, [], ◌∷◌, filter, length, All, nat_eq, slice_index, slice_index_or}
use Rattle.std.specs.List.{list_any, list_all}
use Rattle.road_walks.specs.Masks.{in_mask}
use Rattle.road_walks.specs.Orders.{number_of_bits}
use Rattle.road_walks.specs.BaseEdges.{tile_numbers}

-- the index of the piece of a code
abbrev pub coded_piece : ℕ → ℕ
coded_piece code = code / 2

-- each code of the patterns is below that number
abbrev pub CodesBelow : ℕ → List (List ℕ × ℕ) → Type 0
CodesBelow count patterns = All (λ s. All (λ c. c < count) s.0) patterns

-- the pattern has the piece, in one direction or the other
abbrev pub has_piece : ℕ → List ℕ × ℕ → Bool
has_piece piece s = list_any (λ c. nat_eq (coded_piece c) piece) s.0

-- all pieces of the pattern are kept, where the list says of each piece whether it is
abbrev pub are_kept : List Bool → List ℕ × ℕ → Bool
are_kept kept s = list_all (λ c. slice_index_or kept (coded_piece c) false) s.0

-- `locals` has the local index of each code
module _ (locals : List ℕ) where
  -- a pattern of two codes that starts with this one, its modes those of the vehicles, and its second code with that
  -- local index
  abbrev pub tells_code : ℕ → ℕ → List ℕ × ℕ → Bool
  tells_code code i ((c ∷ (d ∷ [])), modes) = nat_eq c code && (nat_eq (slice_index locals d) i && nat_eq modes tile_numbers.vehicles)
  tells_code code i (other, modes) = false

  -- the mask of an edge, by its code: the bit of a local index is set where some pattern tells it
  abbrev pub has_code_bit : List (List ℕ × ℕ) → ℕ → ℕ → Bool
  has_code_bit patterns code i = list_any (tells_code code i) patterns

  unfoldable pub code_mask : List (List ℕ × ℕ) → ℕ → ℕ
  code_mask patterns code = number_of_bits (has_code_bit patterns code) 0 tile_numbers.bits

  -- the masks of all edges
  pub record AreMasks (patterns : List (List ℕ × ℕ)) (masks : List ℕ) : Type 0 where
    pub all : length masks ≡ length locals
    pub each : (c : ℕ) → c < length locals → slice_index masks c ≡ code_mask patterns c

  -- a mask tells the pattern
  abbrev pub is_told : List ℕ × ℕ → Bool
  is_told s = in_mask (slice_index locals) tile_numbers.vehicles tile_numbers.bits s.0 s.1

  -- the patterns that no mask tells
  abbrev pub code_sequences : List (List ℕ × ℕ) → List (List ℕ × ℕ)
  code_sequences patterns = filter (λ s. not (is_told s)) patterns

  -- a piece, in one direction or the other, stands in a pattern that no mask tells
  abbrev pub is_code_flagged : List (List ℕ × ℕ) → ℕ → Bool
  is_code_flagged patterns piece = list_any (has_piece piece) (code_sequences patterns)

  -- the flags of so many pieces
  pub record AreFlags (patterns : List (List ℕ × ℕ)) (pieces : ℕ) (flags : List Bool) : Type 0 where
    pub all : length flags ≡ pieces
    pub each : (k : ℕ) → k < pieces → slice_index_or flags k false ≡ is_code_flagged patterns k

  -- the patterns that no mask tells and of which all pieces are kept
  abbrev pub stored_codes : List Bool → List (List ℕ × ℕ) → List (List ℕ × ℕ)
  stored_codes kept patterns = filter (are_kept kept) (code_sequences patterns)
