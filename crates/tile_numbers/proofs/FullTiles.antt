-- The first tile that has too much.
use Rattle.std.proofs.Common.{◌≡◌, ◌∙◌, ℕ, zero, suc, ◌+◌, ◌<◌, ◌≤◌, refl, sym, ap, subst, List, [], ◌∷◌, length, get_or, take, Bool, true, false, cond, ltb, Option, Some, None, arith}
use Rattle.std.specs.Prelude.{All}
use Rattle.std.specs.Option.{option_or}
use Rattle.std.proofs.lemmas.Bool.{ltb-false}
use Rattle.std.proofs.lemmas.List.{take_all}
use Rattle.std.proofs.lemmas.List.Elements.{All-nil, All-cons}
use Rattle.work_tile.specs.WorkRows.{WorkRows}
use Rattle.tile_numbers.specs.declared.room.TheConstants.{MOST_RECORDS}
use Rattle.tile_numbers.specs.declared.room.TileFull.{TileFull}
use Rattle.tile_numbers.specs.Limits.{HasRoom, edge_total, fullness, first_fullness}

neither : (a b : Option TileFull) → option_or a b ≡ None → (a ≡ None) × (b ≡ None)
neither None b e = (refl, e)
neither (Some f) b e = absurd cc

pub none_more : (tiles : List WorkRows) (i : ℕ) (t : WorkRows) → i < length tiles → t ≡ get_or tiles i t → first_fullness (take i tiles) ≡ None → fullness t ≡ None
    → first_fullness (take (i + 1) tiles) ≡ None
none_more tiles i t inside here none empty = let e : i + 1 ≡ suc i = omega arith in subst (λ j. first_fullness (take j tiles) ≡ None) (sym e) (walk tiles i inside (ap fullness (sym here) ∙ empty) none)
  where
    walk : (ts : List WorkRows) (j : ℕ) → j < length ts → fullness (get_or ts j t) ≡ None → first_fullness (take j ts) ≡ None → first_fullness (take (suc j) ts) ≡ None
    walk [] j inside empty none = absurd (omega (arith, inside))
    walk (s ∷ ts) zero inside empty none = ap (λ a. option_or a None) empty
    walk (s ∷ ts) (suc j) inside empty none =
        let both = neither (fullness s) (first_fullness (take j ts)) none in
        ap (λ a. option_or a (first_fullness (take (suc j) ts))) both.0 ∙ walk ts j (omega (arith, inside)) empty both.1

pub first_is : (tiles : List WorkRows) (i : ℕ) (t : WorkRows) (full : TileFull) → i < length tiles → t ≡ get_or tiles i t → first_fullness (take i tiles) ≡ None → fullness t ≡ Some full
    → first_fullness tiles ≡ Some full
first_is tiles i t full inside here none has = walk tiles i inside (ap fullness (sym here) ∙ has) none
  where
    walk : (ts : List WorkRows) (j : ℕ) → j < length ts → fullness (get_or ts j t) ≡ Some full → first_fullness (take j ts) ≡ None → first_fullness ts ≡ Some full
    walk [] j inside has none = absurd (omega (arith, inside))
    walk (s ∷ ts) zero inside has none = ap (λ a. option_or a (first_fullness ts)) has
    walk (s ∷ ts) (suc j) inside has none =
        let both = neither (fullness s) (first_fullness (take j ts)) none in
        ap (λ a. option_or a (first_fullness ts)) both.0 ∙ walk ts j (omega (arith, inside)) has both.1

pub none_in : (tiles : List WorkRows) (i : ℕ) → length tiles ≤ i → first_fullness (take i tiles) ≡ None → first_fullness tiles ≡ None
none_in tiles i past none = ap first_fullness (sym (take_all i tiles past)) ∙ none

-- a tile that isn't full has room
roomy : (t : WorkRows) (full more : TileFull) (a b : Bool) → ltb MOST_RECORDS (length t.nodes) ≡ a → ltb MOST_RECORDS (edge_total t) ≡ b
    → cond a (Some full) (cond b (Some more) None) ≡ None → HasRoom t
roomy t full more true b e f none = absurd cc
roomy t full more false true e f none = absurd cc
roomy t full more false false e f none = record { nodes = ltb-false MOST_RECORDS (length t.nodes) e; edges = ltb-false MOST_RECORDS (edge_total t) f }

has_room : (t : WorkRows) → fullness t ≡ None → HasRoom t
has_room t none = roomy t _ _ (ltb MOST_RECORDS (length t.nodes)) (ltb MOST_RECORDS (edge_total t)) refl refl none

pub all_have_room : (tiles : List WorkRows) → first_fullness tiles ≡ None → All HasRoom tiles
all_have_room [] none = All-nil HasRoom
all_have_room (t ∷ ts) none =
    let both = neither (fullness t) (first_fullness ts) none in
    All-cons HasRoom t ts (has_room t both.0) (all_have_room ts both.1)
