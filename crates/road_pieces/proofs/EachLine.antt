-- Facts and sums over lists of lines, taken line by line.
use Rattle.std.proofs.Common.{◌≡◌, ℕ, ◌+◌, ◌<◌, refl, sym, ◌∙◌, ap, subst, List, [], ◌∷◌, ◌++◌, length, get_or, take}
use Rattle.std.specs.List.{flat_map}
use Rattle.std.proofs.lemmas.List.{take_more, append-nil}
use Rattle.std.proofs.lemmas.Grind.{flat_map-append}
use Rattle.std.specs.Prelude.{All, sum_by, slice_get, Some}
use Rattle.std.proofs.lemmas.Option.{get_or_from_slice_get}
use Rattle.std.proofs.lemmas.List.Sums.{sum_by-cons, sum_by_more}
use Rattle.std.proofs.lemmas.List.Elements.{All-head, All-tail}
use Rattle.road_pieces.specs.Lines.{Line}

-- a fact of each line holds of the line at a place
pub at_line : (P : Line → Type 0) (ls : List Line) (i : ℕ) (line : Line) → i < length ls → slice_get ls i ≡ Some line → All P ls → P line
at_line P ls i line h e all = subst P (get_or_from_slice_get ls i line line e) (all i line h)

-- a sum with one line more
pub sum_more : (f : Line → ℕ) (ls : List Line) (i : ℕ) (line : Line) → i < length ls → slice_get ls i ≡ Some line → sum_by f (take (i + 1) ls) ≡ sum_by f (take i ls) + f line
sum_more f ls i line h e =
    sum_by_more f ls i line h ∙ ap (λ l. sum_by f (take i ls) + f l) (get_or_from_slice_get ls i line line e)

-- sums of two numbers that agree on each line
pub sums_alike : (P : Line → Type 0) (f g : Line → ℕ) (ls : List Line) → ((l : Line) → P l → f l ≡ g l) → All P ls → sum_by f ls ≡ sum_by g ls
sums_alike P f g [] same all = refl
sums_alike P f g (l ∷ ls) same all =
    sum_by-cons f l ls ∙ (ap (λ n. n + sum_by f ls) (same l (All-head P l ls all)) ∙ (ap (λ n. g l + n) (sums_alike P f g ls same (All-tail P l ls all)) ∙ sym (sum_by-cons g l ls)))

-- what a list of each line gives, with one line more
pub flat_more : {B : Type 0} (f : Line → List B) (ls : List Line) (i : ℕ) (line : Line) → i < length ls → slice_get ls i ≡ Some line → flat_map f (take i ls) ++ f line ≡ flat_map f (take (i + 1) ls)
flat_more f ls i line h e =
    sym (ap (flat_map f) (take_more ls i line h) ∙ (flat_map-append f (take i ls) (get_or ls i line ∷ []) ∙ ap (λ l. flat_map f (take i ls) ++ l) (append-nil (f (get_or ls i line)) ∙ ap f (get_or_from_slice_get ls i line line e))))
