-- Names with commas between them.
use Rattle.std.proofs.Common.{◌≡◌, ◌∙◌, ◌<◌, ◌==◌, ℕ, Bool, List, [], ◌∷◌, length, Option, Some, None, refl, sym, ap, ap₂, arith}
use Rattle.std.specs.Prelude.{option_and_then}
use Rattle.std.specs.List.{slice_split, position_or_len, before_first, after_first}
use Rattle.std.proofs.lemmas.List.Splits.{slice_split_none, slice_split_first}
use Rattle.std.proofs.lemmas.List.Sums.{fails_before_first}
use Rattle.command_words.specs.Values.{mode_of, with_mode, with_modes}

abbrev comma : ℕ → Bool
comma byte = byte == 44

pub unsplit : (text : List ℕ) → position_or_len (λ byte. byte == 44) text ≡ length text → slice_split (λ byte. byte == 44) text ≡ text ∷ []
unsplit text e = slice_split_none comma text (λ k d m. fails_before_first comma text k d (omega (arith, e, m)))

pub split : (text name names : List ℕ) → name ≡ before_first (λ byte. byte == 44) text → names ≡ after_first (λ byte. byte == 44) text
    → position_or_len (λ byte. byte == 44) text < length text → slice_split (λ byte. byte == 44) text ≡ name ∷ slice_split (λ byte. byte == 44) names
split text name names a b lt = slice_split_first comma text 0 lt ∙ ap₂ (λ x y. x ∷ slice_split comma y) (sym a) (sym b)

then_modes : (names : List (List ℕ)) (w : Option ℕ) → option_and_then (λ all. with_modes all names) (option_and_then (λ all. Some all) w) ≡ option_and_then (λ all. with_modes all names) w
then_modes names None = refl
then_modes names (Some all) = refl

then_names : (modes : ℕ) (names : List (List ℕ)) (m : Option ℕ)
    → option_and_then (λ all. with_modes all names) (option_and_then (λ mode. option_and_then (λ all. Some all) (with_mode modes mode)) m)
    ≡ option_and_then (λ mode. option_and_then (λ all. with_modes all names) (with_mode modes mode)) m
then_names modes names None = refl
then_names modes names (Some mode) = then_modes names (with_mode modes mode)

pub one_and_others : (modes : ℕ) (name : List ℕ) (names : List (List ℕ)) (o : Option ℕ) → o ≡ with_modes modes (name ∷ [])
    → option_and_then (λ all. with_modes all names) o ≡ with_modes modes (name ∷ names)
one_and_others modes name names o e = ap (option_and_then (λ all. with_modes all names)) e ∙ then_names modes names (mode_of name)
