-- Plain numbers are numerals.
use Rattle.std.proofs.Common.{◌≡◌, ◌∙◌, ◌&&◌, ◌⊎◌, ◌==◌, ◌<◌, ◌≤◌, ◌+◌, ◌^◌, ℕ, Bool, true, false, true≢false, List, [], ◌∷◌, length, take, drop, get_or, cond, Option, Some, None, refl, sym, ap, ap₂, subst, inl, inr, arith}
use Rattle.std.specs.List.{list_all}
use Rattle.std.specs.Prelude.{nat_le}
use Rattle.std.specs.Char.{digit_value}
use Rattle.std.specs.Int.{IsInRange}
use Rattle.std.specs.Str.Parse.{AllDigits, IsNumeral, digits_value, without_leading_plus}
use Rattle.std.proofs.lemmas.Bool.{leb-true, ne_eqb, cases_lt}
use Rattle.std.proofs.lemmas.Bool.Decides.{leb_tells}
use Rattle.std.proofs.lemmas.Str.{digit_value_digit}
use Rattle.std.proofs.lemmas.List.Folds.{list_all_more, list_all_at}
use Rattle.command_words.specs.Values.{is_digit, has_no_needless_zero, is_plain_number, number_within}

first : (a b : Bool) → (a && b) ≡ true → a ≡ true
first true b e = refl
first false b e = e

second : (a b : Bool) → (a && b) ≡ true → b ≡ true
second true b e = e
second false b e = absurd (true≢false (sym e))

in_range : (b : ℕ) → is_digit b ≡ true → IsInRange 48 57 b
in_range b e = (leb-true 48 b (first _ _ e), leb-true b 57 (second _ _ e))

digit_small : (b : ℕ) → is_digit b ≡ true → digit_value b < 10
digit_small b e = omega (arith, digit_value_digit b (in_range b e), (in_range b e).1)

all_digits : (ds : List ℕ) → list_all is_digit ds ≡ true → AllDigits 10 ds
all_digits [] e = tt
all_digits (b ∷ bs) e = (digit_small b (first _ _ e), all_digits bs (second _ _ e))

no_plus : (b : ℕ) (bs : List ℕ) → is_digit b ≡ true → without_leading_plus (b ∷ bs) ≡ b ∷ bs
no_plus b bs e =
    let plus : (b == 43) ≡ false = ne_eqb _ _ (λ is. omega (arith, is, (in_range b e).0)) in
    ap (λ (c : Bool). drop (cond c 1 0) (b ∷ bs)) plus

never : (p q r : Bool) (d : ℕ) → r ≡ false → None ≡ cond (p && (q && r)) (Some d) None
never p q true d e = absurd (true≢false e)
never true true false d e = refl
never true false false d e = refl
never false q false d e = refl

past : (d high : ℕ) → high < d → nat_le d high ≡ false
past d high lt = go (leb_tells d high)
  where
    go : ((nat_le d high ≡ true) × (d ≤ high)) ⊎ ((nat_le d high ≡ false) × (high < d)) → nat_le d high ≡ false
    go (inl x) = absurd (omega (arith, x.1, lt))
    go (inr x) = x.0

plain_digits : (b : ℕ) (bs : List ℕ) → is_plain_number (b ∷ bs) ≡ true → list_all is_digit (b ∷ bs) ≡ true
plain_digits b bs plain = second (has_no_needless_zero (b ∷ bs)) (list_all is_digit (b ∷ bs)) plain

plain_first : (b : ℕ) (bs : List ℕ) → is_plain_number (b ∷ bs) ≡ true → is_digit b ≡ true
plain_first b bs plain = first (is_digit b) (list_all is_digit bs) (plain_digits b bs plain)

-- a plain number that isn't read is past each bound
pub too_large : (low high : ℕ) (text : List ℕ) → is_plain_number text ≡ true → high < 2 ^ 64
    → (IsNumeral 10 (without_leading_plus text) × (digits_value 10 (without_leading_plus text) < 2 ^ 64) → ⊥) → None ≡ number_within low high text
too_large low high [] plain fits unread = refl
too_large low high (b ∷ bs) plain fits unread = go (cases_lt (digits_value 10 (b ∷ bs)) (2 ^ 64))
  where
    go : (digits_value 10 (b ∷ bs) < 2 ^ 64) ⊎ (2 ^ 64 ≤ digits_value 10 (b ∷ bs)) → None ≡ number_within low high (b ∷ bs)
    go (inl lt) = absurd (unread (subst (λ (w : List ℕ). IsNumeral 10 w × (digits_value 10 w < 2 ^ 64)) (sym (no_plus b bs (plain_first b bs plain)))
        ((omega arith, all_digits (b ∷ bs) (plain_digits b bs plain)), lt)))
    go (inr ge) =
        never (is_plain_number (b ∷ bs)) (nat_le low (digits_value 10 (b ∷ bs))) (nat_le (digits_value 10 (b ∷ bs)) high) (digits_value 10 (b ∷ bs))
        (past (digits_value 10 (b ∷ bs)) high (omega (arith, ge, fits)))

-- a plain number that is read is the number of its digits
pub read_plain : (text : List ℕ) → is_plain_number text ≡ true → digits_value 10 (without_leading_plus text) ≡ digits_value 10 text
read_plain [] plain = refl
read_plain (b ∷ bs) plain = ap (digits_value 10) (no_plus b bs (plain_first b bs plain))

pub digits_more : (xs : List ℕ) (i : ℕ) → i < length xs → list_all is_digit (take i xs) ≡ true → is_digit (get_or xs i 0) ≡ true → list_all is_digit (take (i + 1) xs) ≡ true
digits_more xs i lt e d = list_all_more is_digit xs i 0 lt ∙ ap₂ (λ a b. a && b) e d

pub digits_at : (xs : List ℕ) (i : ℕ) → i < length xs → is_digit (get_or xs i 0) ≡ false → false ≡ list_all is_digit xs
digits_at xs i lt e = sym (list_all_at is_digit xs i 0 lt e)
