-- The number of a key: a known key is the one that its length and one byte tell.
use Rattle.std.proofs.Common.{◌≡◌, ℕ, ◌<◌, true, false, eqb, refl, sym, subst, ap, ◌∙◌, List, inl, inr, arith}
use Rattle.std.specs.Str.{bytes_eq}
use Rattle.std.proofs.lemmas.Bool.{agree_below_at, eqb-true, eq-eqb, ne_eqb, false_from_ne_true, both_ways, cases_eq}
use Rattle.std.proofs.lemmas.Slice.Eq.{bytes_eq-Decides}
use Rattle.way_tags.specs.KnownKeys.{known_key, likely_number}

-- tried at each known key
likely_known : (k : ℕ) → k < 19 → likely_number (known_key k) ≡ k
likely_known k h =
    eqb-true (likely_number (known_key k)) k
    (agree_below_at (λ n. eqb (likely_number (known_key n)) n) (λ n. true) 19 k refl h)

key_is : (key : List ℕ) (k : ℕ) → k < 19 → bytes_eq key (known_key k) ≡ true → likely_number key ≡ k
key_is key k h same = ap likely_number ((bytes_eq-Decides key (known_key k)).0 same) ∙ likely_known k h

-- the text is the known key of its number
pub number_there : (key : List ℕ) → bytes_eq key (known_key (likely_number key)) ≡ true → (k : ℕ) → k < 19 → bytes_eq key (known_key k) ≡ eqb k (likely_number key)
number_there key there k h =
    elim (cases_eq k (likely_number key)) [
      | inl same ↦ subst (λ n. bytes_eq key (known_key n) ≡ true) (sym same) there ∙ sym (eq-eqb k (likely_number key) same)
      | inr other ↦
          false_from_ne_true (bytes_eq key (known_key k)) (λ e. other (sym (key_is key k h e)))
          ∙ sym (ne_eqb k (likely_number key) other)
    ]

-- the text is no known key
pub number_none : (key : List ℕ) → bytes_eq key (known_key (likely_number key)) ≡ false → (k : ℕ) → k < 19 → bytes_eq key (known_key k) ≡ eqb k 19
number_none key none k h =
    false_from_ne_true (bytes_eq key (known_key k))
    (λ e. both_ways (bytes_eq key (known_key (likely_number key))) none
    (subst (λ n. bytes_eq key (known_key n) ≡ true) (sym (key_is key k h e)) e))
    ∙ sym (ne_eqb k 19 (λ e. omega (arith, e, h)))
