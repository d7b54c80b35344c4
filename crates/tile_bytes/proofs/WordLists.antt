-- Lists of words compared, and filled.
use Rattle.std.proofs.Common.{◌≡◌, ℕ, suc, ◌+◌, ◌-◌, ◌<◌, ◌≤◌, Bool, true, false, List, [], ◌∷◌, ◌++◌, length, get_or, drop, refl, sym, ap, ◌∙◌, append_assoc, arith, min, ◌⊎◌, inl, inr, cond, eqb, ltb}
use Rattle.std.specs.Cmp.Lexicographic.{slice_cmp}
use Rattle.std.specs.Ordering.{nat_cmp, is_lt, is_eq}
use Rattle.std.specs.Prelude.{nat_lt, ◌||◌, ◌&&◌}
use Rattle.std.specs.declared.cmp.Ordering.{Ordering}
use Rattle.std.specs.declared.cmp.Ordering.TheVariants as orders
use Rattle.std.proofs.lemmas.Bool.{cases_lt, lt-ltb, le-ltb, eq-eqb, ne_eqb}
use Rattle.std.proofs.lemmas.List.{length-drop}
use Rattle.section_grammar.specs.WordBytes.{word_in, words_in}
use Rattle.tile_bytes.specs.declared.sequences.Sequence.{Sequence}
use Rattle.tile_bytes.specs.Items.{rises}
use Rattle.tile_bytes.specs.Sequences.{sequence_less}

same_tests : {a b c d : Bool} → a ≡ c → b ≡ d → ◌≡◌ {A = Ordering} (cond a orders.Less (cond b orders.Equal orders.Greater)) (cond c orders.Less (cond d orders.Equal orders.Greater))
same_tests e f = rw (e, f) refl

less_when : (a b : ℕ) → a < b → nat_cmp a b ≡ orders.Less
less_when a b lt = ap (λ t. cond t orders.Less (cond (eqb a b) orders.Equal orders.Greater)) (lt-ltb a b lt)

greater_when : (a b : ℕ) → b < a → nat_cmp a b ≡ orders.Greater
greater_when a b lt = same_tests {a = ltb a b} {b = eqb a b} {c = false} {d = false} (le-ltb a b (omega arith)) (ne_eqb a b (λ (e : a ≡ b). omega arith))

equal_when : (a b : ℕ) → a ≡ b → nat_cmp a b ≡ orders.Equal
equal_when a b e = same_tests {a = ltb a b} {b = eqb a b} {c = false} {d = true} (le-ltb a b (omega arith)) (eq-eqb a b e)

by_length : (xs ys : List ℕ) → (length xs ≡ 0) ⊎ (length ys ≡ 0) → slice_cmp nat_cmp xs ys ≡ nat_cmp (length xs) (length ys)
by_length [] [] h = refl
by_length [] (y ∷ ys) h = sym (less_when 0 (length (y ∷ ys)) (omega arith))
by_length (x ∷ xs) [] h = sym (greater_when (length (x ∷ xs)) 0 (omega arith))
by_length (x ∷ xs) (y ∷ ys) h = elim h [ inl e ↦ absurd (omega arith) | inr e ↦ absurd (omega arith) ]

cmp_minus : (a b i : ℕ) → i ≤ a → i ≤ b → nat_cmp (a - i) (b - i) ≡ nat_cmp a b
cmp_minus a b i p q =
    elim (cases_lt a b) [
      | inl lt ↦ less_when (a - i) (b - i) (omega arith) ∙ sym (less_when a b lt)
      | inr le ↦ elim (cases_lt b a) [
        | inl gt ↦ greater_when (a - i) (b - i) (omega arith) ∙ sym (greater_when a b gt)
        | inr ge ↦ equal_when (a - i) (b - i) (omega arith) ∙ sym (equal_when a b (omega arith))
      ]
    ]

-- where one of two lists has ended, their lengths decide
pub compared : (xs ys : List ℕ) (i : ℕ) → min (length xs) (length ys) ≤ i → i ≤ min (length xs) (length ys) → slice_cmp nat_cmp (drop i xs) (drop i ys) ≡ slice_cmp nat_cmp xs ys → nat_cmp (length xs) (length ys) ≡ slice_cmp nat_cmp xs ys
compared xs ys i low high e =
    let one_ends : (length (drop i xs) ≡ 0) ⊎ (length (drop i ys) ≡ 0) =
    elim (cases_lt (length xs) (length ys)) [ inl lt ↦ inl (omega (arith, length-drop i xs)) | inr le ↦ inr (omega (arith, length-drop i ys)) ] in
    let lengths : nat_cmp (length (drop i xs)) (length (drop i ys)) ≡ nat_cmp (length xs) (length ys) =
    rw (length-drop i xs, length-drop i ys) (cmp_minus (length xs) (length ys) i (omega arith) (omega arith)) in
    sym lengths ∙ sym (by_length (drop i xs) (drop i ys) one_ends) ∙ e

rises_last : {A : Type 0} (less : A → A → Bool) (xs : List A) (x none : A) → 0 < length xs → rises less xs x ≡ less (get_or xs (length xs - 1) none) x
rises_last less [] x none some = absurd (omega arith)
rises_last less (y ∷ []) x none some = refl
rises_last less (y ∷ z ∷ zs) x none some =
    let k : length (y ∷ z ∷ zs) - 1 ≡ suc (length (z ∷ zs) - 1) = omega arith in
    rises_last less (z ∷ zs) x none (omega arith) ∙ ap (λ n. less (get_or (y ∷ z ∷ zs) n none) x) (sym k)

-- the comparison with the last sequence decides
pub risen : (sequences : List Sequence) (s none : Sequence) (o : Ordering) (modes n : ℕ) → n ≡ length sequences → 0 < n → o ≡ slice_cmp nat_cmp (get_or sequences (n - 1) none).edges s.edges → modes ≡ (get_or sequences (n - 1) none).modes
    → (is_lt o || (is_eq o && nat_lt modes s.modes)) ≡ rises sequence_less sequences s
risen sequences s none o modes n len some order same =
    let last = get_or sequences (n - 1) none in
    ap (λ p. is_lt p || (is_eq p && nat_lt modes s.modes)) order
    ∙ ap (λ m. is_lt (slice_cmp nat_cmp last.edges s.edges) || (is_eq (slice_cmp nat_cmp last.edges s.edges) && nat_lt m s.modes)) same
    ∙ ap (λ k. sequence_less (get_or sequences (k - 1) none) s) len
    ∙ sym (rises_last sequence_less sequences s none (omega arith))

-- one word more
pub word_filled : (words : List ℕ) (count i : ℕ) (rest total : List ℕ) → i < count → words ++ words_in (count - i) rest ≡ total → (words ++ word_in rest ∷ []) ++ words_in (count - (i + 1)) (drop 8 rest) ≡ total
word_filled words count i rest total lt e =
    let k : count - i ≡ suc (count - (i + 1)) = omega arith in
    append_assoc words (word_in rest ∷ []) (words_in (count - (i + 1)) (drop 8 rest)) ∙ ap (λ n. words ++ words_in n rest) (sym k) ∙ e
