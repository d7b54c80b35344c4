-- Packed differences spell the numbers that they were made of.
use Rattle.std.proofs.Common.{FitsSigned, ◌≡◌, ℕ, zero, suc, ◌+◌, ◌*◌, ◌/◌, ◌%◌, ◌^◌, ◌<◌, ◌≤◌, eqb, cond, ℤ, pos, negsuc, neg_ℤ, ◌+ℤ◌, ◌-ℤ◌, ◌≤ℤ◌, List, [], ◌∷◌, length, take, map, Option, Some, refl, sym, ap, ◌∙◌, subst, arith}
use Rattle.std.specs.Prelude.{slice_get}
use Rattle.std.specs.Int.{w64}
use Rattle.std.specs.List.{AllByRecursion}
use Rattle.std.proofs.lemmas.Bool.{eq-eqb, cond-true, cond-false}
use Rattle.std.proofs.lemmas.Bool.Decides.{nat_tests}
use Rattle.std.proofs.lemmas.Int.{ints}
use Rattle.wire_read.specs.ZigZag.{unzigzag_of}
use Rattle.osm_objects.specs.Means.{summed, sum_at, AreSums}
use Rattle.extract_maker.specs.Spelling.{zigzag, differences}
use Rattle.extract_maker.proofs.Varints.{IsWord}

-- ---- zigzag

even_half : (n : ℕ) → (2 * n) % 2 ≡ 0
even_half n = omega arith

unzigzag_of_zigzag : (z : ℤ) → unzigzag_of (zigzag z) ≡ z
unzigzag_of_zigzag (pos n) =
    let even : (2 * n) % 2 ≡ 0 = omega arith in
    let half : (2 * n) / 2 ≡ n = omega arith in
    cond-true (eqb ((2 * n) % 2) 0) (pos ((2 * n) / 2)) (negsuc ((2 * n) / 2)) (eq-eqb ((2 * n) % 2) 0 even) ∙ ap (λ (k : ℕ). pos k) half
unzigzag_of_zigzag (negsuc n) =
    let odd : (2 * n + 1) % 2 ≡ 1 = omega arith in
    let half : (2 * n + 1) / 2 ≡ n = omega arith in
    ap (λ (k : ℕ). cond (eqb k 0) (pos ((2 * n + 1) / 2)) (negsuc ((2 * n + 1) / 2))) odd ∙ ap (λ (k : ℕ). negsuc k) half

-- ---- numbers that are small

pub record IsSmall (z : ℤ) : Type 0 where
  pub least : pos 0 ≤ℤ z
  pub most : z ≤ℤ pos 100_000_000

pub fits : (z : ℤ) → IsSmall z → FitsSigned w64 z
fits (pos n) small = let b = small.most in let few : n ≤ 100_000_000 = omega (arith, ints) in record { sfits = omega arith }
fits (negsuc n) small = let a = small.least in absurd (omega (arith, ints))

zigzag_word : (z : ℤ) → neg_ℤ (pos 100_000_000) ≤ℤ z → z ≤ℤ pos 100_000_000 → zigzag z < 2 ^ 64
zigzag_word (pos n) low high = omega (arith, ints)
zigzag_word (negsuc n) low high = omega (arith, ints)

words_from : (last : ℤ) (numbers : List ℤ) → IsSmall last → AllByRecursion IsSmall numbers → AllByRecursion IsWord (differences last numbers)
words_from last [] small all = tt
words_from last (n ∷ numbers) small all =
    let a = small.least in
    let b = small.most in
    let c = all.0.least in
    let d = all.0.most in
    (zigzag_word (n -ℤ last) (omega (arith, ints)) (omega (arith, ints)), words_from n numbers all.0 all.1)

zero_small : IsSmall (pos 0)
zero_small = record { least = omega (arith, ints); most = omega (arith, ints) }

pub differences_words : (numbers : List ℤ) → AllByRecursion IsSmall numbers → AllByRecursion IsWord (differences (pos 0) numbers)
differences_words numbers all = words_from (pos 0) numbers zero_small all

-- ---- sums

pub length_differences : (last : ℤ) (numbers : List ℤ) → length (differences last numbers) ≡ length numbers
length_differences last [] = refl
length_differences last (n ∷ numbers) = ap (λ (k : ℕ). suc k) (length_differences n numbers)

first_sum : (last n : ℤ) → n ≡ last +ℤ ((n -ℤ last) +ℤ pos 0)
first_sum last n = omega (arith, ints)

next_sum : (last n rest : ℤ) → n +ℤ rest ≡ last +ℤ ((n -ℤ last) +ℤ rest)
next_sum last n rest = omega (arith, ints)

sum_from : (last : ℤ) (numbers : List ℤ) (i : ℕ) → i < length numbers → slice_get numbers i ≡ Some (last +ℤ summed (take (suc i) (differences last numbers)))
sum_from last [] i within = absurd (omega arith)
sum_from last (n ∷ numbers) zero within =
    ap (λ (z : ℤ). Some z) (first_sum last n ∙ ap (λ (z : ℤ). last +ℤ (z +ℤ pos 0)) (sym (unzigzag_of_zigzag (n -ℤ last))))
sum_from last (n ∷ numbers) (suc i) within =
    let inside : i < length numbers = omega arith in
    let rest = summed (take (suc i) (differences n numbers)) in
    sum_from n numbers i inside
    ∙ ap (λ (z : ℤ). Some z) (next_sum last n rest ∙ ap (λ (z : ℤ). last +ℤ (z +ℤ rest)) (sym (unzigzag_of_zigzag (n -ℤ last))))

from_zero : (z : ℤ) → pos 0 +ℤ z ≡ z
from_zero z = omega (arith, ints)

one_more : (i : ℕ) → suc i ≡ i + 1
one_more i = omega arith

sum_is : (numbers : List ℤ) (i : ℕ) → i < length numbers → slice_get numbers i ≡ Some (sum_at i (differences (pos 0) numbers))
sum_is numbers i within =
    sum_from (pos 0) numbers i within
    ∙ ap (λ (z : ℤ). Some z) (from_zero (summed (take (suc i) (differences (pos 0) numbers))) ∙ ap (λ (k : ℕ). summed (take k (differences (pos 0) numbers))) (one_more i))

small_at : (numbers : List ℤ) (i : ℕ) (z : ℤ) → AllByRecursion IsSmall numbers → slice_get numbers i ≡ Some z → IsSmall z
small_at [] i z all e = absurd cc
small_at (n ∷ numbers) zero z all e = let same : n ≡ z = cc in subst (λ (x : ℤ). IsSmall x) same all.0
small_at (n ∷ numbers) (suc i) z all e = small_at numbers i z all.1 e

pub are_sums : (numbers : List ℤ) → AllByRecursion IsSmall numbers → AreSums (differences (pos 0) numbers) numbers
are_sums numbers all =
    let many = length_differences (pos 0) numbers in
    record {
      many = sym many;
      each = λ i within. sum_is numbers i (omega arith);
      fit = λ i within. fits (sum_at i (differences (pos 0) numbers)) (small_at numbers i (sum_at i (differences (pos 0) numbers)) all (sum_is numbers i (omega arith)));
    }
