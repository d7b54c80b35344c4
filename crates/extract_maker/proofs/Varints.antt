-- A number is spelled as one varint, numbers as packed ones.
use Rattle.std.proofs.Common.{◌≡◌, ℕ, zero, suc, ◌+◌, ◌*◌, ◌/◌, ◌%◌, ◌^◌, ◌<◌, ◌≤◌, Bool, true, false, cond, ltb, List, [], ◌∷◌, ◌++◌, length, refl, sym, ap, ◌∙◌, subst, arith, inl, inr}
use Rattle.std.specs.List.{AllByRecursion, flat_map}
use Rattle.std.proofs.lemmas.Bool.{cases_Bool, ltb-true, ltb-false}
use Rattle.std.proofs.lemmas.List.{length-append}
use Rattle.wire_read.specs.Varint.{IsGroups, number_of, IsVarint}
use Rattle.wire_read.specs.Numbers.{SpellsNumbers}
use Rattle.extract_maker.specs.Spelling.{groups_written, varint_bytes, packed}

-- ---- groups

-- the numbers that so many groups behind the first have room for
limit : ℕ → ℕ
limit zero = 128
limit (suc more) = 128 * limit more

one_more : (b : ℕ) (bytes : List ℕ) → 128 ≤ b → b < 256 → IsGroups bytes → IsGroups (b ∷ bytes)
one_more b [] least most are = absurd are
one_more b (c ∷ bytes) least most are = (least, most, are)

are_groups : (more n : ℕ) → IsGroups (groups_written more n)
unfolding groups_written
are_groups zero n = omega arith
are_groups (suc more) n = by (ltb n 128) refl (are_groups more (n / 128))
  where
    by : (b : Bool) → ltb n 128 ≡ b → IsGroups (groups_written more (n / 128)) → IsGroups (cond b (n ∷ []) ((n % 128 + 128) ∷ groups_written more (n / 128)))
    by true e rest = ltb-true n 128 e
    by false e rest = one_more (n % 128 + 128) (groups_written more (n / 128)) (omega arith) (omega arith) rest

few_groups : (more n : ℕ) → length (groups_written more n) ≤ more + 1
unfolding groups_written
few_groups zero n = omega arith
few_groups (suc more) n = by (ltb n 128) (few_groups more (n / 128))
  where
    by : (b : Bool) → length (groups_written more (n / 128)) ≤ more + 1 → length (cond b (n ∷ []) ((n % 128 + 128) ∷ groups_written more (n / 128))) ≤ suc more + 1
    by true rest = omega arith
    by false rest = omega arith

number_is : (more n : ℕ) → n < limit more → number_of (groups_written more n) ≡ n
unfolding limit groups_written
number_is zero n few = omega arith
number_is (suc more) n few = by (ltb n 128) refl (number_is more (n / 128) (omega arith))
  where
    by : (b : Bool) → ltb n 128 ≡ b → number_of (groups_written more (n / 128)) ≡ n / 128 → number_of (cond b (n ∷ []) ((n % 128 + 128) ∷ groups_written more (n / 128))) ≡ n
    by true e rest = let small = ltb-true n 128 e in omega arith
    by false e rest = omega arith

-- ---- varints

pub is_varint : (n : ℕ) → n < 2 ^ 64 → IsVarint (varint_bytes n) n
unfolding varint_bytes limit
is_varint n few = record {
  groups = are_groups 9 n;
  few = few_groups 9 n;
  modulo = let is = number_is 9 n (omega arith) in rw is (omega arith);
}

pub few_bytes : (n : ℕ) → length (varint_bytes n) ≤ 10
unfolding varint_bytes
few_bytes n = few_groups 9 n

-- ---- packed numbers

abbrev pub IsWord : ℕ → Type 0
IsWord n = n < 2 ^ 64

pub spells_packed : (numbers : List ℕ) → AllByRecursion IsWord numbers → SpellsNumbers (packed numbers) numbers
spells_packed [] are = refl
spells_packed (n ∷ numbers) are = (varint_bytes n, packed numbers, is_varint n are.0, refl, spells_packed numbers are.1)

pub few_packed : (numbers : List ℕ) → length (packed numbers) ≤ 10 * length numbers
few_packed [] = omega arith
few_packed (n ∷ numbers) = omega (arith, length-append (varint_bytes n) (packed numbers), few_bytes n, few_packed numbers)
