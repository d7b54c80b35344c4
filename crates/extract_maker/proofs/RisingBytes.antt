-- Numbers that rise by a step, one more at a time; and the groups of a varint.
use Rattle.std.proofs.Common.{◌≡◌, ℕ, zero, suc, ◌+◌, ◌*◌, ◌-◌, ◌/◌, ◌%◌, ◌<◌, ◌≤◌, cond, ltb, ℤ, pos, negsuc, ◌-ℤ◌, List, [], ◌∷◌, ◌++◌, map, length, refl, sym, ap, ◌∙◌, subst, arith, append_assoc}
use Rattle.std.specs.List.{range_with_len}
use Rattle.std.proofs.lemmas.Bool.{lt-ltb, le-ltb, cond-true, cond-false}
use Rattle.std.proofs.lemmas.Int.{ints}
use Rattle.std.proofs.lemmas.List.{append-nil}
use Rattle.std.proofs.Math.Nat.{mul-le-mul_left, mul_comm}
use Rattle.extract_maker.specs.Spelling.{groups_written, varint_bytes, packed, zigzag, differences, packed_differences}
use Rattle.extract_maker.specs.GridFile.{rising}

-- ---- groups

-- one group was put behind the bytes, and there are more
pub group_more : (room n : ℕ) (out new whole : List ℕ) (byte : ℕ) → new ≡ out ++ byte ∷ [] → byte ≡ n % 128 + 128 → 128 ≤ n
    → out ++ groups_written (suc room) n ≡ whole → new ++ groups_written room (n / 128) ≡ whole
unfolding groups_written
group_more room n out new whole byte pushed is more so_far =
    ap (λ (l : List ℕ). l ++ groups_written room (n / 128)) (pushed ∙ ap (λ (b : ℕ). out ++ b ∷ []) is)
    ∙ append_assoc out ((n % 128 + 128) ∷ []) (groups_written room (n / 128))
    ∙ ap (λ (l : List ℕ). out ++ l) (sym (cond-false (ltb n 128) (n ∷ []) ((n % 128 + 128) ∷ groups_written room (n / 128)) (le-ltb n 128 more)))
    ∙ so_far

-- the last group was put behind the bytes
pub group_last : (room n : ℕ) (out new whole : List ℕ) (byte : ℕ) → new ≡ out ++ byte ∷ [] → byte ≡ n → n < 128
    → out ++ groups_written (suc room) n ≡ whole → new ≡ whole
unfolding groups_written
group_last room n out new whole byte pushed is last so_far =
    pushed ∙ ap (λ (b : ℕ). out ++ b ∷ []) is
    ∙ ap (λ (l : List ℕ). out ++ l) (sym (cond-true (ltb n 128) (n ∷ []) ((n % 128 + 128) ∷ groups_written room (n / 128)) (lt-ltb n 128 last)))
    ∙ so_far

pub group_tenth : (room n : ℕ) (out new whole : List ℕ) (byte : ℕ) → new ≡ out ++ byte ∷ [] → byte ≡ n % 128 → room ≡ 0
    → out ++ groups_written room n ≡ whole → new ≡ whole
unfolding groups_written
group_tenth room n out new whole byte pushed is none so_far =
    pushed ∙ ap (λ (b : ℕ). out ++ b ∷ []) is ∙ ap (λ (k : ℕ). out ++ groups_written k n) (sym none) ∙ so_far

pub length_more : (room n : ℕ) → 128 ≤ n → length (groups_written (suc room) n) ≡ length (groups_written room (n / 128)) + 1
unfolding groups_written
length_more room n more =
    ap (λ (l : List ℕ). length l) (cond-false (ltb n 128) (n ∷ []) ((n % 128 + 128) ∷ groups_written room (n / 128)) (le-ltb n 128 more)) ∙ add (length (groups_written room (n / 128)))
  where
    add : (k : ℕ) → suc k ≡ k + 1
    add k = omega arith

pub length_last : (room n : ℕ) → n < 128 → length (groups_written (suc room) n) ≡ 1
unfolding groups_written
length_last room n last = ap (λ (l : List ℕ). length l) (cond-true (ltb n 128) (n ∷ []) ((n % 128 + 128) ∷ groups_written room (n / 128)) (lt-ltb n 128 last))

pub length_tenth : (room n : ℕ) → room ≡ 0 → length (groups_written room n) ≡ 1
unfolding groups_written
length_tenth room n none = ap (λ (k : ℕ). length (groups_written k n)) none

-- ---- numbers that rise

-- what is written of so many numbers from this place on, behind this one
abbrev pub rest_of : ℕ → ℕ → ℕ → ℕ → ℕ → List ℕ
rest_of first step place many last = packed (differences (pos last) (map (λ i. pos (first + i * step)) (range_with_len place many)))

zigzag_up : (next last : ℕ) → last ≤ next → zigzag (pos next -ℤ pos last) ≡ 2 * (next - last)
zigzag_up next last up = let e : pos next -ℤ pos last ≡ pos (next - last) = omega (arith, ints) in ap (λ (z : ℤ). zigzag z) e

pub zigzag_down : (next last : ℕ) → next < last → zigzag (pos next -ℤ pos last) ≡ 2 * (last - next) - 1
zigzag_down next last down =
    let e : pos next -ℤ pos last ≡ negsuc (last - next - 1) = omega (arith, ints) in
    ap (λ (z : ℤ). zigzag z) e ∙ odd
  where
    odd : 2 * (last - next - 1) + 1 ≡ 2 * (last - next) - 1
    odd = omega arith

pub rest_more : (first step place many last : ℕ) (out : List ℕ) → last ≤ first + place * step
    → out ++ rest_of first step place (suc many) last ≡ (out ++ varint_bytes (2 * (first + place * step - last))) ++ rest_of first step (place + 1) many (first + place * step)
rest_more first step place many last out up =
    ap (λ (k : ℕ). out ++ (varint_bytes k ++ rest_of first step (place + 1) many (first + place * step))) (zigzag_up (first + place * step) last up)
    ∙ sym (append_assoc out (varint_bytes (2 * (first + place * step - last))) (rest_of first step (place + 1) many (first + place * step)))

-- a place and a step, multiplied
pub step_few : (place step : ℕ) → place ≤ 500 → step ≤ 10_000 → place * step ≤ 5_000_000
step_few place step few small =
    let scaled : place * step ≤ place * 10_000 = mul-le-mul_left place small in
    omega (arith, scaled)

from_none : (row : ℕ) → 2 * (row - 0) ≡ 2 * row
from_none row = omega arith

pub turn_ids : (row node column : ℕ) → node < row → node ≤ column
    → packed_differences (pos row ∷ pos node ∷ pos column ∷ []) ≡ (varint_bytes (2 * row) ++ varint_bytes (2 * (row - node) - 1)) ++ varint_bytes (2 * (column - node))
turn_ids row node column down up =
    let a = varint_bytes (2 * row) in
    let b = varint_bytes (2 * (row - node) - 1) in
    let c = varint_bytes (2 * (column - node)) in
    ap (λ (k : ℕ). varint_bytes k ++ (varint_bytes (zigzag (pos node -ℤ pos row)) ++ (varint_bytes (zigzag (pos column -ℤ pos node)) ++ []))) (zigzag_up row 0 (omega arith) ∙ from_none row)
    ∙ ap (λ (k : ℕ). a ++ (varint_bytes k ++ (varint_bytes (zigzag (pos column -ℤ pos node)) ++ []))) (zigzag_down node row down)
    ∙ ap (λ (k : ℕ). a ++ (b ++ (varint_bytes k ++ []))) (zigzag_up column node up)
    ∙ ap (λ (l : List ℕ). a ++ (b ++ l)) (append-nil c)
    ∙ sym (append_assoc a b c)

pub step_up : (first step place : ℕ) → first + place * step ≤ first + (place + 1) * step
step_up first step place =
    let scaled : step * place ≤ step * (place + 1) = mul-le-mul_left step (above place) in
    omega (arith, scaled, mul_comm place step, mul_comm (place + 1) step)
  where
    above : (k : ℕ) → k ≤ k + 1
    above k = omega arith
