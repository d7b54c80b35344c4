-- The local index of a directed piece, from where all of them start.
use Rattle.std.specs.Prelude.{◌≡◌, ◌<◌, ◌≤◌, ℕ, List, length, take, All, nat_eq, slice_index}
use Rattle.std.specs.List.{count_by}

-- the local index of a code: how many codes before it start at the same junction
abbrev pub code_local : List ℕ → ℕ → ℕ
code_local starts code = count_by (nat_eq (slice_index starts code)) (take code starts)

-- the local indexes of all codes
pub record AreCodeLocals (starts locals : List ℕ) : Type 0 where
  pub all : length locals ≡ length starts
  pub each : (c : ℕ) → c < length starts → slice_index locals c ≡ code_local starts c

-- the codes start at so many junctions, and at none start more than a local index can tell
pub record AreFewStarts (junctions : ℕ) (starts : List ℕ) : Type 0 where
  pub inside : All (λ n. n < junctions) starts
  pub few : (n : ℕ) → count_by (nat_eq n) starts ≤ 255
