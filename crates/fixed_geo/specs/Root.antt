-- The whole square root of a number: the greatest number whose square isn't above it.
use Rattle.std.specs.Prelude.{ℕ, zero, suc, ◌+◌, ◌*◌, ◌<◌, ◌≤◌, nat_le, if◌then◌else◌}

-- the square of `root` isn't above n, and that of its successor is
pub record IsWholeRoot (root n : ℕ) : Type 0 where
  pub not_above : root * root ≤ n
  pub greatest : n < (root + 1) * (root + 1)

-- from the root of a number to that of its successor: one more where that square isn't above the successor
unfoldable pub next_root : ℕ → ℕ → ℕ
next_root root n = if nat_le ((root + 1) * (root + 1)) (n + 1) then root + 1 else root

-- the whole root as a function: that of n + 1 from that of n
unfoldable pub whole_root_of : ℕ → ℕ
whole_root_of zero = 0
whole_root_of (suc n) = next_root (whole_root_of n) n
