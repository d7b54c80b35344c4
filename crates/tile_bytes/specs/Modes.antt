-- Sets of travel modes, one bit a mode.
use Rattle.std.specs.Prelude.{ℕ, ◌==◌, Bool, bit_and}

-- each of these modes is one of those
abbrev pub is_within : ℕ → ℕ → Bool
is_within modes those = bit_and modes those == modes
