-- What the numbers of coordinates stand for.
use Rattle.std.specs.Prelude.{ℤ, pos, neg_ℤ, ◌+ℤ◌, ◌*ℤ◌, int_le, Bool, ◌&&◌}
use Rattle.std.specs.Int.{int_div_euclid}

-- a coordinate in units of 1e-7 degree, rounded down: the offset and so many steps of the granularity, both in 1e-9 degree
abbrev pub units_of : ℤ → ℤ → ℤ → ℤ
units_of granularity offset number = int_div_euclid (offset +ℤ (granularity *ℤ number)) (pos 100)

-- from one end to the other
abbrev pub is_within : ℤ → ℤ → Bool
is_within limit units = int_le (neg_ℤ limit) units && int_le units limit
