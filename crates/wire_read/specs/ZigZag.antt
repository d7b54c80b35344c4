-- Signed numbers as unsigned ones (protobuf.dev, "Encoding", "Signed Integers").
use Rattle.std.specs.Prelude.{ℕ, ℤ, pos, negsuc, ◌/◌, ◌%◌, if◌then◌else◌, ◌==◌}

-- an even number stands for its half, an odd one for - half - 1
abbrev pub unzigzag_of : ℕ → ℤ
unzigzag_of n = if n % 2 == 0 then pos (n / 2) else negsuc (n / 2)
