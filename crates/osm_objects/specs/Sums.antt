-- Lists of signed numbers, each written as its zigzag difference from the one before it.
use Rattle.std.specs.Prelude.{ℕ, ◌^◌, ℤ, pos, negsuc, ◌+ℤ◌, Bool, nat_lt, if◌then◌else◌, List, [], ◌∷◌, Result, Ok, Err}
use Rattle.wire_read.specs.ZigZag.{unzigzag_of}
use Rattle.osm_objects.specs.declared.fault.ObjectFault.{ObjectFault}
use Rattle.osm_objects.specs.declared.fault.ObjectFault.TheVariants as faults
use Rattle.osm_objects.specs.Steps.{◌>>=◌}

-- the number is a signed one of 64 bits
abbrev pub fits_i64 : ℤ → Bool
fits_i64 (pos n) = nat_lt n (2 ^ 63)
fits_i64 (negsuc n) = nat_lt n (2 ^ 63)

-- each number is the one before it and its difference together
abbrev pub sums_from : ℕ → ℤ → List ℕ → Result (List ℤ) ObjectFault
sums_from at last [] = Ok []
sums_from at last (n ∷ ns) =
    let next = last +ℤ unzigzag_of n in
    if fits_i64 next then (sums_from at next ns >>= λ others. Ok (next ∷ others)) else Err (faults.BadNumber at)

-- the numbers of these differences; the first is the difference from 0
abbrev pub sums_of : ℕ → List ℕ → Result (List ℤ) ObjectFault
sums_of at differences = sums_from at (pos 0) differences
