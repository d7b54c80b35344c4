-- What the fields of an object give before anything is known of their meaning: one number, or lists of one length.
use Rattle.std.specs.Prelude.{ℕ, ◌==◌, if◌then◌else◌, List, length, Option, Some, None, Result, Ok, Err}
use Rattle.std.specs.List.{last_or, zip}
use Rattle.osm_objects.specs.declared.fault.ObjectFault.{ObjectFault}
use Rattle.osm_objects.specs.declared.fault.ObjectFault.TheVariants as faults
use Rattle.osm_objects.specs.Steps.{◌>>=◌}

-- a number, where there is one
abbrev pub needed : ℕ → ℕ → Option ℕ → Result ℕ ObjectFault
needed at field None = Err (faults.MissingField at field)
needed at field (Some n) = Ok n

-- the number of a field that an object at this place has to have: the last one counts
abbrev pub one_number : ℕ → ℕ → List ℕ → Result ℕ ObjectFault
one_number at field numbers = needed at field (last_or None numbers)

-- these two lists are as long as one another
abbrev pub as_many : {A B : Type 0} → ℕ → List A → List B → Result (Unit {0}) ObjectFault
as_many at xs ys = if length xs == length ys then Ok tt else Err (faults.Uneven at)

-- the pairs of a list of keys and a list of values
abbrev pub pairs_of : ℕ → List ℕ → List ℕ → Result (List (ℕ × ℕ)) ObjectFault
pairs_of at keys values = do
  even ← as_many at keys values
  Ok (zip keys values)
