-- The keys and values of a DenseNodes (osmformat.proto, `keys_vals`): for each node a group of pairs of a
-- key and a value, ended by a 0 in the place of a key.
use Rattle.std.specs.Prelude.{ℕ, zero, suc, ◌==◌, if◌then◌else◌, List, [], ◌∷◌, length, replicate, Option, Some, None, Result, Ok, Err}
use Rattle.std.specs.Option.{option_and_then}
use Rattle.osm_objects.specs.declared.fault.ObjectFault.{ObjectFault}
use Rattle.osm_objects.specs.declared.fault.ObjectFault.TheVariants as faults

-- one pair more in the first group, where there is a group
abbrev pub into_first : (ℕ × ℕ) → List (List (ℕ × ℕ)) → Option (List (List (ℕ × ℕ)))
into_first pair [] = None
into_first pair (group ∷ groups) = Some ((pair ∷ group) ∷ groups)

-- the groups that the numbers spell; None where they end inside of one
abbrev pub groups_in : List ℕ → Option (List (List (ℕ × ℕ)))
groups_in [] = Some []
groups_in (zero ∷ numbers) = option_and_then (λ groups. Some ([] ∷ groups)) (groups_in numbers)
groups_in (suc key ∷ []) = None
groups_in (suc key ∷ value ∷ numbers) = option_and_then (into_first (suc key, value)) (groups_in numbers)

-- the groups, where there are so many
abbrev pub exactly : ℕ → ℕ → Option (List (List (ℕ × ℕ))) → Result (List (List (ℕ × ℕ))) ObjectFault
exactly at count None = Err (faults.Uneven at)
exactly at count (Some groups) = if length groups == count then Ok groups else Err (faults.Uneven at)

-- a group for each of so many nodes; where no number is written, no node has a tag
abbrev pub groups_of : ℕ → ℕ → List ℕ → Result (List (List (ℕ × ℕ))) ObjectFault
groups_of at count [] = Ok (replicate count [])
groups_of at count (n ∷ ns) = exactly at count (groups_in (n ∷ ns))
