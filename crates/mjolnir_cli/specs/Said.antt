-- What a call says.
use Rattle.std.specs.Prelude.{◌≡◌, ℕ, ◌⊎◌, List, ◌++◌}
use Rattle.std.specs.Option.{option_map}
use Rattle.host_port.specs.Told.{Told}
use Rattle.host_port.specs.Faults.{Rose}

-- these bytes were appended to the output
abbrev pub Adds : List ℕ → Told → Told → Type 0
Adds text old new = new.said ≡ option_map (λ said. said ++ text) old.said

-- The bytes said grew by this line; or, only where the count of faults of saying rose, by nothing.
abbrev pub SaysLine : List ℕ → Told → Told → ℕ → ℕ → Type 0
SaysLine line old new before now = Adds line old new ⊎ ((new.said ≡ old.said) × Rose before now)
