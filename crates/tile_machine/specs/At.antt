-- What stands at a place of a list.
use Rattle.std.specs.Prelude.{◌≡◌, ℕ, List}
use Rattle.std.proofs.Math.ListN.{get_elem?}
use mathlib.Core.Option.{some}

-- x stands at place j of the list
abbrev pub At : {A : Type 0} → List A → ℕ → A → Type 0
At xs j x = get_elem? xs j ≡ some x
