-- What stands in a list.
use Rattle.std.specs.Prelude.{◌≡◌, ◌⊎◌, ⊤, List, [], ◌∷◌}

-- an element stands in a list
abbrev pub Among : {E : Type 0} → List E → E → Type 0
Among [] e = ⊥
Among (f ∷ fs) e = (f ≡ e) ⊎ Among fs e

-- no element stands twice in a list
abbrev pub Once : {E : Type 0} → List E → Type 0
Once [] = ⊤
Once (e ∷ es) = (Among es e → ⊥) × Once es
