-- Lists of things that lead from one node to another. Every kind of walk is such a list.
use Rattle.std.specs.Prelude.{◌≡◌, ⊤, List, [], ◌∷◌, ◌++◌}

-- the first thing of a list may come after the thing e
abbrev pub Follows : {E : Type 0} → (E → E → Type 0) → E → List E → Type 0
Follows Next e [] = ⊤
Follows Next e (f ∷ fs) = Next e f

-- a list leads from node a to node b: each thing is one, the first starts at a, each next one starts
-- where the one before it ends and may come after it, and the last ends at b; the empty list leads from a to a
abbrev pub Leads : {N E : Type 0} → (E → Type 0) → (E → N) → (E → N) → (E → E → Type 0) → N → List E → N → Type 0
Leads Is start end Next a [] b = a ≡ b
Leads Is start end Next a (e ∷ es) b = Is e × (start e ≡ a) × Follows Next e es × Leads Is start end Next (end e) es b

-- a list stands in another one, its things side by side
abbrev pub Stands : {E : Type 0} → List E → List E → Type 0
Stands {E} part whole = (before after : List E) × (whole ≡ before ++ (part ++ after))
