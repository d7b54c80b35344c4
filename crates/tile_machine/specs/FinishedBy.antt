-- Finished tiles that each follow from their place, all readable parts and the world's tile there.
use Rattle.std.specs.Prelude.{ℕ, ◌+◌, List, [], ◌∷◌, map}

-- f of each place, counted from i, and of the tile there
abbrev pub each_place : {T : Type 0} → (ℕ → T → T) → ℕ → List T → List T
each_place f i [] = []
each_place f i (t ∷ ts) = f i t ∷ each_place f (i + 1) ts

-- the finished tiles of a world, where `finish` makes one from its place, all readable parts and the world's tile
abbrev pub finished_by : {T P : Type 0} → (T → P) → (ℕ → List P → T → T) → List T → List T
finished_by readable finish world = each_place (λ i t. finish i (map readable world) t) 0 world
