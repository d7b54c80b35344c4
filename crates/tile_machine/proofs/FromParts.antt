-- What a phase owes whose finished tiles each follow from their place, all readable parts and the world's tile there.
use Rattle.std.specs.Prelude.{◌≡◌, ℕ, ◌+◌, List, [], ◌∷◌, length, map, refl}
use Rattle.std.proofs.Common.{zero, suc, sym, ap, ◌∙◌, arith}
use Rattle.std.proofs.Math.ListN.{get_elem?}
use mathlib.Core.Option.{Option as Maybe, some, none}
use Rattle.tile_machine.specs.At.{At}
use Rattle.tile_machine.specs.FinishedBy.{each_place, finished_by}

length-each_place : {T : Type 0} (f : ℕ → T → T) (i : ℕ) (ts : List T) → length (each_place f i ts) ≡ length ts
length-each_place f i [] = refl
length-each_place f i (t ∷ ts) = ap suc (length-each_place f (i + 1) ts)

map-each_place : {T P : Type 0} (readable : T → P) (f : ℕ → T → T) → ((i : ℕ) (t : T) → readable (f i t) ≡ readable t)
    → (i : ℕ) (ts : List T) → map readable (each_place f i ts) ≡ map readable ts
map-each_place readable f same i [] = refl
map-each_place readable f same i (t ∷ ts) =
    ap (λ p. p ∷ map readable (each_place f (i + 1) ts)) (same i t) ∙ ap (λ ps. readable t ∷ ps) (map-each_place readable f same (i + 1) ts)

-- f at this place, if there is a tile
abbrev at_place : {T : Type 0} → (ℕ → T → T) → ℕ → Maybe T → Maybe T
at_place f i none = none
at_place f i (some t) = some (f i t)

get-each_place : {T : Type 0} (f : ℕ → T → T) (i j k : ℕ) (ts : List T) → i + j ≡ k → get_elem? (each_place f i ts) j ≡ at_place f k (get_elem? ts j)
get-each_place f i j k [] e = refl
get-each_place f i zero k (t ∷ ts) e = let same : i ≡ k = omega arith in ap (λ n. some (f n t)) same
get-each_place f i (suc j) k (t ∷ ts) e = get-each_place f (i + 1) j k ts (omega arith)

-- as many finished tiles as tiles
pub finished-many : {T P : Type 0} (readable : T → P) (finish : ℕ → List P → T → T) (world : List T) → length (finished_by readable finish world) ≡ length world
finished-many readable finish world = length-each_place (λ i t. finish i (map readable world) t) 0 world

-- with the same readable parts, where `finish` keeps that of each tile
pub finished-parts : {T P : Type 0} (readable : T → P) (finish : ℕ → List P → T → T) → ((i : ℕ) (ps : List P) (t : T) → readable (finish i ps t) ≡ readable t)
    → (world : List T) → map readable (finished_by readable finish world) ≡ map readable world
finished-parts readable finish same world = map-each_place readable (λ i t. finish i (map readable world) t) (λ i t. same i (map readable world) t) 0 world

-- worlds that agree in a tile and in all parts have one finished tile there
pub finished-agree : {T P : Type 0} (readable : T → P) (finish : ℕ → List P → T → T) (v w : List T) (i : ℕ)
    → get_elem? v i ≡ get_elem? w i → map readable v ≡ map readable w
    → get_elem? (finished_by readable finish v) i ≡ get_elem? (finished_by readable finish w) i
finished-agree readable finish v w i here parts =
    get-each_place (λ j t. finish j (map readable v) t) 0 i i v (omega arith)
    ∙ ap (λ o. at_place (λ j t. finish j (map readable v) t) i o) here
    ∙ ap (λ ps. at_place (λ j t. finish j ps t) i (get_elem? w i)) parts
    ∙ sym (get-each_place (λ j t. finish j (map readable w) t) 0 i i w (omega arith))

-- the finished tile of a place
pub finished-at : {T P : Type 0} (readable : T → P) (finish : ℕ → List P → T → T) (world : List T) (i : ℕ) (t : T) → At world i t
    → At (finished_by readable finish world) i (finish i (map readable world) t)
finished-at readable finish world i t at =
    get-each_place (λ j u. finish j (map readable world) u) 0 i i world (omega arith) ∙ ap (λ o. at_place (λ j u. finish j (map readable world) u) i o) at
