-- a row of flags, cleared from the front
use Rattle.std.proofs.Common.{◌≡◌, ℕ, zero, suc, ◌+◌, ◌<◌, ◌≤◌, Bool, true, false, List, [], ◌∷◌, slice_index_or, refl, sym, ◌∙◌, subst, arith}
use Rattle.std.specs.Prelude.{slice_set}
use Rattle.std.proofs.lemmas.List.{get_or-set_other}
use mathlib.Core.Logic.{dite}
use native.Mathlib.Decide.{ℕ_discrete}

cleared : (xs : List Bool) (i : ℕ) → slice_index_or (slice_set xs i false) i false ≡ false
cleared [] i = refl
cleared (x ∷ xs) zero = refl
cleared (x ∷ xs) (suc i) = cleared xs i

pub still-full : (xs : List Bool) (i n : ℕ) → ((k : ℕ) → i ≤ k → k < n → slice_index_or xs k false ≡ true) → (k : ℕ) → i + 1 ≤ k → k < n → slice_index_or (slice_set xs i false) k false ≡ true
still-full xs i n h k le lt = get_or-set_other xs i k false false (λ e. omega (arith, e, le)) ∙ h k (omega (arith, le)) lt

pub more-empty : (xs : List Bool) (i : ℕ) → ((k : ℕ) → k < i → slice_index_or xs k false ≡ false) → (k : ℕ) → k < i + 1 → slice_index_or (slice_set xs i false) k false ≡ false
more-empty xs i h k lt =
    dite (ℕ_discrete k i)
    (λ e. subst (λ j. slice_index_or (slice_set xs i false) j false ≡ false) (sym e) (cleared xs i))
    (λ ne. get_or-set_other xs i k false false ne ∙ h k (omega (arith, lt, ne)))
