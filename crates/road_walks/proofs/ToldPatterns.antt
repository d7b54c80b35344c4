-- What a pattern is that a mask tells.
use Rattle.std.proofs.Common.{◌≡◌, ℕ, ◌<◌, refl, List, [], ◌∷◌, true, false}
use Rattle.std.specs.Prelude.{nat_eq, nat_lt}
use Rattle.std.proofs.lemmas.Bool.{both_ways, and_parts, eqb-true, ltb-true}
use Rattle.road_walks.specs.Masks.{in_mask}

-- a pattern that a mask tells
pub record Told {P : Type 0} (local_index : P → ℕ) (vehicles bits : ℕ) (pattern : List P) (modes : ℕ) : Type 0 where
  pub first : P
  pub second : P
  pub is : pattern ≡ first ∷ (second ∷ [])
  pub modes_are : modes ≡ vehicles
  pub low : local_index second < bits

pub told_by : {P : Type 0} (local_index : P → ℕ) (vehicles bits : ℕ) (pattern : List P) (modes : ℕ) → in_mask local_index vehicles bits pattern modes ≡ true → Told local_index vehicles bits pattern modes
told_by local_index vehicles bits [] modes h = absurd (both_ways false refl h)
told_by local_index vehicles bits (e ∷ []) modes h = absurd (both_ways false refl h)
told_by local_index vehicles bits (e ∷ (f ∷ [])) modes h =
    let (same, low) = and_parts (nat_eq modes vehicles) (nat_lt (local_index f) bits) h in
    record { first = e; second = f; is = refl; modes_are = eqb-true modes vehicles same; low = ltb-true (local_index f) bits low }
told_by local_index vehicles bits (e ∷ (f ∷ (g ∷ gs))) modes h = absurd (both_ways false refl h)
