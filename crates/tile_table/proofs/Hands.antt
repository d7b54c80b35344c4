-- two hands that are one
use Rattle.std.proofs.Common.{◌≡◌, ℕ, ◌+◌, ◌*◌, ◌<◌, Bool, false, refl, ap, ◌∙◌, arith, length}
use Rattle.tile_table.specs.declared.view.View.{View}
use Rattle.tile_table.specs.declared.view.Hand.{Hand}
use Rattle.tile_table.specs.declared.view.Hand.TheVariants.{Empty, Holds}
use Rattle.tile_table.specs.Views.{held, holding}
use Rattle.tile_table.specs.Shows.{Table, Shows, Knows, lock_of}
use Rattle.tile_table.proofs.Bits.{both-eq, same-some}
use Rattle.tile_table.proofs.Sums.{total-has}
use Rattle.tile_table.proofs.Words.{is-there}

abbrev place_in : Hand → ℕ
place_in Empty = 0
place_in (Holds j m) = j

abbrev mark_in : Hand → Bool
mark_in Empty = false
mark_in (Holds j m) = m

abbrev grip : Hand → ℕ
grip Empty = 0
grip (Holds j m) = 1

pub same-place : (i j : ℕ) (m n : Bool) → Holds i m ≡ Holds j n → i ≡ j
same-place i j m n e = ap place_in e

pub same-mark : (i j : ℕ) (m n : Bool) → Holds i m ≡ Holds j n → m ≡ n
same-mark i j m n e = ap mark_in e

pub not-empty : (j : ℕ) (m : Bool) → Empty ≡ Holds j m → ⊥
not-empty j m e = let g : grip Empty ≡ grip (Holds j m) = ap grip e in let h : 0 ≡ 1 = g in omega arith

module _ {T : Type 0} where
  -- the lock word of a place in hand
  pub word-of-hand : (s : Table T) → Shows s → (k : ℕ) (v : View T) (j : ℕ) (m : Bool) → Knows s k v → v.hand ≡ Holds j m → lock_of s j ≡ v.first + 2
  word-of-hand s sh k v j m at hand =
      let h : held v.first j v.first v.hand ≡ held v.first j v.first (Holds j m) = ap (held v.first j v.first) hand in
      let one : holding v.first j v ≡ 1 = h ∙ both-eq v.first j v.first j refl refl in
      same-some (lock_of s j) (v.first + 2) (omega (arith, one, total-has (holding v.first j) s.views k v at, sh.locks.holders v.first j))

  -- the place is one of the table
  pub inside-of-word : (s : Table T) → Shows s → (j x : ℕ) → lock_of s j ≡ x + 2 → j < length s.homes
  inside-of-word s sh j x e = omega (arith, is-there s.words (3 * j + 1) (omega (arith, e)), sh.one_world.words)
