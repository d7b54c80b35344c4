-- What each atomic step tells its seat: of the seat before it, the number found in the word, and the seat after it.
use Rattle.std.specs.Prelude.{◌≡◌, ℕ, zero, suc, ◌+◌, ◌*◌, ◌<◌, Option, Some, None, Bool, true, false, [], ◌∷◌}
use Rattle.atomic_table.specs.Table.{Me}
use Rattle.tile_machine.specs.At.{At}
use Rattle.tile_table.specs.declared.view.View.{View}
use Rattle.tile_table.specs.Counts.{times_in, pair_times}
use Rattle.tile_table.specs.Views.{tiles_by, with_claim, with_seen, with_take, with_known, with_lost, with_mark, with_no_hand, IsAnother}

-- a seat: its view, and the slots that are out with it
abbrev pub Sat : Type 0 → Type 0
Sat T = Me (Option T) (View T)

module _ {T : Type 0} where
  -- a look at a claim: where it names nobody nothing is told; else the seat saw who has it
  abbrev pub claim_read : ℕ → Sat T → ℕ → Sat T → Type 0
  claim_read i m zero r = r ≡ m
  claim_read i m (suc by) r = r ≡ (with_seen m.0 i by, m.1)

  -- the load of the claim word of a place
  abbrev pub claim_seen : ℕ → Sat T → ℕ → Sat T → Type 0
  claim_seen word m found r = (i : ℕ) → word ≡ 3 * i → claim_read i m found r

  -- who was read to have claimed a place, if anybody was
  abbrev pub ClaimRead : Option ℕ → View T → ℕ → View T → Type 0
  ClaimRead None before i after = after ≡ before
  ClaimRead (Some by) before i after = after ≡ with_seen before i by

  -- at no claim the seat has claimed the place, which it neither claimed nor marked before; else it saw who has
  abbrev pub claim_told : ℕ → Sat T → ℕ → Sat T → Type 0
  claim_told i m zero r = (r ≡ (with_claim m.0 i, m.1)) × (times_in i m.0.marks ≡ 0) × ((by : ℕ) → pair_times by i m.0.claims ≡ 0)
  claim_told i m (suc by) r = r ≡ (with_seen m.0 i by, m.1)

  -- the exchange on the claim word of a place
  abbrev pub claimed : ℕ → Sat T → ℕ → Sat T → Type 0
  claimed word m found r = (i : ℕ) → word ≡ 3 * i → claim_told i m found r

  -- the seat took the lock of a place with this mark, and has its slot
  pub record Took (m : Sat T) (j : ℕ) (marked : Bool) (r : Sat T) : Type 0 where
    pub tile : T
    pub after : r ≡ (with_take m.0 j marked, (j, Some tile) ∷ m.1)
    pub stands : At (tiles_by marked m.0.world m.0.goal) j tile
    -- a mark of its own is seen again
    pub own_mark : 0 < times_in j m.0.marks → marked ≡ true
    -- and nobody else marks what it has claimed
    pub own_claim : 0 < pair_times m.0.first j m.0.claims → times_in j m.0.marks ≡ 0 → marked ≡ false

  -- another worker held the lock
  abbrev pub LostTo : Sat T → ℕ → ℕ → Sat T → Type 0
  LostTo m j holder r = (r ≡ (with_lost m.0 j holder, m.1)) × IsAnother holder m.0

  -- a try with the spelling "free, unmarked" (false) or "free, marked" (true)
  abbrev pub lock_told : Bool → ℕ → Sat T → ℕ → Sat T → Type 0
  lock_told false j m zero r = Took m j false r
  lock_told false j m (suc zero) r = r ≡ (with_known m.0 j, m.1)
  lock_told true j m zero r = ⊥
  lock_told true j m (suc zero) r = Took m j true r
  lock_told marked j m (suc (suc holder)) r = LostTo m j holder r

  -- the exchange on the lock word of a place
  abbrev pub tried : Bool → ℕ → Sat T → ℕ → Sat T → Type 0
  tried marked word m found r = (j : ℕ) → word ≡ 3 * j + 1 → lock_told marked j m found r

  -- the store to the mark word of a place, whose value is out of its slot
  abbrev pub marked : ℕ → Sat T → Sat T → Type 0
  marked word m r = (i : ℕ) → word ≡ 3 * i + 2 → (r ≡ (with_mark m.0 i, m.1)) × (m.1 ≡ (i, None) ∷ [])

  -- the store to the lock word of the place in hand, whose value is in its slot
  abbrev pub freed : Sat T → Sat T → Type 0
  freed m r = (r ≡ (with_no_hand m.0, [])) × ((j : ℕ) × (tile : T) × (m.1 ≡ (j, Some tile) ∷ []))
