-- What each call of a table answers, and the view that it leaves.
use Rattle.std.specs.Prelude.{◌≡◌, ℕ, ◌<◌, Bool, true, false, List, length, map, nat_lt, Result, Ok, Err}
use Rattle.tile_machine.specs.At.{At}
use Rattle.tile_table.specs.declared.view.View.{View}
use Rattle.tile_table.specs.declared.answer.Claim.{Claim}
use Rattle.tile_table.specs.declared.answer.Claim.TheVariants.{Mine, Taken}
use Rattle.tile_table.specs.declared.answer.Unseen.{Unseen}
use Rattle.tile_table.specs.declared.answer.Unseen.TheVariants.{Busy, OutOfMemory}
use Rattle.tile_table.specs.declared.seat.Turn.{Turn}
use Rattle.tile_table.specs.declared.seat.Closed.{Closed}
use Rattle.tile_table.specs.Counts.{times_in, pair_times}
use Rattle.tile_table.specs.Views.{tiles_by, with_claim, with_seen, with_take, with_no_hand, knowing, with_lost, IsAnother}
use Rattle.tile_table.specs.Seats.{turn_place, turn_marked, HasTurn}

module _ {T : Type 0} where
  -- a claim: the seat has it now, of a place that it neither claimed nor marked before, or it saw who has
  abbrev pub Claimed : View T → ℕ → Claim → View T → Type 0
  Claimed before i Mine after = (after ≡ with_claim before i) × (times_in i before.marks ≡ 0) × ((by : ℕ) → pair_times by i before.claims ≡ 0)
  Claimed before i (Taken by) after = after ≡ with_seen before i by

  -- a lock that wasn't had: this worker's number stood in its word
  pub record LockMissed (before : View T) (j holder : ℕ) (after : View T) : Type 0 where
    -- whether the word had been read as "free, marked" just before
    pub knew : Bool
    pub view : after ≡ with_lost (knowing knew before j) j holder
    pub another : IsAnother holder before

  -- the lock was had, for a tile that was marked or not, and given back
  pub record LockedOnce (before : View T) (j : ℕ) (after : View T) : Type 0 where
    pub marked : Bool
    pub view : after ≡ with_no_hand (with_take (knowing marked before j) j marked)

  -- a look at the tile of place j: its lock was had, or another worker held it
  abbrev pub LookedAt : {Q : Type 0} → Result Q Unseen → View T → ℕ → View T → Type 0
  LookedAt (Ok part) before j after = LockedOnce before j after
  LookedAt (Err OutOfMemory) before j after = LockedOnce before j after
  LookedAt (Err (Busy holder)) before j after = LockMissed before j holder after

  -- what a look shows: the readable part of the world's tile, or of the finished one
  pub record PartSeen {Q : Type 0} (readable : T → Q) (before : View T) (j : ℕ) (part : Q) : Type 0 where
    pub marked : Bool
    pub stands : At (map readable (tiles_by marked before.world before.goal)) j part

module _ {X T Q : Type 0} where
  -- a lock that was had
  pub record TurnHad (before : View T) (j : ℕ) (had : Turn X T Q) (after : View T) : Type 0 where
    pub place : turn_place had ≡ j
    pub view : after ≡ with_take (knowing (turn_marked had) before j) j (turn_marked had)
    pub turn : HasTurn after had
    -- a tile that the seat marked is the finished one: a write is read back
    pub own_mark : 0 < times_in j before.marks → turn_marked had ≡ true
    -- a tile that it claimed under its own number, and hasn't marked, is the world's
    pub own_claim : 0 < pair_times before.first j before.claims → times_in j before.marks ≡ 0 → turn_marked had ≡ false

  -- the tiles of a table at its end: one for each place, done exactly where the seat's marks have the place, and then the finished one, else the world's
  pub record ClosedBy (v : View T) (tiles : List (Closed X T Q)) : Type 0 where
    pub many : length tiles ≡ length v.world
    pub done : (i : ℕ) (c : Closed X T Q) → At tiles i c → c.done ≡ nat_lt 0 (times_in i v.marks)
    pub stands : (i : ℕ) (c : Closed X T Q) → At tiles i c → At (tiles_by c.done v.world v.goal) i c.tile
