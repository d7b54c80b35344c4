-- What a worker needs, and what it leaves.
use Rattle.std.specs.Prelude.{◌≡◌, ℕ, ◌+◌, ◌<◌, ◌≤◌, Bool, true, false, List, [], ◌∷◌, ◌++◌, length, ◌⊎◌}
use Rattle.tile_machine.specs.declared.phase.Phase.{Ghosts}
use Rattle.tile_table.specs.declared.view.View.{View}
use Rattle.tile_table.specs.declared.view.Hand.TheVariants.{Empty}
use Rattle.tile_table.specs.declared.seat.Seat.{Seat}
use Rattle.tile_table.specs.declared.table.TileTable.{TileTable}
use Rattle.tile_table.specs.Counts.{times_in, pair_times}
use Rattle.tile_table.specs.Seats.{view, seat_name, IsAt}
use Rattle.tile_table.specs.Stays.{IsAlone, Unchanged, Loses, TookOne}
use Rattle.tile_table.specs.declared.seat.Turn.{Turn}
use Rattle.tile_table.specs.Seats.{turn_place, turn_marked, HasTurn}
use Rattle.phase_run.specs.Tries.{tries_in_a_row}
use Rattle.phase_run.specs.declared.worker.Visit.{Visit}
use Rattle.phase_run.specs.declared.worker.Visit.TheVariants.{Finished, PutOff, Passed}

module _ {X T Q : Type 0} where
  -- the lock of place j was taken once, after fewer tries in vain than are allowed
  pub record TurnGot (before : View T) (j : ℕ) (got : Turn X T Q) (after : View T) : Type 0 where
    pub place : turn_place got ≡ j
    pub turn : HasTurn after got
    pub unchanged : Unchanged before after
    pub takes : TookOne j before after
    pub loses : Loses before after
    -- one of the tries was not in vain
    pub few : length after.lost < length before.lost + tries_in_a_row
    -- what the seat claimed under its own number and hasn't marked, nobody else marked
    pub own_claim : 0 < pair_times before.first j before.claims → times_in j before.marks ≡ 0 → turn_marked got ≡ false

module _ {X T Q : Type 0} {g : Ghosts X T Q} where
  -- a seat of this table that holds no lock, for a phase that fits its world and whose finished tiles are its goal
  pub record Ready (table : TileTable X T Q g) (suits : List T → Type 0) (finished : List T → List T) (seat : Seat X T Q g) : Type 0 where
    pub at : IsAt table seat
    pub hand : (view seat).hand ≡ Empty
    pub fits : suits (view seat).world
    pub goal : (view seat).goal ≡ finished (view seat).world

  -- a seat after its work: at its table, with no lock, and with the same lists of tiles and range
  pub record Worked (before after : Seat X T Q g) : Type 0 where
    pub table : seat_name after ≡ seat_name before
    pub hand : (view after).hand ≡ Empty
    pub world : (view after).world ≡ (view before).world
    pub goal : (view after).goal ≡ (view before).goal
    pub first : (view after).first ≡ (view before).first
    pub end : (view after).end ≡ (view before).end
    pub all : (view after).all ≡ (view before).all

module _ {T : Type 0} where
  -- the seat has the claim of the place, or met another's
  abbrev pub Visited : View T → ℕ → Type 0
  Visited v i = ((by : ℕ) × (0 < pair_times by i v.claims)) ⊎ ((by : ℕ) × (0 < pair_times i by v.seen))

  -- what became of a tile that the seat had claimed: it was finished, or it was put off since tries were lost
  abbrev pub Ended : Bool → View T → ℕ → View T → Type 0
  Ended true before i after = after.marks ≡ before.marks ++ i ∷ []
  Ended false before i after = (after.marks ≡ before.marks) × (length before.lost < length after.lost)

  -- the seat has one claim more, that of a place that it neither claimed nor marked before
  pub record ClaimedNow (before : View T) (i : ℕ) (after : View T) : Type 0 where
    pub claims : after.claims ≡ before.claims ++ (before.first, i) ∷ []
    pub seen : after.seen ≡ before.seen
    pub unclaimed : (by : ℕ) → pair_times by i before.claims ≡ 0
    pub unmarked : times_in i before.marks ≡ 0

  -- what a worker did at a place
  abbrev pub Visits : Visit → View T → ℕ → View T → Type 0
  Visits Finished before i after = ClaimedNow before i after × Ended true before i after
  Visits PutOff before i after = ClaimedNow before i after × Ended false before i after
  Visits Passed before i after =
      (after.claims ≡ before.claims) × (after.marks ≡ before.marks) × ((by : ℕ) × (after.seen ≡ before.seen ++ (i, by) ∷ []))

  -- there are at least as many new marks and lost tries as new claims: a tile that was claimed and isn't finished cost a lost try
  abbrev pub Accounts : View T → View T → Type 0
  Accounts before after =
      length after.claims + length before.marks + length before.lost ≤ length before.claims + length after.marks + length after.lost

  -- each tile that was claimed is finished
  abbrev pub FinishesClaims : View T → Type 0
  FinishesClaims v = (by i : ℕ) → 0 < pair_times by i v.claims → 0 < times_in i v.marks

  -- places that the seat has claimed and not finished, each of them once
  abbrev pub Waiting : View T → List ℕ → Type 0
  Waiting v places =
      (i : ℕ) → 0 < times_in i places → (i < length v.world) × (0 < pair_times v.first i v.claims) × (times_in i v.marks + times_in i places ≡ 1)

  -- the claims are the same, and those of others that were met. The marks may be more
  pub record Finishes (before after : View T) : Type 0 where
    pub claims : after.claims ≡ before.claims
    pub seen : after.seen ≡ before.seen
    pub marks : (i : ℕ) → times_in i before.marks ≤ times_in i after.marks
    pub many : length before.marks ≤ length after.marks

  -- a worker that had memory enough went over these places
  pub record GoesOver (from to : ℕ) (before after : View T) : Type 0 where
    pub visited : (i : ℕ) → from ≤ i → i < to → Visited after i
    -- what was visited before stays so
    pub still : (i : ℕ) → Visited before i → Visited after i
    pub accounts : Accounts before after
    -- who is alone puts nothing off
    pub alone : IsAlone before → FinishesClaims before → FinishesClaims after

  -- a worker, or several together, that had memory enough went over all places
  pub record WentOver (before after : View T) : Type 0 where
    pub visited : (i : ℕ) → i < length before.world → Visited after i
    pub accounts : Accounts before after
