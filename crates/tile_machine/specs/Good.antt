-- What is true in every state of a machine that any list of events reaches.
use Rattle.std.specs.Prelude.{◌≡◌, ℕ, List, Option, Some, IsSome, option_and_then, Bool, true, false, ◌&&◌, length, count_by, All, ◌↔◌, nat_lt, nat_le, if◌then◌else◌}
use Rattle.tile_machine.specs.declared.state.Worker.{Worker}
use Rattle.tile_machine.specs.declared.event.Event.{Event}
use Rattle.tile_machine.specs.State.{State, worker_of, cell_of}
use Rattle.tile_machine.specs.Next.{leads}

-- the tile whose lock the live worker of this number holds
abbrev pub hand_of : State → ℕ → Option ℕ
hand_of s n = option_and_then (λ w. w.hand) (worker_of s n)

-- the worker that the lock of this tile names
abbrev pub holder_of : State → ℕ → Option ℕ
holder_of s tile = option_and_then (λ c. c.lock) (cell_of s tile)

-- the number is in the worker's range
abbrev pub covers : ℕ → Worker → Bool
covers x w = nat_le w.first x && nat_lt x w.end

-- what is true in every state of a machine with this number of workers
pub record IsGood (workers : ℕ) (s : State) : Type 0 where
  pub all : length s.workers ≡ workers
  -- a live worker's number is the first of its range
  pub numbers : (n : ℕ) (w : Worker) → worker_of s n ≡ Some w → w.first ≡ n
  -- each number below that of all workers is in the range of exactly one, and no other number in any: so ranges don't overlap, and together they are all
  pub ranges : (x : ℕ) → count_by (covers x) s.workers ≡ (if nat_lt x workers then 1 else 0)
  -- a live worker holds a tile exactly where the tile's lock names the worker
  pub locks : (n tile : ℕ) → (hand_of s n ≡ Some tile) ↔ (holder_of s tile ≡ Some n)
  -- a value is out only where its lock is held
  pub out_held : All (λ c. c.home ≡ false → IsSome c.lock) s.cells
  -- a marked tile has a claim
  pub marked_claimed : All (λ c. c.marked ≡ true → IsSome c.claim) s.cells

-- the worker that has claimed this tile
abbrev pub claimant_of : State → ℕ → Option ℕ
claimant_of s tile = option_and_then (λ c. c.claim) (cell_of s tile)

-- a tile that this worker has claimed is its claim still, whatever the events are
abbrev pub ClaimStays : State → List Event → ℕ → ℕ → Type 0
ClaimStays s events tile by = claimant_of s tile ≡ Some by → claimant_of (leads s events) tile ≡ Some by
