-- what a write of one worker or of one tile changes of who lives and of who holds what
use Rattle.std.proofs.Common.{◌≡◌, ◌≢◌, ℕ, ◌<◌, ◌≤◌, cond, ltb, Option, Some, None, length, ap, ◌∙◌, subst, slice_get, option_and_then}
use Rattle.std.proofs.lemmas.Bool.{ltb-true, lt-ltb, le-ltb}
use Rattle.std.proofs.lemmas.Option.{slice_get_within, none-some, cond_some}
use Rattle.tile_machine.specs.declared.state.Cell.{Cell}
use Rattle.tile_machine.specs.declared.state.Worker.{Worker}
use Rattle.tile_machine.specs.State.{State, if_live, worker_of, with_cell, with_worker}
use Rattle.tile_machine.specs.Good.{hand_of, holder_of}
use Rattle.tile_machine.proofs.Lists.{get-set_same, get-set_other}

-- a live worker stands in the list, and its range isn't empty
pub live_worker : (o : Option Worker) (w : Worker) → if_live o ≡ Some w → (o ≡ Some w) × (w.first < w.end)
live_worker None w h = absurd (none-some w h)
live_worker (Some v) w h =
    let parts = cond_some (ltb v.first v.end) v w h in
    (ap Some parts.1, subst (λ u. u.first < u.end) parts.1 (ltb-true v.first v.end parts.0))

-- a worker with a range lives
pub lives : (w : Worker) → w.first < w.end → if_live (Some w) ≡ Some w
lives w h = ap (λ b. cond b (Some w) None) (lt-ltb w.first w.end h)

-- a worker with no range doesn't
pub ended : (w : Worker) → w.end ≤ w.first → if_live (Some w) ≡ None
ended w h = ap (λ b. cond b (Some w) None) (le-ltb w.first w.end h)

-- the live worker of this number is inside the list
pub worker_inside : (s : State) (n : ℕ) (w : Worker) → worker_of s n ≡ Some w → n < length s.workers
worker_inside s n w h = slice_get_within s.workers n w (live_worker (slice_get s.workers n) w h).0

pub worker_of-same : (s : State) (n : ℕ) (w : Worker) → n < length s.workers → worker_of (with_worker s n w) n ≡ if_live (Some w)
worker_of-same s n w h = ap if_live (get-set_same s.workers n w h)

pub worker_of-other : (s : State) (n m : ℕ) (w : Worker) → m ≢ n → worker_of (with_worker s n w) m ≡ worker_of s m
worker_of-other s n m w h = ap if_live (get-set_other s.workers n m w h)

-- what a worker or nobody holds
abbrev pub hand_in : Option Worker → Option ℕ
hand_in o = option_and_then (λ w. w.hand) o

-- whom a tile or none names
abbrev pub holder_in : Option Cell → Option ℕ
holder_in o = option_and_then (λ c. c.lock) o

pub hand_of-same : (s : State) (n : ℕ) (w : Worker) → n < length s.workers → w.first < w.end → hand_of (with_worker s n w) n ≡ w.hand
hand_of-same s n w inside range = ap hand_in (worker_of-same s n w inside ∙ lives w range)

pub hand_of-ended : (s : State) (n : ℕ) (w : Worker) → n < length s.workers → w.end ≤ w.first → hand_of (with_worker s n w) n ≡ None
hand_of-ended s n w inside range = ap hand_in (worker_of-same s n w inside ∙ ended w range)

pub hand_of-other : (s : State) (n m : ℕ) (w : Worker) → m ≢ n → hand_of (with_worker s n w) m ≡ hand_of s m
hand_of-other s n m w h = ap hand_in (worker_of-other s n m w h)

pub holder_of-same : (s : State) (tile : ℕ) (c : Cell) → tile < length s.cells → holder_of (with_cell s tile c) tile ≡ c.lock
holder_of-same s tile c h = ap holder_in (get-set_same s.cells tile c h)

pub holder_of-other : (s : State) (tile m : ℕ) (c : Cell) → m ≢ tile → holder_of (with_cell s tile c) m ≡ holder_of s m
holder_of-other s tile m c h = ap holder_in (get-set_other s.cells tile m c h)
