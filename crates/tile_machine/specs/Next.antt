-- The table of events: what each does to a state, or the first cause for which it is refused.
use Rattle.std.specs.Prelude.{ℕ, ◌+◌, Option, Some, None, Bool, true, false, not, ◌&&◌, Result, Ok, Err, is_ok, List, [], ◌∷◌, ◌==◌, nat_lt, if◌then◌else◌}
use Rattle.tile_machine.specs.declared.event.Event.{Event}
use Rattle.tile_machine.specs.declared.event.Event.TheVariants.{Claim, Take, BringOut, Mark, PutBack, Free, Split, Join}
use Rattle.tile_machine.specs.declared.refused.Refused.{Refused}
use Rattle.tile_machine.specs.declared.refused.Refused.TheVariants.{NoWorker, NoTile, Claimed, HandsFull, Held, NotHolder, IsOut, IsHome, NotClaimant, Marked, BadRange, StillHolds}
use Rattle.tile_machine.specs.declared.state.Worker.{Worker}
use Rattle.tile_machine.specs.State.{State, worker_of, cell_of, with_cell, with_worker, ranging}

-- the state that an event leads to, or the cause for which it is refused
abbrev pub Answer : Type 0
Answer = Result State Refused

-- goes on with what there is. Where there is none, the event is refused
abbrev pub if_there : {A : Type 0} → Option A → Refused → (A → Answer) → Answer
if_there None refusal rest = Err refusal
if_there (Some x) refusal rest = rest x

-- goes on where nobody is named. Else the event is refused, with the one that is named
abbrev pub unless : Option ℕ → (ℕ → Refused) → Answer → Answer
unless None refusal rest = rest
unless (Some x) refusal rest = Err (refusal x)

-- goes on where the test holds. Else the event is refused
abbrev pub provided : Bool → Refused → Answer → Answer
provided true refusal rest = rest
provided false refusal rest = Err refusal

-- the claim or the lock names this worker
abbrev pub names_worker : Option ℕ → ℕ → Bool
names_worker None n = false
names_worker (Some m) n = m == n

-- the live worker whose range begins where this one ends, if it has this number
abbrev pub if_next : Worker → Option Worker → Option Worker
if_next me None = None
if_next me (Some its) = if its.first == me.end then Some its else None

-- the table of events: its causes of refusal in their order, and then the effect
abbrev pub next_state : State → Event → Answer
-- the claim names the worker
next_state s (Claim worker tile) =
    if_there (worker_of s worker) NoWorker (λ me.
    if_there (cell_of s tile) NoTile (λ it.
    unless it.claim Claimed (
    Ok (with_cell s tile (record it { claim = Some worker })))))
-- the lock names the worker, and the worker holds it
next_state s (Take worker tile) =
    if_there (worker_of s worker) NoWorker (λ me.
    if_there (cell_of s tile) NoTile (λ it.
    unless me.hand HandsFull (
    unless it.lock Held (
    Ok (with_worker (with_cell s tile (record it { lock = Some worker })) worker (record me { hand = Some tile }))))))
-- the value is out
next_state s (BringOut worker tile) =
    if_there (worker_of s worker) NoWorker (λ me.
    if_there (cell_of s tile) NoTile (λ it.
    provided (names_worker it.lock worker) NotHolder (
    provided it.home IsOut (
    Ok (with_cell s tile (record it { home = false }))))))
-- the tile is marked
next_state s (Mark worker tile) =
    if_there (worker_of s worker) NoWorker (λ me.
    if_there (cell_of s tile) NoTile (λ it.
    provided (names_worker it.lock worker) NotHolder (
    provided (not it.home) IsHome (
    provided (names_worker it.claim worker) NotClaimant (
    provided (not it.marked) Marked (
    Ok (with_cell s tile (record it { marked = true }))))))))
-- the value is at home
next_state s (PutBack worker tile) =
    if_there (worker_of s worker) NoWorker (λ me.
    if_there (cell_of s tile) NoTile (λ it.
    provided (names_worker it.lock worker) NotHolder (
    provided (not it.home) IsHome (
    Ok (with_cell s tile (record it { home = true }))))))
-- the lock is free, and the worker holds none
next_state s (Free worker tile) =
    if_there (worker_of s worker) NoWorker (λ me.
    if_there (cell_of s tile) NoTile (λ it.
    provided (names_worker it.lock worker) NotHolder (
    provided it.home IsOut (
    Ok (with_worker (with_cell s tile (record it { lock = None })) worker (record me { hand = None }))))))
-- the worker keeps the lower part of its range. The upper part is a new worker
next_state s (Split worker at) =
    if_there (worker_of s worker) NoWorker (λ me.
    provided (nat_lt me.first at && nat_lt at me.end) BadRange (
    Ok (with_worker (with_worker s worker (record me { end = at })) at (ranging at me.end))))
-- the worker's range grows by the other's, and the other ends
next_state s (Join worker other) =
    if_there (worker_of s worker) NoWorker (λ me.
    if_there (if_next me (worker_of s other)) BadRange (λ its.
    unless its.hand StillHolds (
    Ok (with_worker (with_worker s worker (record me { end = its.end })) other (ranging its.first its.first)))))

-- the state after an event: a refused one changes nothing
abbrev pub after : State → Answer → State
after s (Ok new) = new
after s (Err refusal) = s

-- the state after these events, one after another
abbrev pub leads : State → List Event → State
leads s [] = s
leads s (e ∷ es) = leads (after s (next_state s e)) es

-- how many of these events are accepted
abbrev pub accepted : State → List Event → ℕ
accepted s [] = 0
accepted s (e ∷ es) = (if is_ok (next_state s e) then 1 else 0) + accepted (after s (next_state s e)) es
