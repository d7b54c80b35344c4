-- every event keeps what is true in every state
use Rattle.std.proofs.Common.{◌≡◌, ℕ, ◌<◌, arith, true, false, not, ◌&&◌, ltb, eqb, Option, Some, None, Result, Ok, Err, IfOk, IsSome, length, refl, sym, ap, subst}
use Rattle.std.proofs.lemmas.Bool.{true≢false, and_parts, ltb-true, eqb-true}
use Rattle.std.proofs.lemmas.Option.{slice_get_within, get_or_from_slice_get, none-some, cond_some}
use Rattle.tile_machine.specs.declared.state.Cell.{Cell}
use Rattle.tile_machine.specs.declared.state.Worker.{Worker}
use Rattle.tile_machine.specs.declared.event.Event.{Event}
use Rattle.tile_machine.specs.declared.refused.Refused.{Refused}
use Rattle.tile_machine.specs.declared.event.Event.TheVariants.{Claim, Take, BringOut, Mark, PutBack, Free, Split, Join}
use Rattle.tile_machine.specs.State.{State, cell_of, worker_of}
use Rattle.tile_machine.specs.Next.{Answer, next_state, names_worker, if_next, after}
use Rattle.tile_machine.specs.Inner.{Follows}
use Rattle.tile_machine.specs.Good.{IsGood}
use Rattle.tile_machine.proofs.Guards.{past_if_there, past_unless, past_provided}
use Rattle.tile_machine.proofs.Kept.{range_inside, good_cell, good_take, good_free, good_split, good_join}

-- whom a claim or a lock names
pub named : (o : Option ℕ) (n : ℕ) → names_worker o n ≡ true → o ≡ Some n
named None n h = absurd (cc h)
named (Some m) n h = ap Some (eqb-true m n h)

-- the next worker is the live one of that number, and its range begins where this one ends
next_one : (me : Worker) (o : Option Worker) (its : Worker) → if_next me o ≡ Some its → (o ≡ Some its) × (its.first ≡ me.end)
next_one me None its h = absurd (none-some its h)
next_one me (Some v) its h =
    let parts = cond_some (eqb v.first me.end) v its h in
    (ap Some parts.1, subst (λ u. u.first ≡ me.end) parts.1 (eqb-true v.first me.end parts.0))

-- a named one is somebody
somebody : (o : Option ℕ) (n : ℕ) → names_worker o n ≡ true → IsSome o
somebody None n h = absurd (cc h)
somebody (Some m) n h = refl

-- in a good state a tile whose value is out has its lock held
held_out : (w : ℕ) (s : State) (tile : ℕ) (it : Cell) → IsGood w s → cell_of s tile ≡ Some it → it.home ≡ false → IsSome it.lock
held_out w s tile it good at =
    subst (λ c. c.home ≡ false → IsSome c.lock) (get_or_from_slice_get s.cells tile it it at) (good.out_held tile it (slice_get_within s.cells tile it at))

-- in a good state a marked tile has a claim
claimed : (w : ℕ) (s : State) (tile : ℕ) (it : Cell) → IsGood w s → cell_of s tile ≡ Some it → it.marked ≡ true → IsSome it.claim
claimed w s tile it good at =
    subst (λ c. c.marked ≡ true → IsSome c.claim) (get_or_from_slice_get s.cells tile it it at) (good.marked_claimed tile it (slice_get_within s.cells tile it at))

pub good_next : (w : ℕ) (s : State) (e : Event) → IsGood w s → IfOk (next_state s e) (IsGood w)
good_next w s (Claim worker tile) good =
    past_if_there (IsGood w) (worker_of s worker) _ _ (λ me alive.
    past_if_there (IsGood w) (cell_of s tile) _ _ (λ it at.
    past_unless (IsGood w) it.claim _ _ (λ free.
    good_cell w s tile it (record it { claim = Some worker }) good at refl (held_out w s tile it good at) (λ _. refl))))
good_next w s (Take worker tile) good =
    past_if_there (IsGood w) (worker_of s worker) _ _ (λ me alive.
    past_if_there (IsGood w) (cell_of s tile) _ _ (λ it at.
    past_unless (IsGood w) me.hand _ _ (λ empty.
    past_unless (IsGood w) it.lock _ _ (λ free.
    good_take w s worker tile me it good alive at empty free))))
good_next w s (BringOut worker tile) good =
    past_if_there (IsGood w) (worker_of s worker) _ _ (λ me alive.
    past_if_there (IsGood w) (cell_of s tile) _ _ (λ it at.
    past_provided (IsGood w) (names_worker it.lock worker) _ _ (λ held.
    past_provided (IsGood w) it.home _ _ (λ home.
    good_cell w s tile it (record it { home = false }) good at refl (λ _. somebody it.lock worker held) (claimed w s tile it good at)))))
good_next w s (Mark worker tile) good =
    past_if_there (IsGood w) (worker_of s worker) _ _ (λ me alive.
    past_if_there (IsGood w) (cell_of s tile) _ _ (λ it at.
    past_provided (IsGood w) (names_worker it.lock worker) _ _ (λ held.
    past_provided (IsGood w) (not it.home) _ _ (λ out.
    past_provided (IsGood w) (names_worker it.claim worker) _ _ (λ mine.
    past_provided (IsGood w) (not it.marked) _ _ (λ unmarked.
    good_cell w s tile it (record it { marked = true }) good at refl (held_out w s tile it good at) (λ _. somebody it.claim worker mine)))))))
good_next w s (PutBack worker tile) good =
    past_if_there (IsGood w) (worker_of s worker) _ _ (λ me alive.
    past_if_there (IsGood w) (cell_of s tile) _ _ (λ it at.
    past_provided (IsGood w) (names_worker it.lock worker) _ _ (λ held.
    past_provided (IsGood w) (not it.home) _ _ (λ out.
    good_cell w s tile it (record it { home = true }) good at refl (λ away. absurd (true≢false away)) (claimed w s tile it good at)))))
good_next w s (Free worker tile) good =
    past_if_there (IsGood w) (worker_of s worker) _ _ (λ me alive.
    past_if_there (IsGood w) (cell_of s tile) _ _ (λ it at.
    past_provided (IsGood w) (names_worker it.lock worker) _ _ (λ held.
    past_provided (IsGood w) it.home _ _ (λ home.
    good_free w s worker tile me it good alive at (named it.lock worker held) home))))
good_next w s (Split worker at) good =
    past_if_there (IsGood w) (worker_of s worker) _ _ (λ me alive.
    past_provided (IsGood w) (ltb me.first at && ltb at me.end) _ _ (λ inside.
    let parts = and_parts (ltb me.first at) (ltb at me.end) inside in
    good_split w s worker at me good alive (ltb-true me.first at parts.0) (ltb-true at me.end parts.1)))
good_next w s (Join worker other) good =
    past_if_there (IsGood w) (worker_of s worker) _ _ (λ me alive.
    past_if_there (IsGood w) (if_next me (worker_of s other)) _ _ (λ its found.
    past_unless (IsGood w) its.hand _ _ (λ empty.
    let parts = next_one me (worker_of s other) its found in
    good_join w s worker other me its good alive parts.0 parts.1 empty)))

-- the state after an answer that keeps it
pub good_after : (w : ℕ) (s : State) (answer : Answer) → IsGood w s → IfOk answer (IsGood w) → IsGood w (after s answer)
good_after w s (Ok new) good kept = kept
good_after w s (Err cause) good kept = good

-- a place strictly inside a live worker's range is a number of the list
pub split_inside : (s : State) (worker at : ℕ) (me : Worker) → IsGood (length s.workers) s → worker_of s worker ≡ Some me
    → (ltb me.first at && ltb at me.end) ≡ true → at < length s.workers
split_inside s worker at me good alive inside =
    let parts = and_parts (ltb me.first at) (ltb at me.end) inside in
    let above : me.first < at = ltb-true me.first at parts.0 in
    range_inside (length s.workers) s worker at me good alive (omega arith) (ltb-true at me.end parts.1)

-- whatever the answer to an event, the new state is good
pub good_follows : {A : Type 0} (w : ℕ) (s : State) (e : Event) (result : Result A Refused) (new : State) → IsGood w s → Follows s e result new → IsGood w new
good_follows w s e (Ok _) new good h = subst (λ a. IfOk a (IsGood w)) h (good_next w s e good)
good_follows w s e (Err cause) new good h = subst (IsGood w) (sym h.1) good
