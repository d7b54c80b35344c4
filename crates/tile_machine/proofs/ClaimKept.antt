-- A claim, once there, is there after each event that is taken.
use Rattle.std.proofs.Common.{◌≡◌, ℕ, Some, None, IfOk, true, false, sym, ap, ◌∙◌, subst, not, ◌&&◌, nat_lt}
use Rattle.std.specs.Prelude.{option_and_then, slice_get}
use Rattle.std.proofs.lemmas.Option.{slice_get_within, none-some}
use mathlib.Core.Logic.{dite}
use native.Mathlib.Decide.{ℕ_discrete}
use Rattle.tile_machine.specs.declared.state.Cell.{Cell}
use Rattle.tile_machine.specs.declared.event.Event.{Event}
use Rattle.tile_machine.specs.declared.event.Event.TheVariants.{Claim, Take, BringOut, Mark, PutBack, Free, Split, Join}
use Rattle.tile_machine.specs.State.{State, cell_of, worker_of, with_cell}
use Rattle.tile_machine.specs.Next.{next_state, names_worker, if_next}
use Rattle.tile_machine.specs.Good.{claimant_of}
use Rattle.tile_machine.proofs.Guards.{past_if_there, past_unless, past_provided}
use Rattle.tile_machine.proofs.Lists.{get-set_same, get-set_other}

-- the claim is there still
abbrev pub Still : ℕ → ℕ → State → Type 0
Still tile by s = claimant_of s tile ≡ Some by

-- a tile is written anew with the claim that it had, or one that had none
writes : (s : State) (tile by t : ℕ) (it new : Cell) → Still tile by s → cell_of s t ≡ Some it → (it.claim ≡ Some by → new.claim ≡ Some by)
    → Still tile by (with_cell s t new)
writes s tile by t it new claimed at kept =
    dite (ℕ_discrete tile t)
    (λ e.
    let here : slice_get (with_cell s t new).cells t ≡ Some new = get-set_same s.cells t new (slice_get_within s.cells t it at) in
    let was : it.claim ≡ Some by = sym (ap (λ o. option_and_then (λ c. c.claim) o) at) ∙ subst (λ n. claimant_of s n ≡ Some by) e claimed in
    subst (λ n. claimant_of (with_cell s t new) n ≡ Some by) (sym e) (ap (λ o. option_and_then (λ c. c.claim) o) here ∙ kept was))
    (λ ne. ap (λ o. option_and_then (λ c. c.claim) o) (get-set_other s.cells t tile new ne) ∙ claimed)

pub stays_next : (s : State) (e : Event) (tile by : ℕ) → Still tile by s → IfOk (next_state s e) (Still tile by)
stays_next s (Claim worker t) tile by h =
    past_if_there (Still tile by) (worker_of s worker) _ _ (λ me alive.
    past_if_there (Still tile by) (cell_of s t) _ _ (λ it at.
    past_unless (Still tile by) it.claim _ _ (λ free. writes s tile by t it (record it { claim = Some worker }) h at (λ was. absurd (none-some by (sym free ∙ was))))))
stays_next s (Take worker t) tile by h =
    past_if_there (Still tile by) (worker_of s worker) _ _ (λ me alive.
    past_if_there (Still tile by) (cell_of s t) _ _ (λ it at.
    past_unless (Still tile by) me.hand _ _ (λ empty.
    past_unless (Still tile by) it.lock _ _ (λ free. writes s tile by t it (record it { lock = Some worker }) h at (λ was. was)))))
stays_next s (BringOut worker t) tile by h =
    past_if_there (Still tile by) (worker_of s worker) _ _ (λ me alive.
    past_if_there (Still tile by) (cell_of s t) _ _ (λ it at.
    past_provided (Still tile by) (names_worker it.lock worker) _ _ (λ held.
    past_provided (Still tile by) it.home _ _ (λ home. writes s tile by t it (record it { home = false }) h at (λ was. was)))))
stays_next s (Mark worker t) tile by h =
    past_if_there (Still tile by) (worker_of s worker) _ _ (λ me alive.
    past_if_there (Still tile by) (cell_of s t) _ _ (λ it at.
    past_provided (Still tile by) (names_worker it.lock worker) _ _ (λ held.
    past_provided (Still tile by) (not it.home) _ _ (λ out.
    past_provided (Still tile by) (names_worker it.claim worker) _ _ (λ mine.
    past_provided (Still tile by) (not it.marked) _ _ (λ clear. writes s tile by t it (record it { marked = true }) h at (λ was. was)))))))
stays_next s (PutBack worker t) tile by h =
    past_if_there (Still tile by) (worker_of s worker) _ _ (λ me alive.
    past_if_there (Still tile by) (cell_of s t) _ _ (λ it at.
    past_provided (Still tile by) (names_worker it.lock worker) _ _ (λ held.
    past_provided (Still tile by) (not it.home) _ _ (λ out. writes s tile by t it (record it { home = true }) h at (λ was. was)))))
stays_next s (Free worker t) tile by h =
    past_if_there (Still tile by) (worker_of s worker) _ _ (λ me alive.
    past_if_there (Still tile by) (cell_of s t) _ _ (λ it at.
    past_provided (Still tile by) (names_worker it.lock worker) _ _ (λ held.
    past_provided (Still tile by) it.home _ _ (λ home. writes s tile by t it (record it { lock = None }) h at (λ was. was)))))
stays_next s (Split worker x) tile by h =
    past_if_there (Still tile by) (worker_of s worker) _ _ (λ me alive.
    past_provided (Still tile by) (nat_lt me.first x && nat_lt x me.end) _ _ (λ inside. h))
stays_next s (Join worker other) tile by h =
    past_if_there (Still tile by) (worker_of s worker) _ _ (λ me alive.
    past_if_there (Still tile by) (if_next me (worker_of s other)) _ _ (λ its next.
    past_unless (Still tile by) its.hand _ _ (λ empty. h)))
