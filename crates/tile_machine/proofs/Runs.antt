-- a list of events, one more at its end
use Rattle.std.proofs.Common.{◌≡◌, ℕ, ◌+◌, ◌<◌, ◌≤◌, Bool, true, false, cond, Result, Ok, Err, is_ok, OnOk, IfErr, OnErr, take, get_or, List, [], ◌∷◌, ◌++◌, length, refl, sym, ap, ◌∙◌, arith}
use Rattle.tile_machine.specs.declared.event.Event.{Event}
use Rattle.std.proofs.lemmas.List.{take_more}
use Rattle.tile_machine.specs.declared.refused.Refused.{Refused}
use Rattle.tile_machine.specs.State.{State}
use Rattle.tile_machine.specs.Next.{next_state, after, leads, accepted}

-- the state after one more event
pub leads-push : (s : State) (es : List Event) (e : Event) → leads s (es ++ e ∷ []) ≡ after (leads s es) (next_state (leads s es) e)
leads-push s [] e = refl
leads-push s (x ∷ es) e = leads-push (after s (next_state s x)) es e

-- how many are accepted, with one more event
pub accepted-push : (s : State) (es : List Event) (e : Event) → accepted s (es ++ e ∷ []) ≡ accepted s es + cond (is_ok (next_state (leads s es) e)) 1 0
accepted-push s [] e = omega arith
accepted-push s (x ∷ es) e = omega (arith, accepted-push (after s (next_state s x)) es e)

-- an answer counts once at most
pub at_most_one : (b : Bool) → cond b 1 0 ≤ 1
at_most_one true = omega arith
at_most_one false = omega arith

-- what an answer says of the new state, and that it is the table's
pub answered : {A : Type 0} (result : Result A Refused) (old new : State) (e : Event) → OnOk result (next_state old e ≡ Ok new)
    → IfErr result (λ cause. next_state old e ≡ Err cause) → OnErr result (new ≡ old)
    → (new ≡ after old (next_state old e)) × (is_ok result ≡ is_ok (next_state old e))
answered (Ok _) old new e taken refused same = (sym (ap (after old) taken), sym (ap (λ a. is_ok a) taken))
answered (Err cause) old new e taken refused same = (same ∙ sym (ap (after old) refused), sym (ap (λ a. is_ok a) refused))

-- one event more of a list of events
pub run_more : {A : Type 0} (result : Result A Refused) (s old new : State) (es : List Event) (i count : ℕ) (d : Event) → i < length es
    → old ≡ leads s (take i es) → count ≡ accepted s (take i es)
    → OnOk result (next_state old (get_or es i d) ≡ Ok new) → IfErr result (λ cause. next_state old (get_or es i d) ≡ Err cause) → OnErr result (new ≡ old)
    → (new ≡ leads s (take (i + 1) es)) × (count + cond (is_ok result) 1 0 ≡ accepted s (take (i + 1) es))
run_more result s old new es i count d inside was counted taken refused same =
    let e : Event = get_or es i d in
    let a = answered result old new e taken refused same in
    let more : take (i + 1) es ≡ take i es ++ e ∷ [] = take_more es i d inside in (
      a.0 ∙ ap (λ m. after m (next_state m e)) was ∙ sym (leads-push s (take i es) e) ∙ sym (ap (leads s) more),
      let now : is_ok result ≡ is_ok (next_state (leads s (take i es)) e) = a.1 ∙ ap (λ m. is_ok (next_state m e)) was in
          ap (λ b. count + cond b 1 0) now ∙ ap (λ n. n + cond (is_ok (next_state (leads s (take i es)) e)) 1 0) counted
          ∙ sym (accepted-push s (take i es) e) ∙ sym (ap (accepted s) more),
    )
