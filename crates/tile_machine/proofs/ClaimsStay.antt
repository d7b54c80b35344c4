-- A claim, once there, stays, whatever the events are.
use Rattle.std.proofs.Common.{ℕ, Ok, Err, IfOk, List, [], ◌∷◌}
use Rattle.tile_machine.specs.declared.event.Event.{Event}
use Rattle.tile_machine.specs.State.{State}
use Rattle.tile_machine.specs.Next.{Answer, next_state, after}
use Rattle.tile_machine.specs.Good.{ClaimStays}
use Rattle.tile_machine.proofs.ClaimKept.{Still, stays_next}

stays_after : (s : State) (answer : Answer) (tile by : ℕ) → Still tile by s → IfOk answer (Still tile by) → Still tile by (after s answer)
stays_after s (Ok new) tile by h next = next
stays_after s (Err refusal) tile by h next = h

pub claim_stays : (s : State) (events : List Event) (tile by : ℕ) → ClaimStays s events tile by
claim_stays s [] tile by h = h
claim_stays s (e ∷ es) tile by h = claim_stays (after s (next_state s e)) es tile by (stays_after s (next_state s e) tile by h (stays_next s e tile by h))
