-- what holds of the state that an event leads to, guard by guard
use Rattle.std.proofs.Common.{◌≡◌, ℕ, Bool, true, false, Option, Some, None, refl}
use Rattle.std.specs.Prelude.{IfOk}
use Rattle.tile_machine.specs.declared.refused.Refused.{Refused}
use Rattle.tile_machine.specs.State.{State}
use Rattle.tile_machine.specs.Next.{Answer, if_there, unless, provided}

pub past_if_there : {A : Type 0} (P : State → Type 0) (o : Option A) (refusal : Refused) (rest : A → Answer)
    → ((x : A) → o ≡ Some x → IfOk (rest x) P) → IfOk (if_there o refusal rest) P
past_if_there P None refusal rest h = tt
past_if_there P (Some x) refusal rest h = h x refl

pub past_unless : (P : State → Type 0) (o : Option ℕ) (refusal : ℕ → Refused) (rest : Answer)
    → (o ≡ None → IfOk rest P) → IfOk (unless o refusal rest) P
past_unless P None refusal rest h = h refl
past_unless P (Some x) refusal rest h = tt

pub past_provided : (P : State → Type 0) (b : Bool) (refusal : Refused) (rest : Answer)
    → (b ≡ true → IfOk rest P) → IfOk (provided b refusal rest) P
past_provided P true refusal rest h = h refl
past_provided P false refusal rest h = tt
