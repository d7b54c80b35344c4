-- The exits of functions by `?`: the fault of a part is the fault of the whole.
use Rattle.std.proofs.Common.{◌≡◌, Result, Err}
use Rattle.std.specs.Prelude.{IsErrAnd}
use Rattle.std.proofs.lemmas.Result.{err_from_is_err_and}
use Rattle.wire_read.specs.declared.fault.WireFault.{WireFault}
use Rattle.osm_messages.specs.declared.fault.MessageFault.{MessageFault}
use Rattle.osm_messages.specs.declared.fault.MessageFault.TheVariants as faults
use Rattle.osm_messages.specs.Answers.{AnswersFault, Answers, Becomes}

-- a fault of the part is one of the whole
abbrev pub Passes : {B C : Type 0} → Result C MessageFault → Result B MessageFault → Type 0
Passes part whole = (d : MessageFault) → part ≡ Err d → whole ≡ Err d

pub fault_passes : {B C : Type 0} (f : MessageFault) (part : Result C MessageFault) (whole : Result B MessageFault) → Passes part whole → AnswersFault f part → AnswersFault f whole
fault_passes (faults.Wire fault) part whole passes e = passes (faults.Wire fault) e
fault_passes (faults.Repeated at number) part whole passes e = passes (faults.Repeated at number) e
fault_passes faults.OutOfMemory part whole passes e = tt

pub Becomes-exit : {A B C : Type 0} (r : Result A MessageFault) (f : MessageFault) (new : B) (part : Result C MessageFault) (whole : Result B MessageFault) → IsErrAnd r (λ y. y ≡ f) → AnswersFault f part → Passes part whole → Becomes r new whole
Becomes-exit r f new part whole is e passes =
    let p = err_from_is_err_and r is in
    rw (p.1, p.2) (fault_passes f part whole passes e)

pub Answers-exit : {A B C : Type 0} (view : A → B) (r : Result A MessageFault) (f : MessageFault) (part : Result C MessageFault) (whole : Result B MessageFault) → IsErrAnd r (λ y. y ≡ f) → AnswersFault f part → Passes part whole → Answers view r whole
Answers-exit view r f part whole is e passes =
    let p = err_from_is_err_and r is in
    rw (p.1, p.2) (fault_passes f part whole passes e)

-- the same, where the part's fault is of the wire
pub Becomes-wire : {A B : Type 0} (r : Result A MessageFault) (f : WireFault) (new : B) (whole : Result B MessageFault) → IsErrAnd r (λ y. y ≡ faults.Wire f) → whole ≡ Err (faults.Wire f) → Becomes r new whole
Becomes-wire r f new whole is e =
    let p = err_from_is_err_and r is in
    rw (p.1, p.2) e

pub Answers-wire : {A B : Type 0} (view : A → B) (r : Result A MessageFault) (f : WireFault) (whole : Result B MessageFault) → IsErrAnd r (λ y. y ≡ faults.Wire f) → whole ≡ Err (faults.Wire f) → Answers view r whole
Answers-wire view r f whole is e =
    let p = err_from_is_err_and r is in
    rw (p.1, p.2) e
