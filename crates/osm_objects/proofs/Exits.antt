-- The exits of functions: the fault of a part is the fault of the whole.
use Rattle.std.proofs.Common.{◌≡◌, Result, Ok, Err, IsOk}
use Rattle.std.specs.Prelude.{IsErrAnd}
use Rattle.std.proofs.lemmas.Result.{err_from_is_err_and}
use Rattle.osm_objects.specs.declared.fault.ObjectFault.{ObjectFault}
use Rattle.osm_objects.specs.declared.fault.ObjectFault.TheVariants as faults
use Rattle.osm_objects.specs.Answers.{AnswersFault, Answers, Becomes, Admits}

-- a fault of the part is one of the whole
abbrev pub Passes : {B C : Type 0} → Result C ObjectFault → Result B ObjectFault → Type 0
Passes part whole = (d : ObjectFault) → part ≡ Err d → whole ≡ Err d

pub fault_passes : {B C : Type 0} (f : ObjectFault) (part : Result C ObjectFault) (whole : Result B ObjectFault) → Passes part whole → AnswersFault f part → AnswersFault f whole
fault_passes (faults.MissingField at number) part whole passes e = passes (faults.MissingField at number) e
fault_passes (faults.Uneven at) part whole passes e = passes (faults.Uneven at) e
fault_passes (faults.BadNumber at) part whole passes e = passes (faults.BadNumber at) e
fault_passes (faults.BadString at index) part whole passes e = passes (faults.BadString at index) e
fault_passes (faults.BadCoordinate id) part whole passes e = passes (faults.BadCoordinate id) e
fault_passes faults.OutOfMemory part whole passes e = tt

pub Becomes-exit : {A B C : Type 0} (r : Result A ObjectFault) (f : ObjectFault) (new : B) (part : Result C ObjectFault) (whole : Result B ObjectFault) → IsErrAnd r (λ y. y ≡ f) → AnswersFault f part → Passes part whole → Becomes r new whole
Becomes-exit r f new part whole is e passes =
    let p = err_from_is_err_and r is in
    rw (p.1, p.2) (fault_passes f part whole passes e)

pub Answers-exit : {A B C : Type 0} (view : A → B) (r : Result A ObjectFault) (f : ObjectFault) (part : Result C ObjectFault) (whole : Result B ObjectFault) → IsErrAnd r (λ y. y ≡ f) → AnswersFault f part → Passes part whole → Answers view r whole
Answers-exit view r f part whole is e passes =
    let p = err_from_is_err_and r is in
    rw (p.1, p.2) (fault_passes f part whole passes e)

pub Admits-exit : {B C : Type 0} (r : Result (Unit {0}) ObjectFault) (f : ObjectFault) (part : Result C ObjectFault) (whole : Result B ObjectFault) → IsErrAnd r (λ y. y ≡ f) → AnswersFault f part → Passes part whole → Admits r whole
Admits-exit r f part whole is e passes =
    let p = err_from_is_err_and r is in
    rw (p.1, p.2) (fault_passes f part whole passes e)

-- the part admits, and then the whole gives the new value
pub Becomes-admitted : {B C : Type 0} (r : Result (Unit {0}) ObjectFault) (part : Result C ObjectFault) (new : B) (whole : Result B ObjectFault) → Admits r part → (IsOk part → whole ≡ Ok new) → Passes part whole → Becomes r new whole
Becomes-admitted (Ok nothing) part new whole admits good passes = good admits
Becomes-admitted (Err f) part new whole admits good passes = fault_passes f part whole passes admits
