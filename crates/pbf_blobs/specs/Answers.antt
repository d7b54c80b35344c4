-- What `next_blob` answers, by what stands at the place.
use Rattle.std.specs.Prelude.{◌≡◌, ℕ, ◌-◌, Bool, true, false, Option, Some, None, Result, Ok, Err}
use Rattle.host_port.specs.Faults.{Rose}
use Rattle.pbf_blobs.specs.declared.blob.Blob.{Blob}
use Rattle.pbf_blobs.specs.declared.fault.PbfFault.{PbfFault}
use Rattle.pbf_blobs.specs.declared.fault.PbfFault.TheVariants as faults
use Rattle.pbf_blobs.specs.Next.{Outcome, Ends, Gives, Fails}

-- a fault of reading
abbrev pub is_read : PbfFault → Bool
is_read faults.Read = true
is_read _ = false

-- A fault of the bytes: not one of reading, and not want of memory.
abbrev pub is_of_bytes : PbfFault → Bool
is_of_bytes faults.Read = false
is_of_bytes faults.OutOfMemory = false
is_of_bytes _ = true

-- where this is so, the fact holds
abbrev pub Where : Bool → Type 0 → Type 0
Where true fact = fact
Where false fact = Unit {0}

-- a fault of the bytes is answered exactly where it stands there
abbrev pub AnswersFault : PbfFault → Outcome → Type 0
AnswersFault fault outcome = Where (is_of_bytes fault) (outcome ≡ Fails fault)

abbrev pub AnswersBlob : Result Blob PbfFault → Outcome → Type 0
AnswersBlob (Ok blob) outcome = outcome ≡ Gives blob
AnswersBlob (Err fault) outcome = AnswersFault fault outcome

abbrev pub Answers : Result (Option Blob) PbfFault → Outcome → Type 0
Answers (Ok None) outcome = outcome ≡ Ends
Answers (Ok (Some blob)) outcome = outcome ≡ Gives blob
Answers (Err fault) outcome = AnswersFault fault outcome

-- how far an answer moves the place: over the triple, or not at all at the end
abbrev pub bytes_over : ℕ → Option Blob → ℕ
bytes_over at None = 0
bytes_over at (Some blob) = blob.end - at

-- the answer is Read exactly where the count of read faults rose
abbrev pub CountedFault : Bool → ℕ → ℕ → Type 0
CountedFault true before now = Rose before now
CountedFault false before now = now ≡ before

abbrev pub CountedRead : {A : Type 0} → ℕ → ℕ → Result A PbfFault → Type 0
CountedRead before now (Ok _) = now ≡ before
CountedRead before now (Err fault) = CountedFault (is_read fault) before now

-- where the answer is Read, the fact holds
abbrev pub IfRead : {A : Type 0} → Result A PbfFault → Type 0 → Type 0
IfRead (Ok _) fact = Unit {0}
IfRead (Err fault) fact = Where (is_read fault) fact
