-- What a command that reads its input answers before anything is put or said.
use Rattle.std.specs.Prelude.{◌≡◌, ℕ, Result, Ok, Err}
use Rattle.host_port.specs.Faults.{Rose}
use Rattle.mjolnir_cli.specs.declared.failure.Failure.{Failure}
use Rattle.mjolnir_cli.specs.Failures.{Cause, OfWords, OfReading, OfPutting, OfBytes, OfLimits, cause_of}

-- where the input is refused, for its bytes or for a limit, the fact holds
abbrev pub IfOfInput : Cause → Type 0 → Type 0
IfOfInput OfBytes fact = fact
IfOfInput OfLimits fact = fact
IfOfInput other fact = Unit {0}

-- the cause isn't one of the words or of putting
abbrev pub IsMet : Cause → Type 0
IsMet OfWords = ⊥
IsMet OfPutting = ⊥
IsMet other = Unit {0}

-- where the cause is one of reading the count rose, and else it stayed
abbrev pub ReadCount : ℕ → ℕ → Cause → Type 0
ReadCount before now OfReading = Rose before now
ReadCount before now other = now ≡ before

-- the failure is one of reading exactly where the count of read faults rose
abbrev pub CountedRead : {A : Type 0} → ℕ → ℕ → Result A Failure → Type 0
CountedRead before now (Ok _) = now ≡ before
CountedRead before now (Err failure) = ReadCount before now (cause_of failure)

-- where the cause is one of reading, the fact holds
abbrev pub IfOfReading : Cause → Type 0 → Type 0
IfOfReading OfReading fact = fact
IfOfReading other fact = Unit {0}

-- where the failure is one of reading, the fact holds
abbrev pub IfRead : {A : Type 0} → Result A Failure → Type 0 → Type 0
IfRead (Ok _) fact = Unit {0}
IfRead (Err failure) fact = IfOfReading (cause_of failure) fact
