-- What `read_extract` answers, by the bytes of the file.
use Rattle.std.specs.Prelude.{◌≡◌, ◌⊎◌, ℕ, ◌-◌, List, Option, Some, None, Result, Ok, Err}
use Rattle.osm_model.specs.declared.extract.Extract.{Extract}
use Rattle.pbf_blobs.specs.declared.blob.Blob.{Blob}
use Rattle.pbf_blobs.specs.declared.fault.PbfFault.{PbfFault}
use Rattle.pbf_blobs.specs.Next.{Outcome, Ends, Gives, Fails}
use Rattle.pbf_blobs.specs.Answers.{Where, CountedFault}
use Rattle.osm_blocks.specs.declared.fault.ExtractFault.{ExtractFault}
use Rattle.osm_blocks.specs.Faults.{framed_as, is_read, is_of_bytes}
use Rattle.osm_blocks.specs.Extracts.{Draft, Reads, Refuses, with_blob, lists_of}

-- Each answer says what the bytes are. A fault of reading isn't one of the bytes, and neither is want of memory.
abbrev pub Answers : List ℕ → Result Extract ExtractFault → Type 0
Answers bytes (Ok extract) = Reads bytes (lists_of extract)
Answers bytes (Err fault) = Where (is_of_bytes fault) (Refuses bytes fault)

-- the answer is Read exactly where the count of read faults rose
abbrev pub CountedRead : {A : Type 0} → ℕ → ℕ → Result A ExtractFault → Type 0
CountedRead before now (Ok _) = now ≡ before
CountedRead before now (Err fault) = CountedFault (is_read fault) before now

-- where the answer is Read, the fact holds
abbrev pub IfRead : {A : Type 0} → Result A ExtractFault → Type 0 → Type 0
IfRead (Ok _) fact = Unit {0}
IfRead (Err fault) fact = Where (is_read fault) fact

-- ---- one blob

-- the fault is that of the frame that comes next, or that of the blob in it
abbrev pub FailsNext : Draft → ExtractFault → Outcome → Type 0
FailsNext draft fault outcome =
    ((framing : PbfFault) × (outcome ≡ Fails framing) × (fault ≡ framed_as framing))
    ⊎ ((blob : Blob) × (outcome ≡ Gives blob) × (with_blob draft blob ≡ Err fault))

-- The next blob is added to the draft, and the place behind it is answered; none at the end of the input.
abbrev pub AddsNext : Draft → Draft → Result (Option ℕ) ExtractFault → Outcome → Type 0
AddsNext old new (Ok None) outcome = (outcome ≡ Ends) × (new ≡ old)
AddsNext old new (Ok (Some end)) outcome = (blob : Blob) × (outcome ≡ Gives blob) × (end ≡ blob.end) × (with_blob old blob ≡ Ok new)
AddsNext old new (Err fault) outcome = Where (is_of_bytes fault) (FailsNext old fault outcome)

-- how far the place moves
abbrev pub bytes_to : ℕ → Option ℕ → ℕ
bytes_to at None = 0
bytes_to at (Some end) = end - at
