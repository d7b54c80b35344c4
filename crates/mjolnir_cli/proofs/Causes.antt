-- The cause of a fault, by whether it is one of reading and whether it is one of the bytes.
use Rattle.std.proofs.Common.{◌≡◌, ℕ, Bool, true, false, Option, Some, refl, sym, subst, ◌∙◌}
use Rattle.pbf_blobs.specs.declared.fault.PbfFault.{PbfFault}
use Rattle.pbf_blobs.specs.declared.fault.PbfFault.TheVariants as pbf
use Rattle.pbf_blobs.specs.Answers.{Where, CountedFault, is_read as pbf_is_read, is_of_bytes as pbf_is_of_bytes}
use Rattle.osm_blocks.specs.declared.fault.ExtractFault.{ExtractFault}
use Rattle.osm_blocks.specs.declared.fault.ExtractFault.TheVariants as faults
use Rattle.osm_blocks.specs.Faults.{framed_as, is_read, is_of_bytes}
use Rattle.mjolnir_cli.specs.declared.failure.Failure.{Failure}
use Rattle.mjolnir_cli.specs.declared.failure.Failure.TheVariants.{Extract}
use Rattle.mjolnir_cli.specs.Failures.{Cause, OfReading, OfBytes, OfMemory, cause_of, of_extract, of_pbf}
use Rattle.mjolnir_cli.specs.Listing.{IfOfInput, IsMet, ReadCount, IfOfReading}

abbrev cause_by : Bool → Bool → Cause
cause_by true bytes = OfReading
cause_by false true = OfBytes
cause_by false false = OfMemory

cause_is : (fault : ExtractFault) → cause_of (of_extract fault) ≡ cause_by (is_read fault) (is_of_bytes fault)
cause_is faults.Read = refl
cause_is (faults.Truncated at) = refl
cause_is (faults.HeaderTooLong at len) = refl
cause_is (faults.BlobTooLong at len) = refl
cause_is (faults.Compressed at field) = refl
cause_is (faults.Wire fault) = refl
cause_is (faults.NoPayload at) = refl
cause_is (faults.TooLarge bytes) = refl
cause_is faults.OutOfMemory = refl
cause_is (faults.MissingField at number) = refl
cause_is (faults.BadType at) = refl
cause_is (faults.NoHeader at) = refl
cause_is (faults.Feature at text) = refl
cause_is (faults.BadString at index) = refl
cause_is (faults.Uneven at) = refl
cause_is (faults.DuplicateId kind id) = refl
cause_is (faults.BadCoordinate id) = refl
cause_is (faults.TooMany what count) = refl
cause_is (faults.Repeated at number) = refl
cause_is (faults.BadNumber at) = refl

-- a fault of the bytes stays what it is
pub stays : (fault : ExtractFault) → Where (is_of_bytes fault) (of_extract fault ≡ Extract fault)
stays faults.Read = tt
stays (faults.Truncated at) = refl
stays (faults.HeaderTooLong at len) = refl
stays (faults.BlobTooLong at len) = refl
stays (faults.Compressed at field) = refl
stays (faults.Wire fault) = refl
stays (faults.NoPayload at) = refl
stays (faults.TooLarge bytes) = refl
stays faults.OutOfMemory = tt
stays (faults.MissingField at number) = refl
stays (faults.BadType at) = refl
stays (faults.NoHeader at) = refl
stays (faults.Feature at text) = refl
stays (faults.BadString at index) = refl
stays (faults.Uneven at) = refl
stays (faults.DuplicateId kind id) = refl
stays (faults.BadCoordinate id) = refl
stays (faults.TooMany what count) = refl
stays (faults.Repeated at number) = refl
stays (faults.BadNumber at) = refl

framed_reads : (fault : PbfFault) → is_read (framed_as fault) ≡ pbf_is_read fault
framed_reads pbf.Read = refl
framed_reads (pbf.Truncated at) = refl
framed_reads (pbf.HeaderTooLong at len) = refl
framed_reads (pbf.BlobTooLong at len) = refl
framed_reads (pbf.Compressed at field) = refl
framed_reads (pbf.Wire fault) = refl
framed_reads (pbf.NoPayload at) = refl
framed_reads (pbf.TooLarge bytes) = refl
framed_reads pbf.OutOfMemory = refl
framed_reads (pbf.MissingField at number) = refl
framed_reads (pbf.BadType at) = refl

pub framed_bytes : (fault : PbfFault) → is_of_bytes (framed_as fault) ≡ pbf_is_of_bytes fault
framed_bytes pbf.Read = refl
framed_bytes (pbf.Truncated at) = refl
framed_bytes (pbf.HeaderTooLong at len) = refl
framed_bytes (pbf.BlobTooLong at len) = refl
framed_bytes (pbf.Compressed at field) = refl
framed_bytes (pbf.Wire fault) = refl
framed_bytes (pbf.NoPayload at) = refl
framed_bytes (pbf.TooLarge bytes) = refl
framed_bytes pbf.OutOfMemory = refl
framed_bytes (pbf.MissingField at number) = refl
framed_bytes (pbf.BadType at) = refl

-- ---- by the two tests

met_by : (reads bytes : Bool) → IsMet (cause_by reads bytes)
met_by true bytes = tt
met_by false true = tt
met_by false false = tt

counted_by : (before now : ℕ) (reads bytes : Bool) → CountedFault reads before now → ReadCount before now (cause_by reads bytes)
counted_by before now true bytes counted = counted
counted_by before now false true counted = counted
counted_by before now false false counted = counted

if_read_by : (F : Type 0) (reads bytes : Bool) → Where reads F → IfOfReading (cause_by reads bytes) F
if_read_by F true bytes given = given
if_read_by F false true given = tt
if_read_by F false false given = tt

if_input_by : (F : Type 0) (reads bytes : Bool) → Where bytes F → IfOfInput (cause_by reads bytes) F
if_input_by F true bytes given = tt
if_input_by F false true given = given
if_input_by F false false given = tt

where_both : (F G H : Type 0) (bytes : Bool) → (F → G → H) → Where bytes F → Where bytes G → Where bytes H
where_both F G H true f given also = f given also
where_both F G H false f given also = tt

-- ---- a fault of an extract

pub met : (fault : ExtractFault) → IsMet (cause_of (of_extract fault))
met fault = subst IsMet (sym (cause_is fault)) (met_by (is_read fault) (is_of_bytes fault))

pub counted : (before now : ℕ) (fault : ExtractFault) → CountedFault (is_read fault) before now → ReadCount before now (cause_of (of_extract fault))
counted before now fault given = subst (ReadCount before now) (sym (cause_is fault)) (counted_by before now (is_read fault) (is_of_bytes fault) given)

pub if_read : (F : Type 0) (fault : ExtractFault) → Where (is_read fault) F → IfOfReading (cause_of (of_extract fault)) F
if_read F fault given = subst (λ cause. IfOfReading cause F) (sym (cause_is fault)) (if_read_by F (is_read fault) (is_of_bytes fault) given)

-- what holds of the failure with this fault of the bytes holds of what the fault becomes
pub if_input : (P : Failure → Type 0) (fault : ExtractFault) → Where (is_of_bytes fault) (P (Extract fault)) → IfOfInput (cause_of (of_extract fault)) (P (of_extract fault))
if_input P fault given =
    subst (λ cause. IfOfInput cause (P (of_extract fault))) (sym (cause_is fault))
    (if_input_by (P (of_extract fault)) (is_read fault) (is_of_bytes fault) (where_both (P (Extract fault)) (of_extract fault ≡ Extract fault) (P (of_extract fault)) (is_of_bytes fault) (λ p is. subst P (sym is) p) given (stays fault)))

-- ---- a fault of the framing

pub met_frame : (fault : PbfFault) → IsMet (cause_of (of_pbf fault))
met_frame fault = met (framed_as fault)

pub counted_frame : (before now : ℕ) (fault : PbfFault) → CountedFault (pbf_is_read fault) before now → ReadCount before now (cause_of (of_pbf fault))
counted_frame before now fault given = counted before now (framed_as fault) (subst (λ b. CountedFault b before now) (sym (framed_reads fault)) given)

pub if_read_frame : (F : Type 0) (fault : PbfFault) → Where (pbf_is_read fault) F → IfOfReading (cause_of (of_pbf fault)) F
if_read_frame F fault given = if_read F (framed_as fault) (subst (λ b. Where b F) (sym (framed_reads fault)) given)

pub if_input_frame : (P : Failure → Type 0) (fault : PbfFault) → Where (pbf_is_of_bytes fault) (P (Extract (framed_as fault))) → IfOfInput (cause_of (of_pbf fault)) (P (of_pbf fault))
if_input_frame P fault given = if_input P (framed_as fault) (subst (λ b. Where b (P (Extract (framed_as fault)))) (sym (framed_bytes fault)) given)

pub where_map : (F G : Type 0) (b : Bool) → (F → G) → Where b F → Where b G
where_map F G true f given = f given
where_map F G false f given = tt

-- where an input was closed before a call that keeps it so, it was closed at the start
pub closed_before : (b : Bool) (old mid : Option Bool) → mid ≡ old → Where b (mid ≡ Some false) → Where b (old ≡ Some false)
closed_before true old mid same given = sym same ∙ given
closed_before false old mid same given = tt
