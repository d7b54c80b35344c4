use Rattle.std.proofs.Common.{refl}
use Rattle.std.specs.Fmt.{digits}
use Rattle.pbf_blobs.proofs.fault_lines.pbf_fault_lines.Goals as goal

pub returns-clause-read : goal.returns-clause-read
unfolding digits
returns-clause-read c = refl

pub returns-clause-truncated : goal.returns-clause-truncated
unfolding digits
returns-clause-truncated c = refl

pub returns-clause-header_too_long : goal.returns-clause-header_too_long
unfolding digits
returns-clause-header_too_long c = refl

pub returns-clause-blob_too_long : goal.returns-clause-blob_too_long
unfolding digits
returns-clause-blob_too_long c = refl

pub returns-clause-compressed : goal.returns-clause-compressed
unfolding digits
returns-clause-compressed c = refl

pub returns-clause-wire : goal.returns-clause-wire
unfolding digits
returns-clause-wire c = refl

pub returns-clause-no_payload : goal.returns-clause-no_payload
unfolding digits
returns-clause-no_payload c = refl

pub returns-clause-too_large : goal.returns-clause-too_large
unfolding digits
returns-clause-too_large c = refl

pub returns-clause-out_of_memory : goal.returns-clause-out_of_memory
unfolding digits
returns-clause-out_of_memory c = refl

pub returns-clause-missing_field : goal.returns-clause-missing_field
unfolding digits
returns-clause-missing_field c = refl

pub returns-clause-bad_type : goal.returns-clause-bad_type
unfolding digits
returns-clause-bad_type c = refl
