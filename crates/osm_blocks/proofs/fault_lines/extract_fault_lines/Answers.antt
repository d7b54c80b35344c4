use Rattle.std.proofs.Common.{refl}
use Rattle.std.specs.Fmt.{digits}
use Rattle.osm_blocks.proofs.fault_lines.extract_fault_lines.Goals as goal

pub returns-clause-read : goal.returns-clause-read
unfolding digits
returns-clause-read c = refl

pub returns-clause-truncated : goal.returns-clause-truncated
unfolding digits
returns-clause-truncated c = refl

pub returns-clause-header_too_long : goal.returns-clause-header_too_long
unfolding digits
returns-clause-header_too_long c = refl

pub returns-clause-blob_too_long : goal.returns-clause-blob_too_long
unfolding digits
returns-clause-blob_too_long c = refl

pub returns-clause-compressed : goal.returns-clause-compressed
unfolding digits
returns-clause-compressed c = refl

pub returns-clause-wire : goal.returns-clause-wire
unfolding digits
returns-clause-wire c = refl

pub returns-clause-no_payload : goal.returns-clause-no_payload
unfolding digits
returns-clause-no_payload c = refl

pub returns-clause-too_large : goal.returns-clause-too_large
unfolding digits
returns-clause-too_large c = refl

pub returns-clause-out_of_memory : goal.returns-clause-out_of_memory
unfolding digits
returns-clause-out_of_memory c = refl

pub returns-clause-missing_field : goal.returns-clause-missing_field
unfolding digits
returns-clause-missing_field c = refl

pub returns-clause-bad_type : goal.returns-clause-bad_type
unfolding digits
returns-clause-bad_type c = refl

pub returns-clause-no_header : goal.returns-clause-no_header
unfolding digits
returns-clause-no_header c = refl

pub returns-clause-feature : goal.returns-clause-feature
unfolding digits
returns-clause-feature c = refl

pub returns-clause-bad_string : goal.returns-clause-bad_string
unfolding digits
returns-clause-bad_string c = refl

pub returns-clause-uneven : goal.returns-clause-uneven
unfolding digits
returns-clause-uneven c = refl

pub returns-clause-duplicate_node : goal.returns-clause-duplicate_node
unfolding digits
returns-clause-duplicate_node c = refl

pub returns-clause-duplicate_way : goal.returns-clause-duplicate_way
unfolding digits
returns-clause-duplicate_way c = refl

pub returns-clause-duplicate_relation : goal.returns-clause-duplicate_relation
unfolding digits
returns-clause-duplicate_relation c = refl

pub returns-clause-bad_coordinate : goal.returns-clause-bad_coordinate
unfolding digits
returns-clause-bad_coordinate c = refl

pub returns-clause-too_many_nodes : goal.returns-clause-too_many_nodes
unfolding digits
returns-clause-too_many_nodes c = refl

pub returns-clause-too_many_ways : goal.returns-clause-too_many_ways
unfolding digits
returns-clause-too_many_ways c = refl

pub returns-clause-too_many_relations : goal.returns-clause-too_many_relations
unfolding digits
returns-clause-too_many_relations c = refl

pub returns-clause-too_many_refs : goal.returns-clause-too_many_refs
unfolding digits
returns-clause-too_many_refs c = refl

pub returns-clause-too_many_members : goal.returns-clause-too_many_members
unfolding digits
returns-clause-too_many_members c = refl

pub returns-clause-too_many_tags : goal.returns-clause-too_many_tags
unfolding digits
returns-clause-too_many_tags c = refl

pub returns-clause-repeated : goal.returns-clause-repeated
unfolding digits
returns-clause-repeated c = refl

pub returns-clause-bad_number : goal.returns-clause-bad_number
unfolding digits
returns-clause-bad_number c = refl
