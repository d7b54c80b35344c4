use Rattle.std.proofs.Common.{refl}
use Rattle.std.specs.Fmt.{digits}
use Rattle.mjolnir_cli.proofs.worked.worked_failures.Goals as goal

pub returns-clause-compressed : goal.returns-clause-compressed
unfolding digits
returns-clause-compressed c = refl

pub returns-clause-wire : goal.returns-clause-wire
unfolding digits
returns-clause-wire c = refl

pub returns-clause-printable : goal.returns-clause-printable
unfolding digits
returns-clause-printable c = refl

pub returns-clause-duplicate : goal.returns-clause-duplicate
unfolding digits
returns-clause-duplicate c = refl

pub returns-clause-too_large : goal.returns-clause-too_large
unfolding digits
returns-clause-too_large c = refl

pub returns-clause-too_many_nodes : goal.returns-clause-too_many_nodes
unfolding digits
returns-clause-too_many_nodes c = refl

pub returns-clause-too_many_ways : goal.returns-clause-too_many_ways
unfolding digits
returns-clause-too_many_ways c = refl

pub returns-clause-too_many_relations : goal.returns-clause-too_many_relations
unfolding digits
returns-clause-too_many_relations c = refl

pub returns-clause-too_many_refs : goal.returns-clause-too_many_refs
unfolding digits
returns-clause-too_many_refs c = refl

pub returns-clause-too_many_members : goal.returns-clause-too_many_members
unfolding digits
returns-clause-too_many_members c = refl

pub returns-clause-too_many_tags : goal.returns-clause-too_many_tags
unfolding digits
returns-clause-too_many_tags c = refl

pub returns-clause-memory : goal.returns-clause-memory
unfolding digits
returns-clause-memory c = refl
