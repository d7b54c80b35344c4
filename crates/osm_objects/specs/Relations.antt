-- Relations (osmformat.proto, Relation).
use Rattle.std.specs.Prelude.{ℕ, ℤ, zero, suc, List, [], ◌∷◌, Result, Ok, Err}
use Rattle.std.specs.Int.{w64, cast_signed}
use Rattle.osm_messages.specs.declared.fields.TheConstants.{RELATION_ID}
use Rattle.osm_messages.specs.RawNumbers.{RelationNumbers}
use Rattle.osm_model.specs.declared.relations.Member.{Member}
use Rattle.osm_model.specs.declared.relations.MemberKind.{MemberKind}
use Rattle.osm_model.specs.declared.relations.MemberKind.TheVariants as kinds
use Rattle.osm_model.specs.declared.relations.OsmRelation.{OsmRelation}
use Rattle.osm_objects.specs.declared.fault.ObjectFault.{ObjectFault}
use Rattle.osm_objects.specs.declared.fault.ObjectFault.TheVariants as faults
use Rattle.osm_objects.specs.Steps.{◌>>=◌, each}
use Rattle.osm_objects.specs.Parts.{one_number, as_many, pairs_of}
use Rattle.osm_objects.specs.Sums.{sums_of}
use Rattle.osm_objects.specs.Tags.{text_at, tags_of}

-- the kind of a member's type
abbrev pub member_kind_of : ℕ → ℕ → Result MemberKind ObjectFault
member_kind_of at zero = Ok kinds.Node
member_kind_of at (suc zero) = Ok kinds.Way
member_kind_of at (suc (suc zero)) = Ok kinds.Relation
member_kind_of at (suc (suc (suc n))) = Err (faults.Uneven at)

-- the members of these roles, ids and kinds; a role is named by its index in the string table
abbrev pub members_of : List (List ℕ) → ℕ → List ℕ → List ℤ → List MemberKind → Result (List Member) ObjectFault
members_of table at (role ∷ roles) (id ∷ ids) (kind ∷ kinds) = do
  text ← text_at table at role
  members ← members_of table at roles ids kinds
  Ok (record { role = text; kind = kind; id = id } ∷ members)
members_of table at _ _ _ = Ok []

-- a relation; its id is in two's complement
unfoldable pub decoded_relation : List (List ℕ) → ℕ → RelationNumbers → Result OsmRelation ObjectFault
decoded_relation table at relation = do
  id ← one_number at RELATION_ID relation.id
  pairs ← pairs_of at relation.keys relation.vals
  ids_even ← as_many at relation.roles_sid relation.memids
  types_even ← as_many at relation.roles_sid relation.types
  kinds ← each (member_kind_of at) relation.types
  ids ← sums_of at relation.memids
  tags ← tags_of table at pairs
  members ← members_of table at relation.roles_sid ids kinds
  Ok (record { id = cast_signed w64 id; tags = tags; members = members })
