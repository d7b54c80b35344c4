-- The members of a restriction.
use Rattle.std.specs.Prelude.{ℕ, ℤ, Bool, true, false, ◌&&◌, List, [], ◌∷◌, Option, Some, None, codes, map, filter}
use Rattle.std.specs.Str.{bytes_eq}
use Rattle.osm_model.specs.declared.relations.Member.{Member}
use Rattle.osm_model.specs.declared.relations.MemberKind.{MemberKind}
use Rattle.osm_model.specs.declared.relations.MemberKind.TheVariants as kinds
use Rattle.osm_restrictions.specs.declared.rows.Via.{Via}
use Rattle.osm_restrictions.specs.declared.rows.Via.TheVariants as vias

abbrev pub is_kind : MemberKind → MemberKind → Bool
is_kind kinds.Node kinds.Node = true
is_kind kinds.Way kinds.Way = true
is_kind kinds.Relation kinds.Relation = true
is_kind _ _ = false

-- the ids of the members of a kind in a role, in order; members in other roles are passed over
abbrev pub ids_as : MemberKind → List ℕ → List Member → List ℤ
ids_as kind role members = map (λ member. member.id) (filter (λ member. is_kind member.kind kind && bytes_eq member.role role) members)

-- where a turn leads through: exactly one node, or one or more ways, and nothing else
abbrev pub via_by : List ℤ → List ℤ → List ℤ → Option Via
via_by (node ∷ []) [] [] = Some (vias.Node node)
via_by [] (way ∷ ways) [] = Some (vias.Ways (way ∷ ways))
via_by _ _ _ = None

abbrev pub via_of : List Member → Option Via
via_of members =
    via_by (ids_as kinds.Node (codes "via") members) (ids_as kinds.Way (codes "via") members) (ids_as kinds.Relation (codes "via") members)
