-- Objects whose refs, members and tags are counted by hand.
use Rattle.std.specs.Prelude.{[], ◌∷◌, pos}
use Rattle.osm_model.specs.declared.tags.Tag.{Tag}
use Rattle.osm_model.specs.declared.relations.Member.{Member}
use Rattle.osm_model.specs.declared.relations.MemberKind.TheVariants as kinds
use Rattle.osm_objects.specs.Objects.{Objects}

abbrev a_tag : Tag
a_tag = record { key = []; value = [] }

abbrev a_member : Member
a_member = record { role = []; kind = kinds.Way; id = pos 1 }

-- three nodes, one of them with a tag; a way with three refs and two tags, and one with nothing; a relation with five
-- members and four tags
abbrev pub three_two_one : Objects
three_two_one = record {
  nodes =
      record { id = pos 1; lat = pos 0; lon = pos 0; tags = a_tag ∷ [] }
      ∷ record { id = pos 2; lat = pos 0; lon = pos 0; tags = [] }
      ∷ record { id = pos 3; lat = pos 0; lon = pos 0; tags = [] }
      ∷ [];
  ways =
      record { id = pos 1; tags = a_tag ∷ a_tag ∷ []; refs = pos 1 ∷ pos 2 ∷ pos 3 ∷ [] }
      ∷ record { id = pos 2; tags = []; refs = [] }
      ∷ [];
  relations =
      record { id = pos 1; tags = a_tag ∷ a_tag ∷ a_tag ∷ a_tag ∷ []; members = a_member ∷ a_member ∷ a_member ∷ a_member ∷ a_member ∷ [] }
      ∷ [];
}
