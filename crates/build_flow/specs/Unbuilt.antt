-- Objects of an extract that aren't built yet: turn restrictions.
use Rattle.std.specs.Prelude.{ℤ, List, Option, find}
use Rattle.std.specs.Option.{option_map}
use Rattle.osm_model.specs.declared.relations.OsmRelation.{OsmRelation}
use Rattle.osm_model.specs.declared.extract.Extract.{Extract}
use Rattle.osm_restrictions.specs.Keys.{is_restriction}

-- the id of the first relation that is a turn restriction
abbrev pub first_restriction : List OsmRelation → Option ℤ
first_restriction relations = option_map (λ relation. relation.id) (find (λ relation. is_restriction relation.tags) relations)

-- the id of the first object of an extract that isn't built yet
abbrev pub unbuilt : Extract → Option ℤ
unbuilt x = first_restriction x.relations
