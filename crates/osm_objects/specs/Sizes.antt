-- How much the objects are. A block has at most so much as the bytes of its objects.
use Rattle.std.specs.Prelude.{ℕ, ◌+◌, length}
use Rattle.osm_model.specs.Extract.{refs_in, members_in, tags_in}
use Rattle.osm_objects.specs.Objects.{Objects}

-- how many nodes, refs, members and tags there are, all together
abbrev pub parts_in : Objects → ℕ
parts_in objects = length objects.nodes + refs_in objects.ways + members_in objects.relations + tags_in objects.nodes objects.ways objects.relations
