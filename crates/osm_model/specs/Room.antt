-- How much a list may have, so that each place in it is a number of 32 bits, and so is the number of each text: a tag
-- has two of them. An extract has far less within its limits, and so has an input of at most 536,870,912 bytes, which
-- spends a byte or more on each node, tag, ref and member.
use Rattle.std.specs.Prelude.{ℕ, ◌+◌, ◌^◌, ◌<◌, List, length}
use Rattle.osm_model.specs.declared.nodes.OsmNode.{OsmNode}
use Rattle.osm_model.specs.declared.ways.OsmWay.{OsmWay}
use Rattle.osm_model.specs.declared.relations.OsmRelation.{OsmRelation}
use Rattle.osm_model.specs.Extract.{refs_in, members_in, tags_of_nodes, tags_of_ways, tags_of_relations}

-- there is room for one more node with so many tags
pub record NodeFits (nodes : List OsmNode) (tags : ℕ) : Type 0 where
  pub its_place : length nodes + 1 < 2 ^ 31
  pub its_tags : tags_of_nodes nodes + tags < 2 ^ 31

-- there is room for one more way with so many tags and refs
pub record WayFits (ways : List OsmWay) (tags refs : ℕ) : Type 0 where
  pub its_tags : tags_of_ways ways + tags < 2 ^ 31
  pub its_refs : refs_in ways + refs < 2 ^ 31

-- there is room for one more relation with so many tags and members
pub record RelationFits (relations : List OsmRelation) (tags members : ℕ) : Type 0 where
  pub its_tags : tags_of_relations relations + tags < 2 ^ 31
  pub its_members : members_in relations + members < 2 ^ 31
