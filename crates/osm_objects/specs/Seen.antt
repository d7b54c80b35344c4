-- The program's lists, string table and parts of objects, as the definitions see them.
use Rattle.std.specs.Prelude.{ℕ, ℤ, List, map}
use Rattle.osm_model.specs.declared.tags.Tag.{Tag}
use Rattle.osm_model.specs.declared.nodes.OsmNode.{OsmNode}
use Rattle.osm_model.specs.declared.ways.OsmWay.{OsmWay}
use Rattle.osm_model.specs.declared.relations.Member.{Member}
use Rattle.osm_model.specs.declared.relations.OsmRelation.{OsmRelation}
use Rattle.osm_objects.specs.declared.nodes.Spot.{Spot}
use Rattle.osm_objects.specs.declared.objects.ObjectLists.{ObjectLists}
use Rattle.osm_objects.specs.declared.entry.Entry.{Entry}
use Rattle.osm_objects.specs.declared.texts.Texts.{Texts}
use Rattle.osm_objects.specs.Objects.{Objects}

abbrev pub seen_objects : ObjectLists → Objects
seen_objects lists = record { nodes = lists.nodes; ways = lists.ways; relations = lists.relations }

-- the bytes of each text
abbrev pub table_of : Texts → List (List ℕ)
table_of texts = map (λ (entry : Entry). entry.bytes.now) texts.entries.items

-- ---- objects of their parts

abbrev pub node_with : Spot → List Tag → OsmNode
node_with spot tags = record { id = spot.id; lat = spot.lat; lon = spot.lon; tags = tags }

abbrev pub way_with : ℤ → List Tag → List ℤ → OsmWay
way_with id tags refs = record { id = id; tags = tags; refs = refs }

abbrev pub relation_with : ℤ → List Tag → List Member → OsmRelation
relation_with id tags members = record { id = id; tags = tags; members = members }
