-- Nodes, one by one (osmformat.proto, Node) and many together (DenseNodes).
use Rattle.std.specs.Prelude.{ℕ, ℤ, List, [], ◌∷◌, length, Result, Ok}
use Rattle.wire_read.specs.ZigZag.{unzigzag_of}
use Rattle.osm_messages.specs.declared.fields.TheConstants.{NODE_ID, NODE_LAT, NODE_LON}
use Rattle.osm_messages.specs.RawNumbers.{NodeNumbers, DenseNumbers}
use Rattle.osm_model.specs.declared.tags.Tag.{Tag}
use Rattle.osm_model.specs.declared.nodes.OsmNode.{OsmNode}
use Rattle.osm_objects.specs.declared.fault.ObjectFault.{ObjectFault}
use Rattle.osm_objects.specs.declared.scale.Scale.{Scale}
use Rattle.osm_objects.specs.Steps.{◌>>=◌, each}
use Rattle.osm_objects.specs.Parts.{one_number, as_many, pairs_of}
use Rattle.osm_objects.specs.Sums.{sums_of}
use Rattle.osm_objects.specs.Tags.{tags_of}
use Rattle.osm_objects.specs.Groups.{groups_of}
use Rattle.osm_objects.specs.Coordinates.{node_at}

-- a node, whose first byte stands at `at`
unfoldable pub decoded_node : List (List ℕ) → Scale → ℕ → NodeNumbers → Result OsmNode ObjectFault
decoded_node table scale at node = do
  id ← one_number at NODE_ID node.id
  lat ← one_number at NODE_LAT node.lat
  lon ← one_number at NODE_LON node.lon
  pairs ← pairs_of at node.keys node.vals
  tags ← tags_of table at pairs
  node_at scale (unzigzag_of id) (unzigzag_of lat) (unzigzag_of lon) tags

-- the nodes of these ids, places and tags, one after the other
abbrev pub nodes_at : Scale → List ℤ → List ℤ → List ℤ → List (List Tag) → Result (List OsmNode) ObjectFault
nodes_at scale (id ∷ ids) (lat ∷ lats) (lon ∷ lons) (tags ∷ tag_lists) = do
  node ← node_at scale id lat lon tags
  nodes ← nodes_at scale ids lats lons tag_lists
  Ok (node ∷ nodes)
nodes_at scale _ _ _ _ = Ok []

-- the nodes of these ids and places, with the tags of their groups; each text comes before each place
unfoldable pub grouped_nodes : List (List ℕ) → Scale → ℕ → List (List (ℕ × ℕ)) → List ℤ → List ℤ → List ℤ → Result (List OsmNode) ObjectFault
grouped_nodes table scale at groups ids lats lons = do
  tag_lists ← each (tags_of table at) groups
  nodes_at scale ids lats lons tag_lists

-- the nodes of a DenseNodes
unfoldable pub decoded_dense_nodes : List (List ℕ) → Scale → ℕ → DenseNumbers → Result (List OsmNode) ObjectFault
decoded_dense_nodes table scale at dense = do
  lats_even ← as_many at dense.id dense.lat
  lons_even ← as_many at dense.id dense.lon
  groups ← groups_of at (length dense.id) dense.keys_vals
  ids ← sums_of at dense.id
  lats ← sums_of at dense.lat
  lons ← sums_of at dense.lon
  grouped_nodes table scale at groups ids lats lons
