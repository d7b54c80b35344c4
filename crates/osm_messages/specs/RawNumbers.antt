-- The numbers of one object, by the names that osmformat.proto gives its fields. Each field is a list; where the format
-- has one number, the last of the list counts.
use Rattle.std.specs.Prelude.{ℕ, List}
use Rattle.osm_messages.specs.declared.fields.TheConstants.{NODE_ID, NODE_KEYS, NODE_VALS, NODE_LAT, NODE_LON, DENSE_ID, DENSE_LAT, DENSE_LON, DENSE_KEYS_VALS, WAY_ID, WAY_KEYS, WAY_VALS, WAY_REFS, RELATION_ID, RELATION_KEYS, RELATION_VALS, RELATION_ROLES_SID, RELATION_MEMIDS, RELATION_TYPES}
use Rattle.osm_messages.specs.declared.raw.RawNode.{RawNode}
use Rattle.osm_messages.specs.declared.raw.RawDenseNodes.{RawDenseNodes}
use Rattle.osm_messages.specs.declared.raw.RawWay.{RawWay}
use Rattle.osm_messages.specs.declared.raw.RawRelation.{RawRelation}
use Rattle.osm_messages.specs.Lists.{Lists, list_at}

-- ---- Node

pub record NodeNumbers : Type 0 where
  pub id : List ℕ
  pub keys : List ℕ
  pub vals : List ℕ
  pub lat : List ℕ
  pub lon : List ℕ

abbrev pub node_numbers : Lists → NodeNumbers
node_numbers lists = record {
  id = list_at NODE_ID lists;
  keys = list_at NODE_KEYS lists;
  vals = list_at NODE_VALS lists;
  lat = list_at NODE_LAT lists;
  lon = list_at NODE_LON lists;
}

abbrev pub seen_raw_node : RawNode → NodeNumbers
seen_raw_node node = record { id = node.id.now; keys = node.keys.now; vals = node.vals.now; lat = node.lat.now; lon = node.lon.now }

-- ---- DenseNodes

pub record DenseNumbers : Type 0 where
  pub id : List ℕ
  pub lat : List ℕ
  pub lon : List ℕ
  pub keys_vals : List ℕ

abbrev pub dense_numbers : Lists → DenseNumbers
dense_numbers lists = record {
  id = list_at DENSE_ID lists;
  lat = list_at DENSE_LAT lists;
  lon = list_at DENSE_LON lists;
  keys_vals = list_at DENSE_KEYS_VALS lists;
}

abbrev pub seen_raw_dense : RawDenseNodes → DenseNumbers
seen_raw_dense dense = record { id = dense.id.now; lat = dense.lat.now; lon = dense.lon.now; keys_vals = dense.keys_vals.now }

-- ---- Way

pub record WayNumbers : Type 0 where
  pub id : List ℕ
  pub keys : List ℕ
  pub vals : List ℕ
  pub refs : List ℕ

abbrev pub way_numbers : Lists → WayNumbers
way_numbers lists = record {
  id = list_at WAY_ID lists;
  keys = list_at WAY_KEYS lists;
  vals = list_at WAY_VALS lists;
  refs = list_at WAY_REFS lists;
}

abbrev pub seen_raw_way : RawWay → WayNumbers
seen_raw_way way = record { id = way.id.now; keys = way.keys.now; vals = way.vals.now; refs = way.refs.now }

-- ---- Relation

pub record RelationNumbers : Type 0 where
  pub id : List ℕ
  pub keys : List ℕ
  pub vals : List ℕ
  pub roles_sid : List ℕ
  pub memids : List ℕ
  pub types : List ℕ

abbrev pub relation_numbers : Lists → RelationNumbers
relation_numbers lists = record {
  id = list_at RELATION_ID lists;
  keys = list_at RELATION_KEYS lists;
  vals = list_at RELATION_VALS lists;
  roles_sid = list_at RELATION_ROLES_SID lists;
  memids = list_at RELATION_MEMIDS lists;
  types = list_at RELATION_TYPES lists;
}

abbrev pub seen_raw_relation : RawRelation → RelationNumbers
seen_raw_relation relation = record {
  id = relation.id.now;
  keys = relation.keys.now;
  vals = relation.vals.now;
  roles_sid = relation.roles_sid.now;
  memids = relation.memids.now;
  types = relation.types.now;
}
