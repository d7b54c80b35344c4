-- Extracts whose roads a list of starts, ends and lengths tells whole: no tag closes a road or a node, or forbids a turn.
use Rattle.std.specs.Prelude.{◌≡◌, Bool, true, ◌&&◌, [], codes, All}
use Rattle.std.specs.Str.{bytes_eq}
use Rattle.osm_model.specs.declared.tags.Tag.{Tag}
use Rattle.osm_model.specs.declared.extract.Extract.{Extract}

-- highway=residential
abbrev pub is_residential_tag : Tag → Bool
is_residential_tag tag = bytes_eq tag.key (codes "highway") && bytes_eq tag.value (codes "residential")

-- no tag is kept but `highway=residential` on ways
pub record IsPlainExtract (x : Extract) : Type 0 where
  pub nodes : All (λ node. node.tags ≡ []) x.nodes
  pub ways : All (λ way. All (λ tag. is_residential_tag tag ≡ true) way.tags) x.ways
  pub relations : All (λ relation. relation.tags ≡ []) x.relations
