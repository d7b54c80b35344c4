-- How relations are kept: their tags and members stand among those of all relations.
use Rattle.std.specs.Prelude.{◌≡◌, ◌≤◌, ℕ, Bool, false, List, length, map, slice_range, All}
use Rattle.osm_model.specs.declared.tags.Tag.{Tag}
use Rattle.osm_model.specs.declared.relations.Member.{Member}
use Rattle.osm_model.specs.declared.relations.OsmRelation.{OsmRelation}
use Rattle.osm_model.specs.declared.relations.RelationRow.{RelationRow}
use Rattle.osm_model.specs.Extract.{members_in, tags_of_relations}

-- the relation of a row
abbrev pub relation_of : List Tag → List Member → RelationRow → OsmRelation
relation_of tags members row = record {
  id = row.id;
  tags = slice_range tags row.tags_from row.tags_to;
  members = slice_range members row.members_from row.members_to;
}

-- the row lies within so many tags and members
pub record IsInside (tags members : ℕ) (row : RelationRow) : Type 0 where
  pub tags_rise : row.tags_from ≤ row.tags_to
  pub tags_inside : row.tags_to ≤ tags
  pub members_rise : row.members_from ≤ row.members_to
  pub members_inside : row.members_to ≤ members

abbrev pub AreInside : List Tag → List Member → List RelationRow → Type 0
AreInside tags members rows = All (IsInside (length tags) (length members)) rows

-- no more tags and members stand there than the relations have
pub record AreOwn (tags : List Tag) (members : List Member) (rows : List RelationRow) : Type 0 where
  pub own_tags : length tags ≡ tags_of_relations (map (relation_of tags members) rows)
  pub own_members : length members ≡ members_in (map (relation_of tags members) rows)

-- The rows lie within the tags and members, which are theirs where memory was never short.
pub record AreRelations (tags : List Tag) (members : List Member) (rows : List RelationRow) (short : Bool) : Type 0 where
  pub kept : AreInside tags members rows
  pub theirs : short ≡ false → AreOwn tags members rows
