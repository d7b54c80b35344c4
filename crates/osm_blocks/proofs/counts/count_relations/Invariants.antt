-- The members and the tags of the relations so far are counted.
use Rattle.std.proofs.Common.{◌≡◌, take}
use Rattle.osm_model.specs.Extract.{members_in, tags_of_relations}
use Rattle.osm_blocks.specs.Counts.{as_u64}
use Rattle.osm_blocks.proofs.counts.count_relations.Given as goal

abbrev pub invariant-loop-i : goal.invariant-loop-i
invariant-loop-i l = record {
  members : l.members ≡ as_u64 (members_in (take l.i l.relations));
  tags : l.tags ≡ as_u64 (tags_of_relations (take l.i l.relations));
}
