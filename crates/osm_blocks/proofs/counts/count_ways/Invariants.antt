-- The refs and the tags of the ways so far are counted.
use Rattle.std.proofs.Common.{◌≡◌, take}
use Rattle.osm_model.specs.Extract.{refs_in, tags_of_ways}
use Rattle.osm_blocks.specs.Counts.{as_u64}
use Rattle.osm_blocks.proofs.counts.count_ways.Given as goal

abbrev pub invariant-loop-i : goal.invariant-loop-i
invariant-loop-i l = record {
  refs : l.refs ≡ as_u64 (refs_in (take l.i l.ways));
  tags : l.tags ≡ as_u64 (tags_of_ways (take l.i l.ways));
}
