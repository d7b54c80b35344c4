use Rattle.std.proofs.Common.{length}
use Rattle.osm_objects.specs.Seen.{table_of}
use Rattle.osm_objects.proofs.KeysValues.{GroupSoFar}
use Rattle.osm_objects.proofs.groups.read_group.Given as goal

abbrev pub invariant-loop-key : goal.invariant-loop-key
invariant-loop-key l = GroupSoFar (table_of l.fn.texts) (table_of l.texts) l.at l.numbers l.tags.items l.rest

abbrev pub decreases-loop-key : goal.decreases-loop-key
decreases-loop-key l = length l.rest
