-- No id so far is the next one too.
use Rattle.std.proofs.Common.{◌≡◌, ◌-◌, drop}
use Rattle.osm_blocks.specs.Extracts.{way_id}
use Rattle.osm_blocks.specs.Steps.{next_twice}
use Rattle.osm_blocks.proofs.order.way_twice.Given as goal

abbrev pub invariant-loop-i : goal.invariant-loop-i
invariant-loop-i l = next_twice way_id l.ways ≡ next_twice way_id (drop (l.i - 1) l.ways)
