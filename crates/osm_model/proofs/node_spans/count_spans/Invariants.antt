-- The spans so far are counted.
use Rattle.std.proofs.Common.{◌≡◌, ◌-◌, ◌^◌, min, take}
use Rattle.osm_model.specs.NodeRows.{tags_in_spans}
use Rattle.osm_model.proofs.node_spans.count_spans.Given as goal

abbrev pub invariant-loop-span : goal.invariant-loop-span
invariant-loop-span l = l.count ≡ min (2 ^ 64 - 1) (tags_in_spans (take l.span-index l.spans))
