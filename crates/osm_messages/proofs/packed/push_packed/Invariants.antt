use Rattle.std.proofs.Common.{◌≡◌, ◌+◌, ◌-◌, ◌≤◌, length}
use Rattle.osm_messages.specs.Lists.{with_values}
use Rattle.osm_messages.proofs.packed.push_packed.Given as goal

abbrev pub invariant-loop-rest : goal.invariant-loop-rest
invariant-loop-rest l = record {
  within : length l.rest ≤ length l.bytes;
  same : with_values l.fn.numbers.items l.at l.bytes ≡ with_values l.numbers.items (l.at + (length l.bytes - length l.rest)) l.rest;
}

abbrev pub decreases-loop-rest : goal.decreases-loop-rest
decreases-loop-rest l = length l.rest
