use Rattle.std.proofs.Common.{◌≡◌, ◌+◌, ◌-◌, ◌<◌, ◌≤◌, drop}
use Rattle.wire_read.specs.Fields.{packed_of}
use Rattle.osm_messages.proofs.PackedFaults.{fault_from}
use Rattle.osm_messages.proofs.packed.first_fault.Given as goal

abbrev pub invariant-loop-i : goal.invariant-loop-i
invariant-loop-i l = record {
  few : l.going < 10;
  within : l.going ≤ l.i;
  same : (packed_of l.at l.bytes).fault ≡ fault_from (l.at + l.i - l.going) l.going (drop l.i l.bytes);
}
