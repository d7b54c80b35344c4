use Rattle.std.proofs.Common.{◌≡◌, ◌-◌, ◌*◌, ◌^◌}
use Rattle.wire_read.specs.Varint.{varint_of, groups_within}
use Rattle.wire_read.proofs.Groups.{completed}
use Rattle.wire_read.proofs.varint.read_groups.Given as goal

-- what follows completes the value so far to what the bytes give
abbrev pub invariant-loop-group : goal.invariant-loop-group
invariant-loop-group l = varint_of l.bytes ≡ completed l.value (2 ^ (7 * l.group)) (groups_within (10 - l.group) l.rest)
