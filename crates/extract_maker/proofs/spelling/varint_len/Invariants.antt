use Rattle.std.proofs.Common.{◌≡◌, ◌-◌, ◌+◌, length}
use Rattle.extract_maker.specs.Spelling.{groups_written, varint_bytes}
use Rattle.extract_maker.proofs.spelling.varint_len.Given as goal

abbrev pub invariant-loop-used : goal.invariant-loop-used
invariant-loop-used l = length (groups_written (9 - l.used) l.left) + l.used ≡ length (varint_bytes l.number)
