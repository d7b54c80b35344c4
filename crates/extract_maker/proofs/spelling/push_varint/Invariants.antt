use Rattle.std.proofs.Common.{◌≡◌, ◌-◌, ◌++◌}
use Rattle.extract_maker.specs.Spelling.{groups_written, varint_bytes}
use Rattle.extract_maker.proofs.spelling.push_varint.Given as goal

-- the groups so far and those to what is left are those of the number
abbrev pub invariant-loop-used : goal.invariant-loop-used
invariant-loop-used l = l.out.items ++ groups_written (9 - l.used) l.left ≡ l.fn.out.items ++ varint_bytes l.number
