use Rattle.std.proofs.Common.{◌≡◌, ◌≤◌, ◌-◌, ◌+◌, ◌*◌, ◌++◌, pos, map}
use Rattle.std.specs.List.{range_with_len}
use Rattle.extract_maker.specs.Spelling.{packed, differences}
use Rattle.extract_maker.specs.GridFile.{rising}
use Rattle.extract_maker.proofs.RisingBytes.{rest_of}
use Rattle.extract_maker.proofs.spelling.push_rising.Given as goal

-- what was written and what is left to write is the whole
abbrev pub invariant-loop-i : goal.invariant-loop-i
invariant-loop-i l = record {
  written : l.out.items ++ rest_of l.first l.step l.i (l.many - l.i) l.last ≡ l.fn.out.items ++ rest_of l.first l.step 0 l.many 0;
  before : l.last ≤ l.first + l.i * l.step;
}
