-- The tests so far.
use Rattle.std.proofs.Common.{◌≡◌, map}
use Rattle.std.specs.List.{range_with_len}
use Rattle.pattern_search.specs.ViaSets.{comes_to}
use Rattle.pattern_search.proofs.stepping.next_members.Given as goal

abbrev pub invariant-loop-j : goal.invariant-loop-j
invariant-loop-j l = l.next.items ≡ map (comes_to l.set l.can l.goes l.of) (range_with_len 0 l.j)
