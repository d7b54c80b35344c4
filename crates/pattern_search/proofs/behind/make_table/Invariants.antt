-- The table so far, with what the places that are left give, is the whole one.
use Rattle.std.proofs.Common.{◌≡◌, ◌++◌, drop}
use Rattle.pattern_search.specs.Most.{all_behind}
use Rattle.pattern_search.proofs.behind.make_table.Given as goal

abbrev pub invariant-loop-place : goal.invariant-loop-place
invariant-loop-place l = l.table.items ++ all_behind 34 l.run l.most (drop l.place-index l.places) ≡ all_behind 34 0 0 l.places
