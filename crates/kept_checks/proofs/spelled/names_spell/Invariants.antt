-- The names so far are UTF-8.
use Rattle.std.proofs.Common.{◌≡◌, ℕ, ◌<◌, List, true, get_or}
use Rattle.std.specs.Str.{is_utf8}
use Rattle.kept_checks.proofs.spelled.names_spell.Given as goal

abbrev pub invariant-loop-k : goal.invariant-loop-k
invariant-loop-k l = (i : ℕ) (d : List ℕ) → i < l.k → is_utf8 (get_or l.names i d) ≡ true
