-- None of the names so far is the one.
use Rattle.std.specs.Str.{bytes_eq}
use Rattle.enhancer.proofs.AnyOf.{NoneOf}
use Rattle.enhancer.proofs.alike.has_name.Given as goal

abbrev pub invariant-loop-i : goal.invariant-loop-i
invariant-loop-i l = NoneOf (λ other. bytes_eq l.name other) l.others l.i
