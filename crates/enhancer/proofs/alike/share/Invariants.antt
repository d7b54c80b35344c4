-- None of the names so far is among the others.
use Rattle.std.specs.List.{list_any}
use Rattle.std.specs.Str.{bytes_eq}
use Rattle.enhancer.proofs.AnyOf.{NoneOf}
use Rattle.enhancer.proofs.alike.share.Given as goal

abbrev pub invariant-loop-i : goal.invariant-loop-i
invariant-loop-i l = NoneOf (λ name. list_any (λ other. bytes_eq name other) l.others) l.names l.i
