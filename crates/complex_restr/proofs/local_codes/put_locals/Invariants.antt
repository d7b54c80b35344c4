use Rattle.complex_restr.proofs.LocalLemmas.{AreCounted}
use Rattle.complex_restr.proofs.local_codes.put_locals.Given as goal

abbrev pub invariant-loop-start : goal.invariant-loop-start
invariant-loop-start l = AreCounted l.starts l.start-index l.counts l.locals.items
