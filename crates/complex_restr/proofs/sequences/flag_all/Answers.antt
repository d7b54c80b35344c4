use Rattle.std.proofs.Common.{sym, subst, [], ◌∷◌, ◌++◌, length, take, arith}
use Rattle.complex_restr.specs.Codes.{AreFlags}
use Rattle.complex_restr.proofs.Steps.{one_more}
use Rattle.complex_restr.proofs.sequences.flag_all.Goals as goal

pub loop-i-preserved : goal.loop-i-preserved
loop-i-preserved c =
    one_more (λ patterns. AreFlags c.args.locals.now patterns (length c.flag_pattern.new.flags) c.flag_pattern.new.flags) c.args.patterns.now c.loop-i.i c.at.result (omega arith) c.at.ensures
    (subst (λ n. AreFlags c.args.locals.now (take c.loop-i.i c.args.patterns.now ++ c.at.result ∷ []) n c.flag_pattern.new.flags) (sym c.flag_pattern.auto.flags)
    (c.flag_pattern.ensures (take c.loop-i.i c.args.patterns.now) c.loop-i.invariant))
