use Rattle.std.proofs.Common.{arith}
use Rattle.kept_checks.proofs.SpelledNames.{name_next}
use Rattle.kept_checks.proofs.spelled.names_spell.Goals as goal

pub loop-k-preserved : goal.loop-k-preserved
loop-k-preserved c = name_next c.args.names.now c.loop-k.k c.at.result.now c.loop-k.invariant (omega arith) c.at.ensures c.text_spells.ensures
