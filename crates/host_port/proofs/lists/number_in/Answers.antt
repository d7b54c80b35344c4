use Rattle.std.proofs.Common.{◌∙◌, sym}
use Rattle.host_port.proofs.Numbered.{go_on, stops}
use Rattle.host_port.proofs.lists.number_in.Goals as goal

pub returns-then-eq-clause-first : goal.returns-then-eq-clause-first
returns-then-eq-clause-first c = sym (c.loop-number.invariant ∙ stops _ _ _ _ c.loop-number-test.true c.index-files-number.is (cc))

pub loop-number-preserved : goal.loop-number-preserved
loop-number-preserved c = c.loop-number.invariant ∙ go_on _ _ _ _ c.loop-number-test.true c.index-files-number.is (cc)
