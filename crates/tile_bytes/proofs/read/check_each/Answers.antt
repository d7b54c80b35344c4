use Rattle.std.proofs.Common.{◌+◌, ◌*◌, drop, sym, ◌∙◌, arith}
use Rattle.std.proofs.lemmas.List.{length-drop}
use Rattle.tile_bytes.proofs.InfoSections.{entry_missing, entry_there, entries_done}
use Rattle.tile_bytes.proofs.read.check_each.Goals as goal

pub returns-then-not-has_entry : goal.returns-then-not-has_entry
returns-then-not-has_entry c = λ starts marked.
    sym (c.loop-i.invariant starts marked) ∙ entry_missing (c.args.at + 32 * c.loop-i.i) starts c.args.edges.now c.loop-i.i c.index-edges-i.result c.index-edges-i.result c.loop-i-test.true c.index-edges-i.is (sym (c.has_entry.ensures starts marked) ∙ c.if-not-has_entry.true)

pub loop-i-preserved : goal.loop-i-preserved
loop-i-preserved c = λ starts marked.
    sym (entry_there c.args.at starts c.args.edges.now c.loop-i.i c.index-edges-i.result c.index-edges-i.result c.loop-i-test.true c.index-edges-i.is (sym (c.has_entry.ensures starts marked) ∙ c.if-not-has_entry.false)) ∙ c.loop-i.invariant starts marked

pub returns : goal.returns
returns c = λ starts marked. sym (c.loop-i.invariant starts marked) ∙ entries_done (c.args.at + 32 * c.loop-i.i) starts (drop c.loop-i.i c.args.edges.now) (omega (arith, length-drop c.loop-i.i c.args.edges.now))
