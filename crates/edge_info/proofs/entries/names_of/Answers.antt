use Rattle.std.proofs.Common.{[]}
use Rattle.std.proofs.lemmas.Result.{err_from_is_err_and}
use Rattle.section_grammar.specs.Reads.{read_many}
use Rattle.section_grammar.specs.Answers.{Check}
use Rattle.section_grammar.proofs.Steps.{goes_on, ends, is_done}
use Rattle.edge_info.specs.EntryReading.{name_at}
use Rattle.edge_info.proofs.entries.names_of.Goals as goal

pub returns-in_err-name : goal.returns-in_err-name
returns-in_err-name c =
    let p = err_from_is_err_and c.from_residual.result c.from_residual.ensures.1 in
    rw (p.1, p.2) (ends (name_at (Check 13 c.args.at) c.args.texts) c.in_err-name.field-0.0 c.loop.names.items c.args.count c.loop.counter c.loop.rest.now (read_many (name_at (Check 13 c.args.at) c.args.texts) c.args.count [] c.args.rest.now) c.loop-test.true (c.in_err-name.ensures c.loop.names.items) c.loop.invariant)

pub loop-preserved : goal.loop-preserved
loop-preserved c =
    rw c.in_ok-push.ensures.items (goes_on (name_at (Check 13 c.args.at) c.args.texts) c.loop.names.items c.args.count c.loop.counter c.loop.rest.now c.in_ok-name.name c.in_ok-name.after.now (read_many (name_at (Check 13 c.args.at) c.args.texts) c.args.count [] c.args.rest.now) c.loop-test.true (c.in_ok-name.ensures c.loop.names.items) c.loop.invariant)

pub returns : goal.returns
returns c = is_done (name_at (Check 13 c.args.at) c.args.texts) c.loop.names.items c.args.count c.loop.counter c.loop.rest.now (read_many (name_at (Check 13 c.args.at) c.args.texts) c.args.count [] c.args.rest.now) c.loop-test.false c.loop.invariant
