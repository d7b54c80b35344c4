use Rattle.std.proofs.Common.{[]}
use Rattle.std.proofs.lemmas.Result.{err_from_is_err_and}
use Rattle.section_grammar.specs.Reads.{read_many}
use Rattle.section_grammar.specs.Answers.{Check}
use Rattle.section_grammar.proofs.Steps.{goes_on, ends, is_done}
use Rattle.edge_info.specs.EntryReading.{point_at}
use Rattle.edge_info.proofs.entries.points_of.Goals as goal

pub returns-in_err-point : goal.returns-in_err-point
returns-in_err-point c =
    let p = err_from_is_err_and c.from_residual.result c.from_residual.ensures.1 in
    rw (p.1, p.2) (ends (point_at (Check 13 c.args.at)) c.in_err-point.field-0.0 c.loop.points.items c.args.count c.loop.counter c.loop.rest.now (read_many (point_at (Check 13 c.args.at)) c.args.count [] c.args.rest.now) c.loop-test.true (c.in_err-point.ensures c.loop.points.items) c.loop.invariant)

pub loop-preserved : goal.loop-preserved
loop-preserved c =
    rw c.in_ok-push.ensures.items (goes_on (point_at (Check 13 c.args.at)) c.loop.points.items c.args.count c.loop.counter c.loop.rest.now c.in_ok-point.point c.in_ok-point.after.now (read_many (point_at (Check 13 c.args.at)) c.args.count [] c.args.rest.now) c.loop-test.true (c.in_ok-point.ensures c.loop.points.items) c.loop.invariant)

pub returns : goal.returns
returns c = is_done (point_at (Check 13 c.args.at)) c.loop.points.items c.args.count c.loop.counter c.loop.rest.now (read_many (point_at (Check 13 c.args.at)) c.args.count [] c.args.rest.now) c.loop-test.false c.loop.invariant
