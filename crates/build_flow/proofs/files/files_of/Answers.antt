use Rattle.std.proofs.Common.{◌+◌, sym, subst}
use Rattle.build_flow.proofs.Given.{AreFilesOf, files_more, files_fail}
use Rattle.build_flow.proofs.files.files_of.Goals as goal

pub returns-in-Err-clause-fault : goal.returns-in-Err-clause-fault
returns-in-Err-clause-fault c =
    files_fail c.args.modes c.args.pieces.now c.args.tiles.now c.loop-i.i c.loop-i.files c.in-Err.fault c.loop-i-test.true c.loop-i.invariant c.in-Err.ensures.fault

pub loop-i-preserved : goal.loop-i-preserved
loop-i-preserved c =
    subst (AreFilesOf c.args.modes c.args.pieces.now c.args.tiles.now (c.loop-i.i + 1)) (sym c.in-Ok.ensures.file)
    (files_more c.args.modes c.args.pieces.now c.args.tiles.now c.loop-i.i c.loop-i.files c.loop-i-test.true c.loop-i.invariant c.in-Ok.ensures.short)
