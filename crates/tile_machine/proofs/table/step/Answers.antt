use Rattle.tile_machine.specs.declared.event.Event.TheVariants.{Claim, Take, BringOut, Mark, PutBack, Free, Split, Join}
use Rattle.tile_machine.specs.Inner.{state_of}
use Rattle.tile_machine.proofs.EveryEvent.{good_follows}
use Rattle.tile_machine.proofs.table.step.Goals as goal

pub returns-in-Claim-clause-good : goal.returns-in-Claim-clause-good
returns-in-Claim-clause-good c =
    good_follows _ (state_of c.args.cells.now c.args.workers.now) (Claim c.in-Claim.worker c.in-Claim.tile) c.claim.result _ c.requires c.claim.ensures

pub returns-in-Take-clause-good : goal.returns-in-Take-clause-good
returns-in-Take-clause-good c =
    good_follows _ (state_of c.args.cells.now c.args.workers.now) (Take c.in-Take.worker c.in-Take.tile) c.take.result _ c.requires c.take.ensures

pub returns-in-BringOut-clause-good : goal.returns-in-BringOut-clause-good
returns-in-BringOut-clause-good c =
    good_follows _ (state_of c.args.cells.now c.args.workers.now) (BringOut c.in-BringOut.worker c.in-BringOut.tile) c.bring_out.result _ c.requires c.bring_out.ensures

pub returns-in-Mark-clause-good : goal.returns-in-Mark-clause-good
returns-in-Mark-clause-good c =
    good_follows _ (state_of c.args.cells.now c.args.workers.now) (Mark c.in-Mark.worker c.in-Mark.tile) c.mark.result _ c.requires c.mark.ensures

pub returns-in-PutBack-clause-good : goal.returns-in-PutBack-clause-good
returns-in-PutBack-clause-good c =
    good_follows _ (state_of c.args.cells.now c.args.workers.now) (PutBack c.in-PutBack.worker c.in-PutBack.tile) c.put_back.result _ c.requires c.put_back.ensures

pub returns-in-Free-clause-good : goal.returns-in-Free-clause-good
returns-in-Free-clause-good c =
    good_follows _ (state_of c.args.cells.now c.args.workers.now) (Free c.in-Free.worker c.in-Free.tile) c.free.result _ c.requires c.free.ensures

pub returns-in-Split-clause-good : goal.returns-in-Split-clause-good
returns-in-Split-clause-good c =
    good_follows _ (state_of c.args.cells.now c.args.workers.now) (Split c.in-Split.worker c.in-Split.at) c.split.result _ c.requires c.split.ensures

pub returns-in-Join-clause-good : goal.returns-in-Join-clause-good
returns-in-Join-clause-good c =
    good_follows _ (state_of c.args.cells.now c.args.workers.now) (Join c.in-Join.worker c.in-Join.other) c.join.result _ c.requires c.join.ensures
