use Rattle.osm_messages.specs.Blocks.{block_step}
use Rattle.osm_messages.proofs.Exits.{Answers-exit, Answers-wire}
use Rattle.osm_messages.proofs.Walks.{Going-ok, Going-stop, Going-fault, Going-end}
use Rattle.osm_messages.proofs.Begun.{block-begun}
use Rattle.osm_messages.proofs.Kept.{all_spelled}
use Rattle.osm_messages.proofs.Weights.{block_in-few}
use Rattle.osm_messages.proofs.block.read_primitive_block.Goals as goal

pub loop-field-init : goal.loop-field-init
loop-field-init c =
    rw (c.into_iter-field-iterator.ensures.into_iter_gives, c.new-field-items.ensures, c.new.ensures.items)
    (block-begun c.args.at c.args.bytes.now)

pub returns-in_err-field-clause-block : goal.returns-in_err-field-clause-block
returns-in_err-field-clause-block c =
    let step = rw c.in_err-field.was at c.in-Some.ensures.steps in
    Answers-wire _ _ _ _ c.from_residual.ensures.1 (Going-fault block_step (λ r. r) _ _ _ _ _ c.loop-field.invariant step)

pub loop-field-preserved : goal.loop-field-preserved
loop-field-preserved c =
    let step = rw c.in_ok-field.was at c.in-Some.ensures.steps in
    Going-ok block_step (λ r. r) _ _ _ _ _ _ c.loop-field.invariant step c.in_ok-add_field.ensures

pub returns-in_err-add_field-clause-block : goal.returns-in_err-add_field-clause-block
returns-in_err-add_field-clause-block c =
    let step = rw c.in_ok-field.was at c.in-Some.ensures.steps in
    Answers-exit _ _ _ _ _ c.from_residual-in_err-add_field.ensures.1 c.in_err-add_field.ensures
    (λ d e. Going-stop block_step (λ r. r) _ _ _ _ _ d c.loop-field.invariant step e)

pub returns-clause-block : goal.returns-clause-block
returns-clause-block c = Going-end block_step (λ r. r) _ _ _ _ c.loop-field.invariant c.in-None.ensures.steps

pub returns-clause-spelled : goal.returns-clause-spelled
returns-clause-spelled c =
    all_spelled _ _ _ (Going-end block_step (λ r. r) _ _ _ _ c.loop-field.invariant c.in-None.ensures.steps)

pub returns-clause-few : goal.returns-clause-few
returns-clause-few c =
    block_in-few _ _ _ (Going-end block_step (λ r. r) _ _ _ _ c.loop-field.invariant c.in-None.ensures.steps)
