use Rattle.osm_messages.specs.Numbers.{shape_of}
use Rattle.osm_messages.specs.Passes.{check_step}
use Rattle.osm_messages.proofs.Exits.{Becomes-exit, Becomes-wire}
use Rattle.osm_messages.proofs.Walks.{Going-ok, Going-stop, Going-fault, Going-end}
use Rattle.osm_messages.proofs.FieldLists.{checked-begun}
use Rattle.osm_messages.proofs.numbers.check_numbers.Goals as goal

pub loop-field-init : goal.loop-field-init
loop-field-init c =
    rw (c.into_iter-field-iterator.ensures.into_iter_gives, c.new-field-items.ensures)
    (checked-begun (shape_of c.args.kind) c.args.at c.args.bytes.now)

pub returns-in_err-field : goal.returns-in_err-field
returns-in_err-field c =
    let step = rw c.in_err-field.was at c.in-Some.ensures.steps in
    Becomes-wire _ _ _ _ c.from_residual.ensures.1 (Going-fault (check_step (shape_of c.args.kind)) (λ r. r) _ _ _ _ _ c.loop-field.invariant step)

pub loop-field-preserved : goal.loop-field-preserved
loop-field-preserved c =
    let step = rw c.in_ok-field.was at c.in-Some.ensures.steps in
    Going-ok (check_step (shape_of c.args.kind)) (λ r. r) _ _ _ _ _ _ c.loop-field.invariant step c.in_ok-check_field.ensures

pub returns-in_err-check_field : goal.returns-in_err-check_field
returns-in_err-check_field c =
    let step = rw c.in_ok-field.was at c.in-Some.ensures.steps in
    Becomes-exit _ _ _ _ _ c.from_residual-in_err-check_field.ensures.1 c.in_err-check_field.ensures
    (λ d e. Going-stop (check_step (shape_of c.args.kind)) (λ r. r) _ _ _ _ _ d c.loop-field.invariant step e)

pub returns : goal.returns
returns c = Going-end (check_step (shape_of c.args.kind)) (λ r. r) _ _ _ _ c.loop-field.invariant c.in-None.ensures.steps
