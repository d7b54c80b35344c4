use Rattle.osm_messages.specs.Numbers.{shape_of}
use Rattle.osm_messages.specs.Lists.{list_step}
use Rattle.osm_messages.proofs.Exits.{Becomes-exit, Becomes-wire}
use Rattle.osm_messages.proofs.Walks.{Going-ok, Going-stop, Going-fault, Going-end}
use Rattle.osm_messages.proofs.FieldLists.{numbers-begun}
use Rattle.osm_messages.proofs.numbers.read_numbers.Goals as goal

pub loop-field-init : goal.loop-field-init
loop-field-init c =
    rw (c.into_iter-field-iterator.ensures.into_iter_gives, c.new-field-items.ensures, c.clear.ensures)
    (numbers-begun c.args.object.now.kind c.args.object.now.at c.args.object.now.bytes.now)

pub returns-in_err-field : goal.returns-in_err-field
returns-in_err-field c =
    let step = rw c.in_err-field.was at c.in-Some.ensures.steps in
    Becomes-wire _ _ _ _ c.from_residual.ensures.1 (Going-fault (list_step (shape_of c.args.object.now.kind)) (λ r. r) _ _ _ _ _ c.loop-field.invariant step)

pub loop-field-preserved : goal.loop-field-preserved
loop-field-preserved c =
    let step = rw c.in_ok-field.was at c.in-Some.ensures.steps in
    Going-ok (list_step (shape_of c.args.object.now.kind)) (λ r. r) _ _ _ _ _ _ c.loop-field.invariant step c.in_ok-add_numbers.ensures

pub returns-in_err-add_numbers : goal.returns-in_err-add_numbers
returns-in_err-add_numbers c =
    let step = rw c.in_ok-field.was at c.in-Some.ensures.steps in
    Becomes-exit _ _ _ _ _ c.from_residual-in_err-add_numbers.ensures.1 c.in_err-add_numbers.ensures
    (λ d e. Going-stop (list_step (shape_of c.args.object.now.kind)) (λ r. r) _ _ _ _ _ d c.loop-field.invariant step e)

pub returns : goal.returns
returns c = Going-end (list_step (shape_of c.args.object.now.kind)) (λ r. r) _ _ _ _ c.loop-field.invariant c.in-None.ensures.steps
