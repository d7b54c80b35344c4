use Rattle.std.proofs.Common.{map}
use Rattle.osm_messages.specs.Passes.{pass_step}
use Rattle.osm_messages.specs.Seen.{seen_object}
use Rattle.osm_messages.proofs.Exits.{Becomes-exit, Becomes-wire}
use Rattle.osm_messages.proofs.Walks.{Going-ok, Going-stop, Going-fault, Going-end}
use Rattle.osm_messages.proofs.Members.{group-begun, objects_of}
use Rattle.osm_messages.proofs.group.read_primitive_group.Goals as goal

pub loop-field-init : goal.loop-field-init
loop-field-init c =
    rw (c.into_iter-field-iterator.ensures.into_iter_gives, c.new-field-items.ensures)
    (group-begun (map seen_object c.args.objects.now.items) c.args.at c.args.bytes.now)

pub returns-in_err-field : goal.returns-in_err-field
returns-in_err-field c =
    let step = rw c.in_err-field.was at c.in-Some.ensures.steps in
    Becomes-wire _ _ _ _ c.from_residual.ensures.1 (Going-fault pass_step objects_of _ _ _ _ _ c.loop-field.invariant step)

pub loop-field-preserved : goal.loop-field-preserved
loop-field-preserved c =
    let step = rw c.in_ok-field.was at c.in-Some.ensures.steps in
    Going-ok pass_step objects_of _ _ _ _ _ _ c.loop-field.invariant step c.in_ok-add_field.ensures

pub returns-in_err-add_field : goal.returns-in_err-add_field
returns-in_err-add_field c =
    let step = rw c.in_ok-field.was at c.in-Some.ensures.steps in
    Becomes-exit _ _ _ _ _ c.from_residual-in_err-add_field.ensures.1 c.in_err-add_field.ensures
    (λ d e. Going-stop pass_step objects_of _ _ _ _ _ d c.loop-field.invariant step e)

pub returns : goal.returns
returns c = Going-end pass_step objects_of _ _ _ _ c.loop-field.invariant c.in-None.ensures.steps
