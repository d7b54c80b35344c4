use Rattle.osm_messages.specs.Texts.{text_step}
use Rattle.osm_messages.proofs.Exits.{Answers-exit, Answers-wire}
use Rattle.osm_messages.proofs.Walks.{Going-ok, Going-stop, Going-fault, Going-end}
use Rattle.osm_messages.proofs.Begun.{texts-begun}
use Rattle.osm_messages.proofs.texts.read_texts.Goals as goal

pub loop-field-init : goal.loop-field-init
loop-field-init c =
    rw (c.into_iter-field-iterator.ensures.into_iter_gives, c.new-field-items.ensures, c.new-texts.ensures.items)
    (texts-begun c.args.at c.args.bytes.now)

pub returns-in_err-field : goal.returns-in_err-field
returns-in_err-field c =
    let step = rw c.in_err-field.was at c.in-Some.ensures.steps in
    Answers-wire _ _ _ _ c.from_residual.ensures.1 (Going-fault text_step (λ r. r) _ _ _ _ _ c.loop-field.invariant step)

pub loop-field-preserved : goal.loop-field-preserved
loop-field-preserved c =
    let step = rw c.in_ok-field.was at c.in-Some.ensures.steps in
    Going-ok text_step (λ r. r) _ _ _ _ _ _ c.loop-field.invariant step c.in_ok-add_text.ensures

pub returns-in_err-add_text : goal.returns-in_err-add_text
returns-in_err-add_text c =
    let step = rw c.in_ok-field.was at c.in-Some.ensures.steps in
    Answers-exit _ _ _ _ _ c.from_residual-in_err-add_text.ensures.1 c.in_err-add_text.ensures
    (λ d e. Going-stop text_step (λ r. r) _ _ _ _ _ d c.loop-field.invariant step e)

pub returns : goal.returns
returns c = Going-end text_step (λ r. r) _ _ _ _ c.loop-field.invariant c.in-None.ensures.steps
