use Rattle.std.proofs.Common.{◌≡◌, Bool, true, false, inl, inr}
use Rattle.wire_read.proofs.FieldsSoFar.{FieldsSoFar-more, FieldsSoFar-push, FieldsSoFar-end, FieldsSoFar-fault}
use Rattle.wire_tests.proofs.fields.fields_of.Goals as goal

not_both : (b : Bool) → b ≡ true → b ≡ false → ⊥
not_both b p q = cc

pub loop-field-preserved : goal.loop-field-preserved
loop-field-preserved c =
    let step = rw c.in-Ok.is at c.in-Some.ensures.steps in
    rw c.in_ok-push-in-Ok.ensures.items
    (FieldsSoFar-push _ _ _ _ _ (FieldsSoFar-more _ _ _ _ _ _ c.loop-field.invariant step.1 step.2 step.3))

pub returns-in-Err : goal.returns-in-Err
returns-in-Err c =
    let step = rw c.in-Err.is at c.in-Some.ensures.steps in
    FieldsSoFar-fault _ _ _ _ _ c.loop-field.invariant step.1 step.2

pub returns : goal.returns
returns c =
    FieldsSoFar-end _ _ _ _ c.loop-field.invariant
    (elim c.in-None.ensures.steps.0 [ inl empty ↦ empty | inr broken ↦ absurd (not_both c.loop-field.field-iterator.broken broken c.loop-field.invariant.unbroken) ])
