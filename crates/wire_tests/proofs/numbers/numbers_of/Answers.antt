use Rattle.std.proofs.Common.{◌≡◌, Bool, true, false, inl, inr}
use Rattle.wire_read.proofs.ReadSoFar.{ReadSoFar-more, ReadSoFar-end, ReadSoFar-fault}
use Rattle.wire_tests.proofs.numbers.numbers_of.Goals as goal

not_both : (b : Bool) → b ≡ true → b ≡ false → ⊥
not_both b p q = cc

pub loop-number-preserved : goal.loop-number-preserved
loop-number-preserved c =
    let step = rw c.in-Ok.is at c.in-Some.ensures.steps in
    rw c.in_ok-push-in-Ok.ensures.items
    (ReadSoFar-more _ _ _ _ _ _ c.loop-number.invariant step.1 step.2 step.3)

pub returns-in-Err-clause-broken : goal.returns-in-Err-clause-broken
returns-in-Err-clause-broken c =
    let step = rw c.in-Err.is at c.in-Some.ensures.steps in
    ReadSoFar-fault _ _ _ _ _ c.loop-number.invariant step.1 step.2

pub returns-clause-spelled : goal.returns-clause-spelled
returns-clause-spelled c =
    λ _. ReadSoFar-end _ _ _ _ c.loop-number.invariant
    (elim c.in-None.ensures.steps.0 [ inl empty ↦ empty | inr broken ↦ absurd (not_both c.loop-number.number-iterator.broken broken c.loop-number.invariant.unbroken) ])
