use Rattle.wire_read.proofs.Groups.{varint_of-one, varint_of-two, varint_of-three}
use Rattle.wire_read.proofs.varint.short_varint.Goals as goal

pub returns-then-first-lt128-clause-spelled : goal.returns-then-first-lt128-clause-spelled
returns-then-first-lt128-clause-spelled c =
    rw c.from.ensures (varint_of-one _ _ _ c.in_ok-first.ensures.cases.0 c.if-first-lt128.true)

pub returns-then-second-lt128-clause-spelled : goal.returns-then-second-lt128-clause-spelled
returns-then-second-lt128-clause-spelled c =
    rw c.from-low.ensures
    (rw c.from-then-second-lt128.ensures
    (varint_of-two _ _ _ _ _ c.in_ok-first.ensures.cases.0 c.if-first-lt128.false c.in_ok-second.ensures.cases.0 c.if-second-lt128.true))

pub returns-then-third-lt128-clause-spelled : goal.returns-then-third-lt128-clause-spelled
returns-then-third-lt128-clause-spelled c =
    rw c.from-low.ensures
    (rw c.from-then-third-lt128.ensures
    (rw c.from-then-third-lt128-2.ensures
    (varint_of-three _ _ _ _ _ _ _ c.in_ok-first.ensures.cases.0 c.if-first-lt128.false c.in_ok-second.ensures.cases.0 c.if-second-lt128.false c.in_ok-third.ensures.cases.0 c.if-third-lt128.true)))
