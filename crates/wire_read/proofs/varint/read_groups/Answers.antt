use Rattle.std.proofs.Common.{◌≡◌, ◌+◌, ◌-◌, ◌*◌, ◌^◌, suc, ap, ◌∙◌, arith}
use Rattle.std.proofs.lemmas.Nat.{pow-add}
use Rattle.wire_read.proofs.Groups.{varint_of-completed, varint_of-shorter, step_last, step_on}
use Rattle.wire_read.proofs.varint.read_groups.Goals as goal

pub loop-group-init : goal.loop-group-init
loop-group-init c = varint_of-completed c.args.bytes.now

pub returns-then-first-lt128-clause-spelled : goal.returns-then-first-lt128-clause-spelled
returns-then-first-lt128-clause-spelled c =
    let room : 10 - c.loop-group.group ≡ suc (9 - c.loop-group.group) = omega arith in
    step_last _ _ _ _ _ _ _ _ _ c.loop-group.invariant room c.in-Some.ensures.cases.0 c.if-first-lt128.true c.from.ensures

pub returns-then-first-lt128-clause-shorter : goal.returns-then-first-lt128-clause-shorter
returns-then-first-lt128-clause-shorter c =
    let room : 10 - c.loop-group.group ≡ suc (9 - c.loop-group.group) = omega arith in
    varint_of-shorter _ _ _ (step_last _ _ _ _ _ _ _ _ _ c.loop-group.invariant room c.in-Some.ensures.cases.0 c.if-first-lt128.true c.from.ensures)

pub loop-group-preserved : goal.loop-group-preserved
loop-group-preserved c =
    let room : 10 - c.loop-group.group ≡ suc (10 - (c.loop-group.group + 1)) = omega arith in
    let more : 7 * (c.loop-group.group + 1) ≡ 7 * c.loop-group.group + 7 = omega arith in
    let scale : 2 ^ (7 * (c.loop-group.group + 1)) ≡ 2 ^ (7 * c.loop-group.group) * 128 = ap (λ k. 2 ^ k) more ∙ pow-add 2 (7 * c.loop-group.group) 7 in
    step_on _ _ _ _ _ _ _ _ _ _ c.loop-group.invariant room c.in-Some.ensures.cases.0 c.if-first-lt128.false c.from.ensures scale
