use Rattle.std.proofs.Common.{◌≡◌, ℕ, suc, ◌+◌, ◌-◌, ◌<◌, ◌≤◌, List, ◌++◌, refl, subst, arith}
use Rattle.extract_maker.specs.Spelling.{groups_written, varint_bytes}
use Rattle.extract_maker.proofs.RisingBytes.{group_more, group_last, group_tenth}
use Rattle.extract_maker.proofs.spelling.push_varint.Goals as goal

pub loop-used-init : goal.loop-used-init
unfolding varint_bytes
loop-used-init c = refl

pub loop-used-preserved : goal.loop-used-preserved
loop-used-preserved c =
    let room : 9 - c.loop-used.used ≡ suc (9 - (c.loop-used.used + 1)) = omega arith in
    let so_far = subst (λ (k : ℕ). c.loop-used.out.items ++ groups_written k c.loop-used.left ≡ c.args.out.now.items ++ varint_bytes c.args.number) room c.loop-used.invariant in
    group_more (9 - (c.loop-used.used + 1)) c.loop-used.left c.loop-used.out.items _ _ _ c.in_ok-push-2.ensures.items (omega arith) (omega arith) so_far

pub returns-then-left-lt128 : goal.returns-then-left-lt128
returns-then-left-lt128 c =
    let room : 9 - c.loop-used.used ≡ suc (9 - (c.loop-used.used + 1)) = omega arith in
    let so_far = subst (λ (k : ℕ). c.loop-used.out.items ++ groups_written k c.loop-used.left ≡ c.args.out.now.items ++ varint_bytes c.args.number) room c.loop-used.invariant in
    group_last (9 - (c.loop-used.used + 1)) c.loop-used.left c.loop-used.out.items _ _ _ c.in_ok-push.ensures.items (omega arith) (omega arith) so_far

pub returns : goal.returns
returns c = group_tenth (9 - c.loop-used.used) c.loop-used.left c.loop-used.out.items _ _ _ c.in_ok-push-3.ensures.items (omega arith) (omega arith) c.loop-used.invariant
