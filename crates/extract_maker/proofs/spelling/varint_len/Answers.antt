use Rattle.std.proofs.Common.{◌≡◌, ℕ, suc, zero, ◌+◌, ◌-◌, ◌<◌, ◌≤◌, length, refl, ap, ◌∙◌, arith}
use Rattle.extract_maker.specs.Spelling.{groups_written, varint_bytes}
use Rattle.extract_maker.proofs.RisingBytes.{length_more, length_last, length_tenth}
use Rattle.extract_maker.proofs.spelling.varint_len.Goals as goal

pub loop-used-init : goal.loop-used-init
unfolding varint_bytes
loop-used-init c = omega arith

pub loop-used-preserved : goal.loop-used-preserved
loop-used-preserved c =
    let room : 9 - c.loop-used.used ≡ suc (9 - (c.loop-used.used + 1)) = omega arith in
    let same : length (groups_written (9 - c.loop-used.used) c.loop-used.left) ≡ length (groups_written (suc (9 - (c.loop-used.used + 1))) c.loop-used.left) = ap (λ (k : ℕ). length (groups_written k c.loop-used.left)) room in
    let one = length_more (9 - (c.loop-used.used + 1)) c.loop-used.left (omega arith) in
    omega (arith, c.loop-used.invariant)

pub returns-then-left-lt128-clause-is : goal.returns-then-left-lt128-clause-is
returns-then-left-lt128-clause-is c =
    let room : 9 - c.loop-used.used ≡ suc (9 - (c.loop-used.used + 1)) = omega arith in
    let same : length (groups_written (9 - c.loop-used.used) c.loop-used.left) ≡ length (groups_written (suc (9 - (c.loop-used.used + 1))) c.loop-used.left) = ap (λ (k : ℕ). length (groups_written k c.loop-used.left)) room in
    let one = length_last (9 - (c.loop-used.used + 1)) c.loop-used.left (omega arith) in
    omega (arith, c.loop-used.invariant)

pub returns-clause-is : goal.returns-clause-is
returns-clause-is c =
    let one = length_tenth (9 - c.loop-used.used) c.loop-used.left (omega arith) in
    omega (arith, c.loop-used.invariant)
