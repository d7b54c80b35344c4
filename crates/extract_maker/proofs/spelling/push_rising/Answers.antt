use Rattle.std.proofs.Common.{◌≡◌, ℕ, suc, ◌+◌, ◌*◌, ◌-◌, List, ◌++◌, ◌∙◌, sym, ap, subst, arith}
use Rattle.extract_maker.proofs.RisingBytes.{rest_of, rest_more, step_up}
use Rattle.extract_maker.proofs.spelling.push_rising.Goals as goal

pub loop-i-preserved : goal.loop-i-preserved
loop-i-preserved c =
    let first = c.args.first in
    let step = c.args.step in
    let i = c.loop-i.i in
    let left = c.args.many - (i + 1) in
    let room : c.args.many - i ≡ suc left = omega arith in
    let so_far = subst (λ (k : ℕ). c.loop-i.out.items ++ rest_of first step i k c.loop-i.last ≡ c.args.out.now.items ++ rest_of first step 0 c.args.many 0) room c.loop-i.invariant.written in
    record {
      written =
          ap (λ (l : List ℕ). l ++ rest_of first step (i + 1) left (first + i * step)) c.in_ok-push_varint.ensures
          ∙ sym (rest_more first step i left c.loop-i.last c.loop-i.out.items c.loop-i.invariant.before)
          ∙ so_far;
      before = step_up first step i;
    }
