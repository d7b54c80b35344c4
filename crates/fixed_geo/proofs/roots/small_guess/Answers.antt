use Rattle.std.proofs.Common.{arith}
use Rattle.fixed_geo.proofs.Newton.{guess_parts}
use Rattle.fixed_geo.proofs.roots.small_guess.Goals as goal

pub overflow_mul-result : goal.overflow_mul-result
overflow_mul-result c =
    let parts = guess_parts c.args.n c.ilog2-half.result c.ilog2-half.ensures.next_power_gt c.ilog2-half.ensures.bound in
    omega (arith, parts)

pub overflow_add-result : goal.overflow_add-result
overflow_add-result c =
    let parts = guess_parts c.args.n c.ilog2-half.result c.ilog2-half.ensures.next_power_gt c.ilog2-half.ensures.bound in
    omega (arith, parts)

pub returns-clause-bound : goal.returns-clause-bound
returns-clause-bound c =
    let parts = guess_parts c.args.n c.ilog2-half.result c.ilog2-half.ensures.next_power_gt c.ilog2-half.ensures.bound in
    omega (arith, parts)
