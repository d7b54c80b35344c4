use Rattle.std.proofs.Common.{◌*◌, ◌+◌, ◌^◌, ◌≡◌, ◌<◌, ◌/◌, ◌-◌, min, arith}
use Rattle.fixed_geo.proofs.Newton.{large_above, step_above, step_below}
use Rattle.fixed_geo.proofs.roots.large_root.Goals as goal

pub loop-guess-init : goal.loop-guess-init
loop-guess-init c =
    let is : c.min-guess.result ≡ min ((c.small_root-high.result + 1) * 2 ^ 32) (2 ^ 64 - 1) = omega arith in
    (large_above c.args.n c.small_root-high.result c.min-guess.result (omega arith) c.small_root-high.ensures.root.greatest is, omega arith)

pub loop-guess-preserved : goal.loop-guess-preserved
loop-guess-preserved c =
    let below : (c.loop-guess.guess + c.args.n / c.loop-guess.guess) / 2 < c.loop-guess.guess = step_below c.args.n c.loop-guess.guess c.loop-guess-test.true in
    (step_above c.args.n c.loop-guess.guess (omega arith), omega arith)
