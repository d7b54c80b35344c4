use Rattle.std.proofs.Common.{◌≡◌, ℕ, ◌+◌, List, map, sym, subst, arith}
use Rattle.tile_machine.specs.At.{At}
use Rattle.tile_machine.specs.FinishedBy.{finished_by}
use Rattle.tile_machine.proofs.FromParts.{finished-at}
use Rattle.phase_samples.specs.Beside.{height_at, height_before, with_beside}
use Rattle.phase_samples.proofs.fence.FencePhase.rewrite.Goals as goal

pub returns-clause-done : goal.returns-clause-done
returns-clause-done g c world fits shown at =
    let heights : List ℕ = map (λ post. post.height) world in
    let left = c.in_ok-left.ensures.height heights shown in
    -- the parts show the same heights after the first of them was read
    let later = g.met.S.Parts.stays_shown c.args.parts.now c.height_before.new.parts heights c.height_before.ensures.stays shown in
    let right = c.in_ok-right.ensures.height heights later in
    let both : c.in_ok-left.left + c.in_ok-right.right ≡ height_before heights c.args.i + height_at heights (c.args.i + 1) = omega (arith, left, right) in
    subst (λ n. At (finished_by (λ post. post.height) with_beside world) c.args.i (record c.args.tile { beside = n })) (sym both)
    (finished-at (λ post. post.height) with_beside world c.args.i c.args.tile at)
