use Rattle.std.proofs.Common.{◌≡◌, ℕ, suc, ◌+◌, ◌-◌, ◌++◌, subst, arith}
use Rattle.extract_maker.specs.GridFile.{turn_file}
use Rattle.extract_maker.proofs.Written.{turns_more}
use Rattle.extract_maker.proofs.grid_file.push_turns.Goals as goal

pub loop-place-preserved : goal.loop-place-preserved
loop-place-preserved c =
    let side = c.args.side in
    let place = c.loop-place.place in
    let room : side - place ≡ suc (side - (place + 1)) = omega arith in
    let so_far = subst (λ (k : ℕ). c.loop-place.file.items ++ turn_file side place k c.loop-place.state ≡ c.args.file.now.items ++ turn_file side 0 side c.args.seed) room c.loop-place.invariant.written in
    record {
      written = turns_more c.loop-place.file.items _ _ _ _ c.in_ok-push_drawn.ensures so_far;
      small = omega arith;
    }
