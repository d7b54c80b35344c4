use Rattle.std.proofs.Common.{refl, arith, []}
use Rattle.std.proofs.lemmas.Bool.{both_ways}
use Rattle.tile_bytes.specs.declared.sequences.Sequence.{Sequence}
use Rattle.tile_walks.proofs.forbidden.tile_permits.Goals as goal

pub returns-then-not-permits : goal.returns-then-not-permits
returns-then-not-permits c =
    let none : Sequence = record { edges = []; modes = 0 } in (
      λ no. absurd (both_ways _ refl no),
      λ all. absurd (both_ways _ c.if-not-permits.true ((c.permits.ensures none).1 (all c.loop-i.i none (omega (arith, c.loop-i-test.true, c.len-i-end.ensures))))),
    )
