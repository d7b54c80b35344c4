use Rattle.std.proofs.Common.{◌≡◌, ℕ, ◌+◌, List, map, sum, sym, ap, ◌∙◌, subst, arith, rules}
use Rattle.tile_machine.specs.At.{At}
use Rattle.tile_machine.specs.FinishedBy.{finished_by}
use Rattle.tile_machine.proofs.FromParts.{finished-at}
use Rattle.phase_samples.specs.declared.sums.Summand.{Summand}
use Rattle.std.proofs.lemmas.List.{take_all}
use Rattle.tile_machine.proofs.Bridges.{sum_more}
use Rattle.phase_samples.proofs.sums.SumsPhase.rewrite.Goals as goal

pub part-requires : goal.part-requires
part-requires g c =
    let ps : List ℕ = map (λ t. t.value) c.requires.world.0 in
    let later = g.met.S.Parts.stays_shown c.args.parts.now c.loop-j.parts ps c.loop-j.invariant.stays c.requires.world.2 in
    omega (arith, g.met.S.Parts.counts c.args.parts.now ps c.requires.world.2, g.met.S.Parts.counts c.loop-j.parts ps later, c.count-j-end.ensures, c.loop-j-test.true)

pub loop-j-preserved : goal.loop-j-preserved
loop-j-preserved g c =
    record {
      stays = g.met.S.Parts.stays_on c.args.parts.now c.loop-j.parts c.part.new.self c.loop-j.invariant.stays c.part.ensures.stays;
      lost = omega (arith, c.loop-j.invariant.lost, c.part.ensures.lost);
      total = λ ps shown.
          ap (λ n. n + c.in_ok-value.value) (c.loop-j.invariant.total ps shown)
          ∙ sym (sum_more ps c.loop-j.j c.in_ok-value.value
          (c.in_ok-value.ensures.part ps (g.met.S.Parts.stays_shown c.args.parts.now c.loop-j.parts ps c.loop-j.invariant.stays shown)));
      few = search rules;
    }

pub returns-clause-done : goal.returns-clause-done
returns-clause-done g c world fits shown at =
    let ps : List ℕ = map (λ t. t.value) world in
    let all : c.loop-j.total ≡ sum ps =
    c.loop-j.invariant.total ps shown ∙ ap sum (take_all c.loop-j.j ps (omega (arith, g.met.S.Parts.counts c.args.parts.now ps shown, c.count-j-end.ensures, c.loop-j-test.false))) in
    let finish : ℕ → List ℕ → Summand → Summand = λ i qs t. record t { total = sum qs } in
    subst (λ n. At (finished_by (λ t. t.value) finish world) c.args._i (record c.args.tile { total = n })) (sym all)
    (finished-at (λ t. t.value) finish world c.args._i c.args.tile at)
