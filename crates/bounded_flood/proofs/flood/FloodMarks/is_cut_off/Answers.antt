use Rattle.std.proofs.Common.{refl, sym, ◌∙◌}
use Rattle.std.specs.Prelude.{nat_eq}
use Rattle.std.proofs.lemmas.Bool.{eqb-true, eq-eqb}
use Rattle.bounded_flood.specs.FlatGraph.{near_without, side_limit}
use Rattle.bounded_flood.proofs.Decided.{CutOff-from_true, true-from_CutOff}
use Rattle.bounded_flood.proofs.flood.FloodMarks.is_cut_off.Goals as goal

pub returns-clause-decides : goal.returns-clause-decides
returns-clause-decides c = (
  (λ h. CutOff-from_true nat_eq eqb-true (λ n. eq-eqb n n refl) (near_without c.args.starts.now c.args.links.now c.args.left) c.args.v side_limit c.args.u
      (sym c.flood-found.ensures.result ∙ h)),
  (λ h. c.flood-found.ensures.result
      ∙ true-from_CutOff nat_eq eqb-true (λ n. eq-eqb n n refl) (near_without c.args.starts.now c.args.links.now c.args.left) c.args.v side_limit c.args.u h),
)
