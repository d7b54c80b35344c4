use Rattle.std.proofs.Common.{arith, sym, ◌∙◌}
use Rattle.std.proofs.lemmas.Bool.{eqb-true, eq-eqb}
use Rattle.edge_info.proofs.RowLaws.{none_there}
use Rattle.edge_info.proofs.infos.Infos.is_empty.Goals as goal

pub returns : goal.returns
returns c = let n = none_there _ _ _ _ c.self.view_is in (
  (λ t. let z = eqb-true _ _ (sym c.is_empty.ensures ∙ t) in n.1 (omega (arith, z))),
  λ e. let z = n.0 e in c.is_empty.ensures ∙ eq-eqb _ _ (omega (arith, z)),
)
