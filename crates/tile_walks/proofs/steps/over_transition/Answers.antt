use Rattle.tile_walks.proofs.Options.{told, none_some}
use Rattle.tile_walks.proofs.Stands.{stand_at}
use Rattle.tile_walks.proofs.steps.over_transition.Goals as goal

pub returns-in_err-to-clause-only : goal.returns-in_err-to-clause-only
returns-in_err-to-clause-only c = λ next step. absurd (none_some step.0 (c.in_err-to.ensures.only step.0 step.2))

pub returns-then-has_node-clause-only : goal.returns-then-has_node-clause-only
returns-then-has_node-clause-only c = λ next step. stand_at _ _ _ next (told _ _ (c.in_ok-to.ensures.only step.0 step.2)) step.4
