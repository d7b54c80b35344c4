use Rattle.std.proofs.Common.{sym, subst}
use Rattle.std.proofs.lemmas.Bool.{both_ways}
use Rattle.way_tags.specs.declared.modes.TheConstants.{VEHICLES}
use Rattle.road_pieces.specs.Modes.{ShareMode}
use Rattle.tile_walks.specs.Steps.{MayCome}
use Rattle.tile_walks.proofs.Options.{told, none_some}
use Rattle.tile_walks.proofs.Stands.{stand_behind}
use Rattle.tile_walks.proofs.steps.over_edge.Goals as goal

pub returns-in_err-edge-clause-only : goal.returns-in_err-edge-clause-only
returns-in_err-edge-clause-only c = λ next step. absurd (none_some step.0 (c.in_err-edge.ensures.only step.0 step.1))

pub returns-then-passes-clause-only : goal.returns-then-passes-clause-only
returns-then-passes-clause-only c = λ next step. stand_behind _ step.0 _ next c.behind.ensures (told _ _ (c.in_ok-edge.ensures.only step.0 step.1)) step.5

pub returns-clause-only : goal.returns-clause-only
returns-clause-only c = λ next step.
    let same = told c.in_ok-edge.edge.now step.0 (c.in_ok-edge.ensures.only step.0 step.1) in
    absurd (both_ways _ c.if-passes.false (c.passes.ensures.1 (step.2, subst (λ e. ShareMode e.forward_access c.args.mode) (sym same) step.3, subst (λ e. MayCome c.args.graph.now VEHICLES c.args.mode c.args.stand.last e) (sym same) step.4)))
