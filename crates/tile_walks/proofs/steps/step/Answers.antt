use Rattle.std.proofs.Common.{subst}
use Rattle.way_tags.specs.declared.modes.TheConstants.{VEHICLES}
use Rattle.tile_walks.specs.Steps.{Step}
use Rattle.tile_walks.proofs.steps.step.Goals as goal

pub returns-in-Edge-clause-only : goal.returns-in-Edge-clause-only
returns-in-Edge-clause-only c = λ next s. c.over_edge.ensures.only next (subst (λ item. Step c.args.graph.now VEHICLES c.args.mode c.args.stand item next) c.in-Edge.is s)

pub returns-in-Transition-clause-only : goal.returns-in-Transition-clause-only
returns-in-Transition-clause-only c = λ next s. c.over_transition.ensures.only next (subst (λ item. Step c.args.graph.now VEHICLES c.args.mode c.args.stand item next) c.in-Transition.is s)
