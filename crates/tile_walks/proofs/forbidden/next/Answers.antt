use Rattle.std.proofs.Common.{◌∷◌, drop, sym, subst, arith}
use Rattle.std.specs.Prelude.{◌↔◌}
use Rattle.tile_walks.specs.Forbidden.{Begin}
use Rattle.tile_walks.proofs.Beginnings.{through}
use Rattle.tile_walks.proofs.forbidden.next.Goals as goal

pub returns-in-Transition-clause-some : goal.returns-in-Transition-clause-some
returns-in-Transition-clause-some c = (
  omega (arith, c.requires),
  λ rest. subst (λ item. Begin (drop c.args.k c.args.edges.now) (item ∷ rest) ↔ Begin (drop c.args.k c.args.edges.now) rest) (sym c.in-Transition.is)
      (through c.args.edges.now c.args.k c.in-Transition.from c.in-Transition.place rest c.requires),
)
