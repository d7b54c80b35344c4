use Rattle.std.proofs.Common.{subst, sym, refl}
use Rattle.std.proofs.lemmas.Bool.{both_ways}
use Rattle.tile_walks.specs.Steps.{HasEdge}
use Rattle.tile_walks.proofs.Options.{told, none_some}
use Rattle.tile_walks.proofs.Stands.{to_starts, of_starts}
use Rattle.tile_walks.proofs.steps.starts_at.Goals as goal

pub returns-in-Some-node : goal.returns-in-Some-node
returns-in-Some-node c = (
  λ yes. to_starts _ _ _ c.in-Some.n c.in-Some.is _ c.in-Some-node.ensures.found (c.has_edge.ensures.0 yes),
  λ starts. let (r, one, has) = of_starts c.args.graph.now c.args.at c.args.id c.in-Some.n c.in-Some.is starts in
      c.has_edge.ensures.1 (subst (λ r. HasEdge c.in-Some.n r c.args.id) (sym (told _ _ (c.in-Some-node.ensures.only r one))) has),
)

pub returns-in-None-node : goal.returns-in-None-node
returns-in-None-node c = (
  λ no. absurd (both_ways _ refl no),
  λ starts. let (r, one, has) = of_starts c.args.graph.now c.args.at c.args.id c.in-Some.n c.in-Some.is starts in
      absurd (none_some r (c.in-None-node.ensures.only r one)),
)
