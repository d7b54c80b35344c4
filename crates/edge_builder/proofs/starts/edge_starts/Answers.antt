use Rattle.std.proofs.Common.{◌∙◌, ◌++◌, ◌∷◌, [], ap, sym, subst, arith, take_all}
use Rattle.edge_builder.specs.BaseRows.{junction_place, IsJoined}
use Rattle.edge_builder.proofs.RowLemmas.{starts_of, starts_are, starts_more}
use Rattle.edge_builder.proofs.starts.edge_starts.Goals as goal

pub find_ends-start-requires-clause-joined : goal.find_ends-start-requires-clause-joined
find_ends-start-requires-clause-joined c = subst (IsJoined c.args.junctions.now) (sym c.at.ensures) (c.requires.joined c.loop-i.i c.at.result (omega (arith, c.loop-i-test.true, c.len-i-end.ensures)))

pub loop-i-preserved : goal.loop-i-preserved
loop-i-preserved c =
    let js = c.args.junctions.now in
    let start = c.find_ends-start.result.0 in
    let end = c.find_ends-start.result.1 in
    c.in_ok-push-2.ensures.items ∙ (ap (λ ks. ks ++ end ∷ []) c.in_ok-push.ensures.items
    ∙ starts_more js c.args.pieces.now c.loop-i.i c.at.result c.loop-i.starts.items start end (omega (arith, c.loop-i-test.true, c.len-i-end.ensures)) c.loop-i.invariant
    (c.find_ends-start.ensures.start ∙ ap (λ p. junction_place js p.start) c.at.ensures)
    (c.find_ends-start.ensures.end ∙ ap (λ p. junction_place js p.end) c.at.ensures))

pub returns : goal.returns
returns c = c.loop-i.invariant ∙ (ap (starts_of c.args.junctions.now) (take_all c.loop-i.i c.args.pieces.now (omega arith)) ∙ starts_are c.args.junctions.now c.args.pieces.now)
