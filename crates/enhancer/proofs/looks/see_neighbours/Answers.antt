use Rattle.std.proofs.Common.{◌<◌, sym, ap, ◌∙◌, subst}
use Rattle.std.specs.Prelude.{length}
use Rattle.bounded_flood.specs.Flood.{seen_all}
use Rattle.enhancer.specs.Graph.{same_node, ends_but}
use Rattle.enhancer.proofs.PlainRows.{ends-plain}
use Rattle.enhancer.proofs.AtHand.{edges-no_tile, edges-no_node, edges-node}
use Rattle.enhancer.proofs.looks.see_neighbours.Goals as goal

pub returns-in_default-clause-looked : goal.returns-in_default-clause-looked
returns-in_default-clause-looked c = λ ps holds.
    ap (λ es. seen_all same_node c.args.seen.now.items (ends_but c.args.left es))
    (sym (edges-no_tile c.args.places.now ps c.args.held.now c.args.level c.args.at c.in_default.ensures))

pub returns-in_default-find-clause-looked : goal.returns-in_default-find-clause-looked
returns-in_default-find-clause-looked c = λ ps holds.
    ap (λ es. seen_all same_node c.args.seen.now.items (ends_but c.args.left es))
    (sym (edges-no_node c.args.places.now ps c.args.held.now c.args.level c.args.at c.in-Some.j c.in-Some-held_at.h c.index-held-h.result
    holds c.in-Some.ensures c.in-Some-held_at.ensures c.in_default-find.ensures))

pub returns-then-see_ends-clause-looked : goal.returns-then-see_ends-clause-looked
returns-then-see_ends-clause-looked c = λ ps holds.
    c.see_ends.ensures.all c.if-see_ends.true
    ∙ ap (seen_all same_node c.args.seen.now.items) (sym (ends-plain c.args.left c.node.result.edges))
    ∙ ap (λ es. seen_all same_node c.args.seen.now.items (ends_but c.args.left es))
    (sym (edges-node c.args.places.now ps c.args.held.now c.args.level c.args.at c.in-Some.j c.in-Some-held_at.h c.in-Some-find.i c.index-held-h.result c.node.result
    holds c.in-Some.ensures c.in-Some-held_at.ensures c.in-Some-find.ensures c.node.ensures))

pub returns-else-see_ends-clause-full : goal.returns-else-see_ends-clause-full
returns-else-see_ends-clause-full c = λ ps holds.
    subst (λ xs. 63 < length (seen_all same_node c.args.seen.now.items xs))
    (sym (ends-plain c.args.left c.node.result.edges)
    ∙ ap (ends_but c.args.left)
    (sym (edges-node c.args.places.now ps c.args.held.now c.args.level c.args.at c.in-Some.j c.in-Some-held_at.h c.in-Some-find.i c.index-held-h.result c.node.result
    holds c.in-Some.ensures c.in-Some-held_at.ensures c.in-Some-find.ensures c.node.ensures)))
    (c.see_ends.ensures.full c.if-see_ends.false)
