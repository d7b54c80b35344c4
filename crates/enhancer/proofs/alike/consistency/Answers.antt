use Rattle.std.proofs.Common.{sym, ap, ◌∙◌}
use Rattle.enhancer.specs.Graph.{end_of}
use Rattle.enhancer.specs.NamesInCommon.{alike_bits}
use Rattle.enhancer.proofs.PlainRows.{alike-plain, alike-none}
use Rattle.enhancer.proofs.AtHand.{edges-no_tile, edges-no_node, edges-node}
use Rattle.enhancer.proofs.alike.consistency.Goals as goal

pub returns-in_default-clause-known : goal.returns-in_default-clause-known
returns-in_default-clause-known c = λ ps holds.
    let at = end_of c.args.edge.now in
    sym (alike-none c.args.pieces.now c.args.edge.now.place)
    ∙ ap (alike_bits c.args.pieces.now c.args.edge.now.place) (sym (edges-no_tile c.args.places.now ps c.args.held.now c.args.level at c.in_default.ensures))

pub returns-in_default-find-clause-known : goal.returns-in_default-find-clause-known
returns-in_default-find-clause-known c = λ ps holds.
    let at = end_of c.args.edge.now in
    sym (alike-none c.args.pieces.now c.args.edge.now.place)
    ∙ ap (alike_bits c.args.pieces.now c.args.edge.now.place) (sym (edges-no_node c.args.places.now ps c.args.held.now c.args.level at c.in-Some.j c.in-Some-held_at.h c.index-held-h.result
    holds c.in-Some.ensures c.in-Some-held_at.ensures c.in_default-find.ensures))

pub returns-clause-known : goal.returns-clause-known
returns-clause-known c = λ ps holds.
    let at = end_of c.args.edge.now in
    c.bits_at.ensures
    ∙ sym (alike-plain c.args.pieces.now c.args.edge.now.place c.node.result.edges)
    ∙ ap (alike_bits c.args.pieces.now c.args.edge.now.place) (sym (edges-node c.args.places.now ps c.args.held.now c.args.level at c.in-Some.j c.in-Some-held_at.h c.in-Some-find.i c.index-held-h.result c.node.result
    holds c.in-Some.ensures c.in-Some-held_at.ensures c.in-Some-find.ensures c.node.ensures))
