use Rattle.std.proofs.Common.{◌+◌, ◌∷◌, ◌++◌, [], get_or, pos, sym, ap, ◌∙◌, not, arith}
use Rattle.std.specs.Prelude.{slice_get, length}
use Rattle.std.proofs.lemmas.Option.{slice_get-get_or}
use Rattle.bounded_flood.specs.Flood.{is_seen}
use Rattle.bounded_flood.proofs.Stages.{spread-start}
use Rattle.enhancer.specs.declared.names.NodeName.{NodeName}
use Rattle.enhancer.specs.Graph.{same_node, near}
use Rattle.enhancer.proofs.floods.side_of.Goals as goal
use Rattle.enhancer.proofs.Sides.{side-met, side-ended, side-next, side-full}

pub loop-n-init : goal.loop-n-init
loop-n-init c = λ ps holds.
    c.push.ensures.items ∙ ap (λ s. s ++ c.args.v ∷ []) c.new-seen.ensures
    ∙ sym (spread-start same_node (near c.args.places.now ps c.args.level c.args.left) c.args.v)

pub returns-then-has_seen-clause-known : goal.returns-then-has_seen-clause-known
returns-then-has_seen-clause-known c = λ ps holds.
    side-met c.args.places.now ps c.args.level c.args.left c.args.u c.args.v c.loop-n.n c.loop-n.seen.items (c.loop-n.invariant ps holds)
    c.has_seen.result (omega arith) (c.has_seen.ensures ∙ ap (λ s. is_seen same_node c.args.u s) c.as_slice.ensures.value) c.if-has_seen.true

pub returns-then-n-len-clause-known : goal.returns-then-n-len-clause-known
returns-then-n-len-clause-known c = λ ps holds.
    sym (ap not c.if-has_seen.false)
    ∙ side-ended c.args.places.now ps c.args.level c.args.left c.args.u c.args.v c.loop-n.n c.loop-n.seen.items (c.loop-n.invariant ps holds)
    c.has_seen.result (omega arith) (c.has_seen.ensures ∙ ap (λ s. is_seen same_node c.args.u s) c.as_slice.ensures.value) (omega arith)

pub returns-in-Full-clause-known : goal.returns-in-Full-clause-known
returns-in-Full-clause-known c = λ ps holds.
    let none : NodeName = record { tile = 0; osm = pos 0 } in
    let at : NodeName = get_or c.as_slice-in-loop-n.result.now c.loop-n.n none in
    side-full c.args.places.now ps c.args.level c.args.left c.args.u c.args.v c.loop-n.n c.loop-n.seen.items (c.loop-n.invariant ps holds)
    at (omega arith)
    (ap (λ s. slice_get s c.loop-n.n) (sym c.as_slice-in-loop-n.ensures.value) ∙ slice_get-get_or c.as_slice-in-loop-n.result.now c.loop-n.n none (omega (arith, ap length c.as_slice-in-loop-n.ensures.value)))
    (c.in-Full.ensures.full ps holds)

pub loop-n-preserved : goal.loop-n-preserved
loop-n-preserved c = λ ps holds.
    let none : NodeName = record { tile = 0; osm = pos 0 } in
    let at : NodeName = get_or c.as_slice-in-loop-n.result.now c.loop-n.n none in
    side-next c.args.places.now ps c.args.level c.args.left c.args.u c.args.v c.loop-n.n c.loop-n.seen.items (c.loop-n.invariant ps holds)
    c.see_neighbours.new.seen.items at
    (ap (λ s. slice_get s c.loop-n.n) (sym c.as_slice-in-loop-n.ensures.value) ∙ slice_get-get_or c.as_slice-in-loop-n.result.now c.loop-n.n none (omega (arith, ap length c.as_slice-in-loop-n.ensures.value)))
    (c.in-Looked.ensures.looked ps holds) (c.loop-n.n + 1) (omega arith)

pub returns-clause-known : goal.returns-clause-known
returns-clause-known c = λ ps holds.
    side-ended c.args.places.now ps c.args.level c.args.left c.args.u c.args.v c.loop-n.n c.loop-n.seen.items (c.loop-n.invariant ps holds)
    c.has_seen-2.result (omega arith) (c.has_seen-2.ensures ∙ ap (λ s. is_seen same_node c.args.u s) c.as_slice-2.ensures.value) (omega (arith, ap length c.as_slice-2.ensures.value, c.as_slice-2.ensures.fits))
