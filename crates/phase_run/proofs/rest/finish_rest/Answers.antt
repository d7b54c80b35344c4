use Rattle.std.proofs.Common.{◌≡◌, ◌+◌, ◌<◌, length, map, slice_set, true, ap, sym, ◌∙◌, subst, arith}
use Rattle.std.proofs.lemmas.List.{length-map}
use Rattle.std.proofs.Math.ListN.{get_elem?}
use Rattle.phase_run.specs.Inner.Rest.{ByFlags}
use Rattle.phase_run.proofs.Finishing.{AllBefore, apart, shows-parts, not-done, one-finished, done-before, set-before, all-finished}
use Rattle.phase_run.proofs.rest.finish_rest.Goals.{then-not-index+in_ok-tile, else-not-index}
use Rattle.phase_run.proofs.rest.finish_rest.Goals as goal

pub loop-i-init : goal.loop-i-init
loop-i-init g c =
    let world = c.args.world.now.value.items in
    record {
      by = apart world (g.P.Phase.finished c.args.phase.now world) c.args.closed.items c.in_ok-tiles.tiles.items c.in_ok-done.done.items c.requires.closed c.in_ok-tiles.ensures (c.in_ok-done.ensures ∙ ap (λ cs. map (λ x. x.done) cs) c.as_slice.ensures.value);
      before = λ k none. absurd (omega (arith, none));
    }

pub finished_tile-requires-clause-parts : goal.finished_tile-requires-clause-parts
finished_tile-requires-clause-parts g c =
    let world = c.args.world.now.value.items in
    let readable = g.P.Phase.readable c.args.phase.now in
    ap (λ ts. map readable ts) c.as_slice-then-not-index.ensures.value
    ∙ shows-parts readable world (g.P.Phase.finished c.args.phase.now world) c.loop-i.tiles.items c.loop-i.done.items c.loop-i.invariant.by
    (g.met.P.Phase.same_parts c.args.phase.now world c.requires.fits)

pub finished_tile-requires-clause-here : goal.finished_tile-requires-clause-here
finished_tile-requires-clause-here g c =
    let world = c.args.world.now.value.items in
    ap (λ ts. get_elem? ts c.loop-i.i) c.as_slice-then-not-index.ensures.value
    ∙ not-done world (g.P.Phase.finished c.args.phase.now world) c.loop-i.tiles.items c.loop-i.done.items c.loop-i.i c.index.result.now c.loop-i.invariant.by
    (omega (arith, c.loop-i-test.true, c.loop-i.auto.i-end, c.len-i-end.ensures, c.loop-i.invariant.by.flags, c.in_ok-tiles.tiles.ok, ap length c.in_ok-tiles.ensures, length-map c.args.closed.items (λ x. x.tile), c.requires.closed.many))
    (sym c.index.ensures ∙ c.if-not-index.true)

pub loop-i-preserved : goal.loop-i-preserved
loop-i-preserved g c =
    let world = c.args.world.now.value.items in
    let finished = g.P.Phase.finished c.args.phase.now world in
    let inv = c.loop-i.invariant in
    let inside : c.loop-i.i < length world = omega (arith, c.loop-i-test.true, c.loop-i.auto.i-end, c.len-i-end.ensures, c.in_ok-tiles.tiles.ok, ap length c.in_ok-tiles.ensures, length-map c.args.closed.items (λ x. x.tile), c.requires.closed.many) in
    elim c.if-not-index.branch [
      | then-not-index+in_ok-tile w ↦
          let ts : c.if-not-index.tiles.items ≡ slice_set c.loop-i.tiles.items c.loop-i.i w.in_ok-tile.tile = ap (λ v. v.items) w.tiles-is ∙ w.put_finished.ensures.tiles in
          let ds : c.if-not-index.done.items ≡ slice_set c.loop-i.done.items c.loop-i.i true = ap (λ v. v.items) w.done-is ∙ w.put_finished.ensures.done in
          record {
            by =
                subst (λ xs. ByFlags world finished xs c.if-not-index.done.items) (sym ts)
                (subst (λ bs. ByFlags world finished (slice_set c.loop-i.tiles.items c.loop-i.i w.in_ok-tile.tile) bs) (sym ds)
                (one-finished world finished c.loop-i.tiles.items c.loop-i.done.items c.loop-i.i w.in_ok-tile.tile inv.by (omega (arith, inside, inv.by.many)) w.in_ok-tile.ensures));
            before = subst (λ bs. AllBefore bs (c.loop-i.i + 1)) (sym ds) (set-before c.loop-i.done.items c.loop-i.i inv.before (omega (arith, inside, inv.by.flags)));
          }
      | else-not-index w ↦
          let ts : c.if-not-index.tiles.items ≡ c.loop-i.tiles.items = ap (λ v. v.items) w.tiles-is in
          let ds : c.if-not-index.done.items ≡ c.loop-i.done.items = ap (λ v. v.items) w.done-is in
          record {
            by =
                subst (λ xs. ByFlags world finished xs c.if-not-index.done.items) (sym ts)
                (subst (λ bs. ByFlags world finished c.loop-i.tiles.items bs) (sym ds) inv.by);
            before =
                subst (λ bs. AllBefore bs (c.loop-i.i + 1)) (sym ds)
                (done-before c.loop-i.done.items c.loop-i.i c.index.result.now inv.before (omega (arith, inside, inv.by.flags))
                (sym c.index.ensures ∙ w.if-not-index.false));
          }
    ]

pub returns : goal.returns
returns g c =
    let world = c.args.world.now.value.items in
    let inv = c.loop-i.invariant in
    all-finished world (g.P.Phase.finished c.args.phase.now world) c.loop-i.tiles.items c.loop-i.done.items c.loop-i.i inv.by
    (g.met.P.Phase.as_many c.args.phase.now world c.requires.fits) inv.before
    (omega (arith, c.loop-i-test.false, c.loop-i.auto.i-end, c.len-i-end.ensures, inv.by.many, c.in_ok-tiles.tiles.ok, ap length c.in_ok-tiles.ensures, length-map c.args.closed.items (λ x. x.tile), c.requires.closed.many))
