use Rattle.std.proofs.Common.{◌+◌, ◌<◌, [], ◌∷◌, ◌++◌, get_or, sym, ap, subst, ◌∙◌, arith, rules}
use Rattle.std.specs.Prelude.{nat_eq, slice_get, slice_index_or, length, not, false}
use Rattle.std.proofs.lemmas.Option.{slice_get-get_or}
use Rattle.bounded_flood.specs.Flood.{seen_all}
use Rattle.bounded_flood.specs.FlatGraph.{ends_without, near_without}
use Rattle.bounded_flood.proofs.Stages.{spread-start}
use Rattle.bounded_flood.proofs.FloodEnds.{ends-met, ends-looked, ends-full, goes_on}
use Rattle.bounded_flood.proofs.flood.flood.Goals as goal

pub loop-n-init : goal.loop-n-init
loop-n-init c = record {
  same = search rules;
  marked = c.see_new.ensures.marked;
  few = search rules;
  so_far = c.see_new.ensures.seen ∙ ap (λ s. s ++ c.args.v ∷ []) c.requires.none
      ∙ sym (spread-start nat_eq (near_without c.args.starts.now c.args.links.now c.args.left) c.args.v);
}

pub returns-then-marks-u-clause-result : goal.returns-then-marks-u-clause-result
returns-then-marks-u-clause-result c =
    ends-met (near_without c.args.starts.now c.args.links.now c.args.left) c.args.u c.args.v c.loop-n.n c.loop-n.seen.items c.loop-n.invariant.so_far
    (slice_index_or c.loop-n.marks c.args.u false) (omega arith)
    (c.loop-n.invariant.marked.shows c.args.u (omega (arith, c.requires.u, c.loop-n.invariant.same))) c.if-marks-u.true

pub returns-then-n-len-clause-result : goal.returns-then-n-len-clause-result
returns-then-n-len-clause-result c =
    sym (ap not c.if-marks-u.false)
    ∙ ends-looked (near_without c.args.starts.now c.args.links.now c.args.left) c.args.u c.args.v c.loop-n.n c.loop-n.seen.items c.loop-n.invariant.so_far
    (slice_index_or c.loop-n.marks c.args.u false) (omega arith)
    (c.loop-n.invariant.marked.shows c.args.u (omega (arith, c.requires.u, c.loop-n.invariant.same))) (omega arith)

pub returns-then-not-see_ends-clause-result : goal.returns-then-not-see_ends-clause-result
returns-then-not-see_ends-clause-result c =
    ends-full (near_without c.args.starts.now c.args.links.now c.args.left) c.args.u c.args.v c.loop-n.n c.loop-n.seen.items c.loop-n.invariant.so_far
    (get_or c.as_slice.result.now c.loop-n.n 0) (omega arith)
    (ap (λ s. slice_get s c.loop-n.n) (sym c.as_slice.ensures.value)
    ∙ slice_get-get_or c.as_slice.result.now c.loop-n.n 0 (omega (arith, ap length c.as_slice.ensures.value)))
    (subst (λ ls. 63 < length (seen_all nat_eq c.loop-n.seen.items (ends_without c.args.left ls))) c.links_at.ensures
    (c.see_ends.ensures.full c.if-not-see_ends.true))

pub loop-n-preserved : goal.loop-n-preserved
loop-n-preserved c = record {
  same = search rules;
  marked = c.see_ends.ensures.marked;
  few = c.see_ends.ensures.few;
  so_far =
      goes_on (near_without c.args.starts.now c.args.links.now c.args.left) c.args.u c.args.v c.loop-n.n c.loop-n.seen.items c.loop-n.invariant.so_far
      c.see_ends.new.seen.items (get_or c.as_slice.result.now c.loop-n.n 0)
      (ap (λ s. slice_get s c.loop-n.n) (sym c.as_slice.ensures.value)
      ∙ slice_get-get_or c.as_slice.result.now c.loop-n.n 0 (omega (arith, ap length c.as_slice.ensures.value)))
      (c.see_ends.ensures.all c.if-not-see_ends.false
      ∙ ap (λ ls. seen_all nat_eq c.loop-n.seen.items (ends_without c.args.left ls)) c.links_at.ensures)
      (c.loop-n.n + 1) (omega arith);
}

pub returns-clause-result : goal.returns-clause-result
returns-clause-result c =
    ends-looked (near_without c.args.starts.now c.args.links.now c.args.left) c.args.u c.args.v c.loop-n.n c.loop-n.seen.items c.loop-n.invariant.so_far
    (slice_index_or c.loop-n.marks c.args.u false) (omega arith)
    (c.loop-n.invariant.marked.shows c.args.u (omega (arith, c.requires.u, c.loop-n.invariant.same))) (omega (arith, c.loop-n.invariant.few))
