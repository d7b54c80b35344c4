use Rattle.std.proofs.Common.{ℕ, get_or, sym, ◌∙◌, arith}
use Rattle.std.specs.Prelude.{nat_eq}
use Rattle.std.proofs.lemmas.Bool.{eqb-true}
use Rattle.bounded_flood.specs.Flood.{seen_all}
use Rattle.bounded_flood.specs.FlatGraph.{ends_without}
use Rattle.bounded_flood.specs.declared.links.Link.{Link}
use Rattle.bounded_flood.proofs.TooManyEnds.{too_many_ends}
use Rattle.bounded_flood.proofs.marks.see_ends.Goals as goal

pub returns-then-is_full-clause-full : goal.returns-then-is_full-clause-full
returns-then-is_full-clause-full c = λ _.
    let none : Link = record { end = 0; piece = 0 } in
    let k : ℕ = c.loop-link.link-index in
    let y : ℕ = (get_or c.args.links.now k none).end in
    too_many_ends c.loop-link.seen.items (seen_all nat_eq c.args.seen.now.items (ends_without c.args.left c.args.links.now)) c.args.links.now k c.args.left none
    (omega arith) c.if-link-left.true
    (sym (c.loop-link.invariant.marked.shows y (omega (arith, c.requires.inside k none (omega arith), c.loop-link.invariant.same))) ∙ c.if-not-marks-link.true)
    (omega (arith, eqb-true _ 63 (sym c.is_full.ensures.value ∙ c.if-is_full.true)))
    c.loop-link.invariant.rest
