use Rattle.std.proofs.Common.{◌≡◌, ◌∙◌, ap, sym, get_or, true, arith, Less, Equal, Greater}
use Rattle.std.specs.Cmp.{int_ranked, signed_Decides}
use Rattle.std.specs.Ordering.{int_eq, is_eq}
use Rattle.edge_builder.proofs.JunctionLemmas.{no_junction, place_below, place_above, place_is}
use Rattle.edge_builder.proofs.starts.find_junction.Goals as goal

pub returns-then-is_eq-clause-place : goal.returns-then-is_eq-clause-place
returns-then-is_eq-clause-place c =
    let same : int_eq (get_or c.args.junctions.now c.args.guess no_junction).osm c.args.id.now ≡ true =
    ap is_eq (sym (c.rank.ensures no_junction)) ∙ (sym c.is_eq.ensures ∙ c.if-is_eq.true) in
    sym (place_is _ _ _ no_junction c.requires.rise (omega arith) ((signed_Decides _ _).0 same))

pub returns-in-Equal-clause-place : goal.returns-in-Equal-clause-place
returns-in-Equal-clause-place c =
    sym (place_is _ _ _ no_junction c.requires.rise (omega (arith, c.loop-low.invariant)) (int_ranked _ _ Equal (c.in-Equal.ensures no_junction)))

pub loop-low-preserved-in-Less : goal.loop-low-preserved-in-Less
loop-low-preserved-in-Less c =
    let h = place_below c.args.junctions.now _ c.args.id.now no_junction c.requires.rise c.requires.there (omega (arith, c.loop-low.invariant)) (int_ranked _ _ Less (c.in-Less.ensures no_junction)) in
    (omega (arith, h), c.loop-low.invariant.1, c.loop-low.invariant.2)

pub loop-low-preserved : goal.loop-low-preserved
loop-low-preserved c =
    let h = place_above c.args.junctions.now _ c.args.id.now no_junction c.requires.rise c.requires.there (omega (arith, c.loop-low.invariant)) (int_ranked _ _ Greater (c.in-Greater.ensures no_junction)) in
    (c.loop-low.invariant.0, h, omega (arith, c.loop-low.invariant))

pub returns : goal.returns
returns c = absurd (omega (arith, c.loop-low.invariant, c.loop-low-test.false))
