use Rattle.std.proofs.Common.{◌≡◌, ◌∙◌, ap, sym, get_or, true, arith, Less, Equal, Greater}
use Rattle.std.specs.Cmp.{int_ranked, signed_Decides}
use Rattle.std.specs.Ordering.{int_eq, is_eq}
use Rattle.std.proofs.lemmas.List.Folds.{list_any_at}
use Rattle.road_pieces.specs.Lines.{no_node}
use Rattle.road_pieces.proofs.NodePlaces.{place_is, only_above, only_below, none_within}
use Rattle.road_pieces.proofs.places.find_within.Goals as goal

pub returns-then-is_eq-clause-place : goal.returns-then-is_eq-clause-place
returns-then-is_eq-clause-place c =
    let same : int_eq (get_or c.args.nodes.now c.args.guess no_node).id c.args.id.now ≡ true =
    ap is_eq (sym (c.cmp_id_at.ensures no_node)) ∙ (sym c.is_eq.ensures ∙ c.if-is_eq.true) in
    place_is _ _ no_node _ c.requires.rises (omega (arith, c.requires.only.inside)) ((signed_Decides _ _).0 same)

pub returns-in-Equal-clause-place : goal.returns-in-Equal-clause-place
returns-in-Equal-clause-place c =
    place_is _ _ no_node _ c.requires.rises (omega (arith, c.loop-low.invariant.inside)) (int_ranked _ _ Equal (c.in-Equal.ensures no_node))

pub loop-low-preserved-in-Less : goal.loop-low-preserved-in-Less
loop-low-preserved-in-Less c =
    only_above _ _ _ _ _ no_node c.requires.rises (omega arith) (int_ranked _ _ Less (c.in-Less.ensures no_node)) c.loop-low.invariant

pub loop-low-preserved : goal.loop-low-preserved
loop-low-preserved c =
    only_below _ _ _ _ _ no_node c.requires.rises (omega arith) (int_ranked _ _ Greater (c.in-Greater.ensures no_node)) c.loop-low.invariant

pub returns-clause-none : goal.returns-clause-none
returns-clause-none c = none_within _ _ _ _ c.loop-low-test.false c.loop-low.invariant

pub returns-then-is_eq-clause-some : goal.returns-then-is_eq-clause-some
returns-then-is_eq-clause-some c =
    list_any_at (λ node. int_eq node.id c.args.id.now) c.args.nodes.now c.args.guess no_node (omega (arith, c.requires.only.inside))
    (ap is_eq (sym (c.cmp_id_at.ensures no_node)) ∙ (sym c.is_eq.ensures ∙ c.if-is_eq.true))

pub returns-in-Equal-clause-some : goal.returns-in-Equal-clause-some
returns-in-Equal-clause-some c =
    list_any_at (λ node. int_eq node.id c.args.id.now) c.args.nodes.now _ no_node (omega (arith, c.loop-low.invariant.inside))
    (ap is_eq (sym (c.in-Equal.ensures no_node)))
