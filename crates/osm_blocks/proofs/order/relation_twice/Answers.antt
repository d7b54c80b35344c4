use Rattle.std.proofs.Common.{rules, FitsSigned, w64, ◌≤◌, ◌-◌, length, drop, sym, ◌∙◌, arith, length-drop, pos, []}
use Rattle.std.proofs.lemmas.Int.{to_z-of_z}
use Rattle.osm_model.specs.declared.relations.OsmRelation.{OsmRelation}
use Rattle.osm_blocks.specs.Extracts.{relation_id}
use Rattle.osm_blocks.proofs.Scans.{short_unlike, twice_here, twice_later}
use Rattle.osm_blocks.proofs.order.relation_twice.Goals as goal

none : OsmRelation
none = record { id = pos 0; tags = []; members = [] }

pub returns-then-is_eq : goal.returns-then-is_eq
returns-then-is_eq c =
    let first : FitsSigned w64 c.id_at-id.result = search rules in
    let second : FitsSigned w64 c.id_at.result = search rules in
    sym (c.loop-i.invariant ∙ twice_here relation_id c.args.relations.now c.loop-i.i none _ _ _ _ (omega arith) (omega arith) (to_z-of_z w64 _ first ∙ c.id_at-id.ensures none) (to_z-of_z w64 _ second ∙ c.id_at.ensures none) c.cmp.ensures c.is_eq.ensures c.if-is_eq.true)

pub loop-i-preserved : goal.loop-i-preserved
loop-i-preserved c =
    let first : FitsSigned w64 c.id_at-id.result = search rules in
    let second : FitsSigned w64 c.id_at.result = search rules in
    c.loop-i.invariant ∙ twice_later relation_id c.args.relations.now c.loop-i.i none _ _ _ _ (omega arith) (omega arith) (to_z-of_z w64 _ first ∙ c.id_at-id.ensures none) (to_z-of_z w64 _ second ∙ c.id_at.ensures none) c.cmp.ensures c.is_eq.ensures c.if-is_eq.false

pub returns : goal.returns
returns c =
    let short : length (drop (c.loop-i.i - 1) c.args.relations.now) ≤ 1 = omega (arith, length-drop (c.loop-i.i - 1) c.args.relations.now) in
    sym (c.loop-i.invariant ∙ short_unlike relation_id (drop (c.loop-i.i - 1) c.args.relations.now) short)
