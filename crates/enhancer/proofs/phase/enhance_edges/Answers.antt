use Rattle.std.proofs.Common.{ap, arith, ◌∙◌}
use Rattle.enhancer.specs.Enhanced.{enhanced_edge}
use Rattle.enhancer.proofs.MapNext.{map_next}
use Rattle.enhancer.proofs.phase.enhance_edges.Goals as goal

pub returns-in_err-enhanced-clause-held : goal.returns-in_err-enhanced-clause-held
returns-in_err-enhanced-clause-held g c = λ ps shown before.
    c.enhance_edge.ensures.held ps (g.met.S.Parts.stays_shown c.args.parts.now c.loop-k.parts ps c.loop-k.invariant.stays shown) (c.loop-k.invariant.held ps shown before)

pub returns-in-Err-clause-stays : goal.returns-in-Err-clause-stays
returns-in-Err-clause-stays g c = g.met.S.Parts.stays_on c.args.parts.now c.loop-k.parts c.enhance_edge.new.parts c.loop-k.invariant.stays c.enhance_edge.ensures.stays

pub returns-in-Err-clause-held : goal.returns-in-Err-clause-held
returns-in-Err-clause-held g c = λ ps shown before.
    c.enhance_edge.ensures.held ps (g.met.S.Parts.stays_shown c.args.parts.now c.loop-k.parts ps c.loop-k.invariant.stays shown) (c.loop-k.invariant.held ps shown before)

pub loop-k-preserved : goal.loop-k-preserved
loop-k-preserved g c = record {
  stays = g.met.S.Parts.stays_on c.args.parts.now c.loop-k.parts c.enhance_edge.new.parts c.loop-k.invariant.stays c.enhance_edge.ensures.stays;
  lost = omega (arith, c.loop-k.invariant.lost, c.enhance_edge.ensures.lost);
  held = λ ps shown before.
      c.enhance_edge.ensures.held ps (g.met.S.Parts.stays_shown c.args.parts.now c.loop-k.parts ps c.loop-k.invariant.stays shown) (c.loop-k.invariant.held ps shown before);
  rise = c.enhance_edge.ensures.rise;
  edges = λ ps shown before.
      c.in-Ok.ensures.items
      ∙ map_next (enhanced_edge c.args.pieces.now c.args.places.now ps c.args.level c.args.tile c.args.node.now.osm) c.loop-k.edges.items c.args.node.now.edges c.loop-k.k c.edge-edge.result c.in_ok-enhanced.enhanced
      (omega arith) c.edge-edge.ensures
      (c.in_ok-enhanced.ensures.edge ps (g.met.S.Parts.stays_shown c.args.parts.now c.loop-k.parts ps c.loop-k.invariant.stays shown) (c.loop-k.invariant.held ps shown before)
      ∙ ap (λ u. enhanced_edge c.args.pieces.now c.args.places.now ps c.args.level u.tile u.osm c.edge-edge.result) c.name_in-from.ensures)
      (c.loop-k.invariant.edges ps shown before);
}
