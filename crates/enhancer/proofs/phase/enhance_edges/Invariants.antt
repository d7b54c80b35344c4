use Rattle.std.proofs.Common.{◌≡◌, ◌≤◌, List, map, take}
use Rattle.work_tile.specs.WorkRows.{WorkRows}
use Rattle.enhancer.specs.Enhanced.{enhanced_edge}
use Rattle.enhancer.specs.Tells.{Holds, HeldRise}
use Rattle.enhancer.proofs.phase.enhance_edges.Given as goal

abbrev pub invariant-loop-k : goal.invariant-loop-k
invariant-loop-k g l =
    record {
      stays : g.S.Parts.stays l.fn.parts l.parts;
      lost : g.S.Parts.lost l.fn.parts ≤ g.S.Parts.lost l.parts;
      held : (ps : List WorkRows) → g.S.Parts.shows l.fn.parts ps → Holds l.fn.held.items ps → Holds l.held.items ps;
      rise : HeldRise l.held.items;
      edges : (ps : List WorkRows) → g.S.Parts.shows l.fn.parts ps → Holds l.fn.held.items ps
          → l.edges.items ≡ map (enhanced_edge l.pieces l.places ps l.level l.fn.tile l.node.osm) (take l.k l.node.edges);
    }
