use Rattle.std.proofs.Common.{◌≡◌, ◌≤◌, List, map, take}
use Rattle.work_tile.specs.WorkRows.{WorkRows}
use Rattle.enhancer.specs.Enhanced.{FitPlaces, enhanced_node}
use Rattle.enhancer.specs.Tells.{Holds, HeldRise}
use Rattle.enhancer.proofs.phase.enhance_rows.Given as goal

abbrev pub invariant-loop-i : goal.invariant-loop-i
invariant-loop-i g l =
    record {
      stays : g.S.Parts.stays l.fn.parts l.parts;
      lost : g.S.Parts.lost l.fn.parts ≤ g.S.Parts.lost l.parts;
      held : (ps : List WorkRows) → g.S.Parts.shows l.fn.parts ps → Holds l.held.items ps;
      rise : HeldRise l.held.items;
      level : l.done.level ≡ l.rows.level;
      tile : l.done.tile ≡ l.rows.tile;
      done : (ps : List WorkRows) → g.S.Parts.shows l.fn.parts ps → FitPlaces l.places ps
          → l.done.nodes ≡ map (enhanced_node l.pieces l.places ps l.rows.level l.rows.tile) (take l.i l.rows.nodes);
    }
