use Rattle.std.proofs.Common.{◌≤◌, List}
use Rattle.work_tile.specs.WorkRows.{WorkRows}
use Rattle.enhancer.specs.Tells.{Holds, HeldRise}
use Rattle.enhancer.proofs.phase.not_thru.Given as goal

abbrev pub invariant-loop : goal.invariant-loop
invariant-loop g l =
    record {
      stays : g.S.Parts.stays l.fn.parts l.parts;
      lost : g.S.Parts.lost l.fn.parts ≤ g.S.Parts.lost l.parts;
      held : (ps : List WorkRows) → g.S.Parts.shows l.fn.parts ps → Holds l.fn.held.items ps → Holds l.held.items ps;
      rise : HeldRise l.held.items;
    }
