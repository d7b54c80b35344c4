use Rattle.std.proofs.Common.{◌≡◌, ℕ, ◌*◌, ◌≤◌, List, take, sum}
use Rattle.phase_samples.proofs.sums.SumsPhase.rewrite.Given as goal

abbrev pub invariant-loop-j : goal.invariant-loop-j
invariant-loop-j g l =
    record {
      stays : g.S.Parts.stays l.fn.parts l.parts;
      lost : g.S.Parts.lost l.fn.parts ≤ g.S.Parts.lost l.parts;
      total : (ps : List ℕ) → g.S.Parts.shows l.fn.parts ps → l.total ≡ sum (take l.j ps);
      few : l.total ≤ l.j * 4294967295;
    }
