-- The places of the numbers so far.
use Rattle.std.proofs.Common.{◌≡◌}
use Rattle.number_index.specs.Indexed.{heads_below, places_below}
use Rattle.number_index.proofs.index.gather.Given as goal

abbrev pub invariant-loop-number : goal.invariant-loop-number
invariant-loop-number l =
    record {
      heads : l.heads.items ≡ heads_below l.numbers l.number;
      places : l.places.items ≡ places_below l.numbers l.number;
    }
