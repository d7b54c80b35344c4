use Rattle.std.proofs.Common.{◌≡◌, ◌+◌, ◌-◌}
use Rattle.edge_info.specs.TextReading.{texts_there}
use Rattle.edge_info.proofs.texts.count_there.Given as goal

abbrev pub invariant-loop : goal.invariant-loop
invariant-loop l = (l.there ≡ l.counter) × (l.there + texts_there (l.count - l.counter) l.rest ≡ texts_there l.count l.section)
