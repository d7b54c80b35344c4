use Rattle.std.specs.Prelude.{◌<◌}
use Rattle.pattern_search.specs.Words.{Before}
use Rattle.pattern_search.proofs.Counting.{never_before, no_longer}
use Rattle.pattern_search.proofs.laws.rising_is_short.Goals as goal

pub returns : goal.returns
returns c = λ ws others rises within. no_longer (Before (λ p q. p < q)) never_before ws others rises within
