use Rattle.pattern_search.specs.Words.{Includes}
use Rattle.pattern_search.proofs.MostLaw.{most_first}
use Rattle.pattern_search.proofs.laws.firsts_tell.Goals as goal

pub returns : goal.returns
returns c = λ cap some next most is firsts. most_first cap some (λ q. Includes (next q)) most is firsts
