use Rattle.pattern_search.specs.Words.{Includes}
use Rattle.pattern_search.proofs.MostLaw.{most_line}
use Rattle.pattern_search.proofs.laws.most_tells.Goals as goal

pub returns : goal.returns
returns c = λ cap some next most is p line. most_line cap some (λ q. Includes (next q)) most is p line
