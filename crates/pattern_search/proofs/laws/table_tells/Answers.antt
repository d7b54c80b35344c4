use Rattle.pattern_search.proofs.MostLaw.{table_begins}
use Rattle.pattern_search.proofs.laws.table_tells.Goals as goal

pub returns : goal.returns
returns c = table_begins
