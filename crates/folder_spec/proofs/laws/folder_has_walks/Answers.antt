use Rattle.folder_spec.proofs.Headline.{folder_has_walks}
use Rattle.folder_spec.proofs.laws.folder_has_walks.Goals as goal

pub returns : goal.returns
returns c = folder_has_walks
