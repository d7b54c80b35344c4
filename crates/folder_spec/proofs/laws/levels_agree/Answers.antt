use Rattle.folder_spec.proofs.WalksAgree.{same_levels}
use Rattle.folder_spec.proofs.laws.levels_agree.Goals as goal

pub returns : goal.returns
returns c = same_levels
