use Rattle.folder_spec.proofs.WalksAgree.{same_roads}
use Rattle.folder_spec.proofs.laws.roads_agree.Goals as goal

pub returns : goal.returns
returns c = same_roads
