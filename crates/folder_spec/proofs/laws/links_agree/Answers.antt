use Rattle.folder_spec.proofs.WalksAgree.{same_links}
use Rattle.folder_spec.proofs.laws.links_agree.Goals as goal

pub returns : goal.returns
returns c = same_links
