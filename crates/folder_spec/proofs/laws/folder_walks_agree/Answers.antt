use Rattle.folder_spec.proofs.FolderAgree.{same_folder_walks}
use Rattle.folder_spec.proofs.laws.folder_walks_agree.Goals as goal

pub returns : goal.returns
returns c = same_folder_walks
