use Rattle.folder_spec.proofs.OneFolder.{one_folder}
use Rattle.folder_spec.proofs.laws.one_folder.Goals as goal

pub returns : goal.returns
returns c = one_folder
