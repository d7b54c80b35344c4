use Rattle.folder_spec.proofs.TilesAgree.{same_tiles}
use Rattle.folder_spec.proofs.laws.tiles_agree.Goals as goal

pub returns : goal.returns
returns c = same_tiles
