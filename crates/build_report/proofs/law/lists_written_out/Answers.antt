use Rattle.std.proofs.Common.{refl}
use Rattle.std.specs.Fmt.{digits}
use Rattle.graph_id.specs.TilePath.{group, groups, tile_path_of}
use Rattle.build_report.proofs.law.lists_written_out.Goals as goal

pub returns-clause-none : goal.returns-clause-none
returns-clause-none c = refl

pub returns-clause-one : goal.returns-clause-one
unfolding digits group groups tile_path_of
returns-clause-one c = refl
