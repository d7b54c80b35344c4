use Rattle.std.proofs.Common.{rules, w64, FitsSigned}
use Rattle.std.proofs.lemmas.Int.{to_z-of_z}
use Rattle.road_pieces.proofs.NodeBuckets.{begins_first}
use Rattle.road_pieces.proofs.node_index.first_id.Goals as goal

pub returns-else-len-eq0 : goal.returns-else-len-eq0
returns-else-len-eq0 c =
    let fits : FitsSigned w64 c.id_at.result = search rules in
    rw (to_z-of_z w64 c.id_at.result fits) (begins_first _ _ c.requires c.id_at.ensures)
