use Rattle.std.proofs.Common.{rules, arith, w64, FitsSigned}
use Rattle.std.proofs.lemmas.Int.{to_z-of_z}
use Rattle.road_pieces.proofs.NodeBuckets.{more_started, index_whole}
use Rattle.road_pieces.proofs.node_index.NodeIndex.new.Goals as goal

pub loop-place-preserved : goal.loop-place-preserved
loop-place-preserved c =
    let fits : FitsSigned w64 c.first_id-first.result = search rules in
    let same = to_z-of_z w64 c.first_id-first.result fits in
    let id : FitsSigned w64 c.id_at-id.result = search rules in
    rw same (more_started c.args.nodes.now _ _ _ _ _ c.id_at-id.result c.first_id-first.ensures (rw same at c.find_shift-shift.ensures.few) c.requires.rises (omega arith) c.id_at-id.ensures (rw same at c.loop-place.invariant) (rw (c.bucket.ensures, same, to_z-of_z w64 c.id_at-id.result id) at c.in_ok-start_buckets.ensures))

pub returns : goal.returns
returns c =
    let fits : FitsSigned w64 c.first_id-first.result = search rules in
    let same = to_z-of_z w64 c.first_id-first.result fits in
    rw same (index_whole _ _ _ _ _ _ _ c.find_shift-shift.ensures.narrow (omega arith) (omega arith) (rw same at c.loop-place.invariant) c.in_ok-push.ensures.items)
