use Rattle.std.proofs.Common.{◌≡◌, ◌<◌, ◌-◌, ◌∙◌, ap, subst, length, get_or, rules, arith, w64, FitsSigned}
use Rattle.std.proofs.lemmas.Int.{to_z-of_z}
use Rattle.osm_model.specs.declared.nodes.OsmNode.{OsmNode}
use Rattle.road_pieces.specs.NodeIndex.{bucket_of}
use Rattle.road_pieces.proofs.NodeBuckets.{takes_all, takes_widest}
use Rattle.road_pieces.proofs.node_index.find_shift.Goals as goal

pub returns-then-bucket-len-clause-few : goal.returns-then-bucket-len-clause-few
returns-then-bucket-len-clause-few c =
    let same = to_z-of_z w64 c.args.first c.ranges.first in
    let fits : FitsSigned w64 c.id_at-last.result = search rules in
    let own : c.bucket.result ≡ bucket_of c.args.first c.loop-shift.shift c.id_at-last.result = rw (same, to_z-of_z w64 c.id_at-last.result fits) at c.bucket.ensures in
    takes_all c.args.nodes.now _ _ c.id_at-last.result c.requires.first c.requires.rises (λ d. c.id_at-last.ensures d ∙ ap (λ n. (get_or c.args.nodes.now (n - 1) d).id) c.len-2.ensures) (subst (λ b. b < length c.args.nodes.now) own (omega arith))

pub returns-clause-few : goal.returns-clause-few
returns-clause-few c =
    let fits : FitsSigned w64 c.id_at-last.result = search rules in
    let last : (d : OsmNode) → c.id_at-last.result ≡ (get_or c.args.nodes.now (length c.args.nodes.now - 1) d).id =
    λ d. c.id_at-last.ensures d ∙ ap (λ n. (get_or c.args.nodes.now (n - 1) d).id) c.len-2.ensures in
    takes_all c.args.nodes.now _ _ c.id_at-last.result c.requires.first c.requires.rises last
    (takes_widest c.args.nodes.now _ c.id_at-last.result c.ranges.first fits c.requires.first (omega arith) last)
