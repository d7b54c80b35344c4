use Rattle.std.proofs.Common.{◌∙◌, ◌+◌, ap, rules, arith, w64, FitsSigned}
use Rattle.std.proofs.lemmas.Int.{to_z-of_z}
use Rattle.std.proofs.lemmas.List.{get_or_default}
use Rattle.road_pieces.specs.NodeIndex.{bucket_of}
use Rattle.road_pieces.proofs.NodeBuckets.{in_bucket, no_bucket}
use Rattle.road_pieces.proofs.node_index.NodeIndex.find.Goals as goal

pub returns-then-bucket-saturating_sub-clause-none : goal.returns-then-bucket-saturating_sub-clause-none
returns-then-bucket-saturating_sub-clause-none c =
    let fits : FitsSigned w64 c.args.self.now.first = search rules in
    let same = to_z-of_z w64 c.args.self.now.first fits in
    no_bucket _ _ _ _ c.bucket-bucket.result _ c.requires.index (c.bucket-bucket.ensures ∙ ap (λ f. bucket_of f c.args.self.now.shift c.args.id.now) same) (omega arith)

pub find_within-requires-clause-only : goal.find_within-requires-clause-only
find_within-requires-clause-only c =
    let fits : FitsSigned w64 c.args.self.now.first = search rules in
    let same = to_z-of_z w64 c.args.self.now.first fits in
    in_bucket _ _ _ _ c.bucket-bucket.result _ _ _ c.requires.index (c.bucket-bucket.ensures ∙ ap (λ f. bucket_of f c.args.self.now.shift c.args.id.now) same) (omega arith) (c.index.ensures ∙ get_or_default c.args.self.now.starts.items c.bucket-bucket.result c.index.result.now 0 (omega arith)) (c.index-2.ensures ∙ get_or_default c.args.self.now.starts.items (c.bucket-bucket.result + 1) c.index-2.result.now 0 (omega arith))
