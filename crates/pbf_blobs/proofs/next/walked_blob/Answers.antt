use Rattle.std.proofs.Common.{◌≡◌, ◌+◌, ◌≤◌, List, ℕ, length, drop, sym, subst, rules}
use Rattle.pbf_blobs.specs.Answers.{AnswersBlob}
use Rattle.pbf_blobs.specs.Next.{Outcome, paid, payload_of}
use Rattle.pbf_blobs.proofs.Bodied.{bodied-walked}
use Rattle.pbf_blobs.proofs.next.walked_blob.Goals as goal

pub returns-clause-bytes : goal.returns-clause-bytes
returns-clause-bytes g c =
    λ input place told at.
    let body = c.in_ok-body.body.items in
    let whole : length c.args.front.now + c.args.left ≤ length body = search rules in
    let same : c.deref.result.now ≡ body = search rules in
    let answers : AnswersBlob c.blob_with_payload.result (paid c.args.head (payload_of c.args.head.body_at body)) =
    subst (λ (xs : List ℕ). AnswersBlob c.blob_with_payload.result (paid c.args.head (payload_of c.args.head.body_at xs))) same c.blob_with_payload.ensures.bytes in
    subst (λ (o : Outcome). AnswersBlob c.blob_with_payload.result o)
    (sym (bodied-walked c.args.head c.args.front.now (drop place input) body c.args.left c.requires.known c.requires.size (c.in_ok-body.ensures.bytes input place told at) whole))
    answers
