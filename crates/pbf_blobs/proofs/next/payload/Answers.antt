use Rattle.std.proofs.Common.{◌≡◌, ◌∙◌, ◌+◌, ◌≤◌, length, drop, sym, rules}
use Rattle.pbf_blobs.proofs.Bodied.{known_blob-by, bodied-payload}
use Rattle.pbf_blobs.proofs.next.payload.Goals as goal

pub returns-clause-bytes : goal.returns-clause-bytes
returns-clause-bytes g c =
    λ front size shows input place told at.
    let raw = c.in_ok-raw.raw.items in
    let whole : length c.args.start.now + c.args.left ≤ length raw = search rules in
    let same : c.from.result ≡ raw = search rules in
    let count : c.len-2.result ≡ length raw = search rules in
    bodied-payload c.args.head front c.args.start.now (drop place input) raw c.args.left c.requires.known size shows c.requires.size (c.in_ok-raw.ensures.bytes input place told at) whole
    ∙ sym (known_blob-by c.args.head raw c.len-2.result c.from.result count same)
