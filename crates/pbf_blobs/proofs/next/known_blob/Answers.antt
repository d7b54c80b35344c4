use Rattle.std.proofs.Common.{◌≡◌, ◌∙◌, ◌+◌, length, drop, subst, List, ℕ, arith, rules}
use Rattle.pbf_blobs.specs.Answers.{AnswersBlob}
use Rattle.pbf_blobs.specs.Next.{bodied}
use Rattle.pbf_blobs.proofs.Filling.{place-moved}
use Rattle.pbf_blobs.proofs.Bodied.{bodied-cut}
use Rattle.pbf_blobs.proofs.Starts.{count-read, front-joined}
use Rattle.pbf_blobs.proofs.next.known_blob.Goals as goal

pub returns-then-count-room-clause-bytes : goal.returns-then-count-room-clause-bytes
returns-then-count-room-clause-bytes g c =
    λ input place told at.
    let size : length c.read_full.new.buf ≡ c.min-room.result = search rules in
    let read = (count-read c.in_ok-count.count c.min-room.result c.read_full.new.buf (drop place input) c.in_ok-count.ensures.most size (c.in_ok-count.ensures.bytes input place told at)).0 c.if-count-room.true in
    bodied-cut c.args.head (drop place input) (omega (arith, read, c.if-count-room.true, c.min-room.ensures))

pub returns-clause-bytes : goal.returns-clause-bytes
returns-clause-bytes g c =
    λ input place told at.
    let size : length c.read_full.new.buf ≡ c.min-room.result = search rules in
    let whole : c.in_ok-count.count ≡ c.min-room.result = omega (arith, size, c.in_ok-count.ensures.most, c.if-count-room.false) in
    let same = front-joined c.in_ok-count.count c.min-room.result place c.read_full.new.buf _ input size whole (c.in_ok-count.ensures.bytes input place told at) in
    subst (λ (xs : List ℕ). AnswersBlob c.after_front.result (bodied c.args.head xs)) same
    (c.after_front.ensures.bytes input (place + c.in_ok-count.count) (c.read_full.ensures.frame.input ∙ told) (place-moved _ _ c.in_ok-count.count place c.in_ok-count.ensures.moved at))
