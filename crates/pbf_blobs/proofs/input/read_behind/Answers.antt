use Rattle.std.proofs.Common.{◌≡◌, ◌∙◌, ap, ◌+◌, ◌-◌, ◌≤◌, ◌++◌, length, take, drop, ℕ, refl, replicate, arith, length-append, rules}
use Rattle.std.proofs.lemmas.List.{take_at, length-replicate}
use borrow.Rule.Slice.PartMut.{put_mid}
use Rattle.pbf_blobs.proofs.Filling.{behind, take-items, length-written}
use Rattle.pbf_blobs.proofs.input.read_behind.Goals as goal

pub returns-clause-bytes : goal.returns-clause-bytes
returns-clause-bytes g c =
    λ input place told at.
    let front = c.args.front.now in
    let got = c.read_full.new.buf in
    let read = c.in_ok-read.read in
    let buf = c.deref_mut.result.now in
    let made : buf ≡ front ++ replicate c.args.left 0 = c.deref_mut.ensures.value ∙ c.in-Ok.ensures in
    let size : length buf ≡ length front + c.args.left = ap length made ∙ length-append front (replicate c.args.left 0) ∙ omega (arith, length-replicate {A = ℕ} c.args.left 0) in
    let room : length got ≡ length buf - length front = search rules in
    let now : c.truncate.new.self.items ≡ take (length front + read) (take c.in-Ok.bytes.len (put_mid (length front) (length buf - length front) buf got ++ drop (length (put_mid (length front) (length buf - length front) buf got)) c.in-Ok.bytes.items)) = c.truncate.ensures.items in
    let most : read ≤ length got = c.in_ok-read.ensures.most in
    let written = length-written (length front) buf got (omega arith) room in
    let whole : length buf ≡ c.in-Ok.bytes.len = c.deref_mut.ensures.len in
    behind front buf got c.truncate.new.self.items (drop place input) (length buf - length front) read c.args.left
    (now ∙ take-items (length front + read) c.in-Ok.bytes.len (put_mid (length front) (length buf - length front) buf got) _ (omega arith) (omega arith))
    (ap (take (length front)) made ∙ take_at front (replicate c.args.left 0) (length front) refl)
    (omega arith) most (c.in_ok-read.ensures.bytes input place told at) (omega arith)
