use Rattle.std.proofs.Common.{◌≡◌, ◌∙◌, ◌+◌, length, drop, sym, ap, subst, arith, rules}
use Rattle.pbf_blobs.specs.Answers.{AnswersFault}
use Rattle.pbf_blobs.specs.declared.fault.PbfFault.TheVariants as faults
use Rattle.pbf_blobs.specs.Next.{Outcome, Fails}
use Rattle.pbf_blobs.proofs.Filling.{place-moved}
use Rattle.pbf_blobs.proofs.Starts.{count-read, next_of-ends, next_of-cut, next_of-long, next_of-framed}
use Rattle.pbf_blobs.proofs.Within.{ends-at_end, gives-within}
use Rattle.pbf_blobs.proofs.next.next_blob.Goals as goal

pub returns-then-count-eq0-clause-bytes : goal.returns-then-count-eq0-clause-bytes
returns-then-count-eq0-clause-bytes g c =
    λ input told at.
    let size : length c.read_full.new.buf ≡ 4 = search rules in
    let read = (count-read c.in_ok-count.count 4 c.read_full.new.buf (drop c.args.at input) c.in_ok-count.ensures.most size (c.in_ok-count.ensures.bytes input c.args.at told at)).0 (omega (arith, c.if-count-eq0.true)) in
    next_of-ends c.args.at (drop c.args.at input) (omega (arith, read, c.if-count-eq0.true))

pub returns-then-count-lt4-clause-bytes : goal.returns-then-count-lt4-clause-bytes
returns-then-count-lt4-clause-bytes g c =
    λ input told at.
    let size : length c.read_full.new.buf ≡ 4 = search rules in
    let read = (count-read c.in_ok-count.count 4 c.read_full.new.buf (drop c.args.at input) c.in_ok-count.ensures.most size (c.in_ok-count.ensures.bytes input c.args.at told at)).0 c.if-count-lt4.true in
    next_of-cut c.args.at (drop c.args.at input) (omega (arith, read, c.if-count-eq0.false)) (omega (arith, read, c.if-count-lt4.true))

pub returns-then-length-ge-HEADER_LIMIT-clause-bytes : goal.returns-then-length-ge-HEADER_LIMIT-clause-bytes
returns-then-length-ge-HEADER_LIMIT-clause-bytes g c =
    λ input told at.
    let buf = c.read_full.new.buf in
    let size : length buf ≡ 4 = search rules in
    let four : c.in_ok-count.count ≡ 4 = omega (arith, size, c.in_ok-count.ensures.most, c.if-count-lt4.false) in
    let filled = c.in_ok-count.ensures.bytes input c.args.at told at in
    let same : c.from.result ≡ c.from_be_bytes-length.result = search rules in
    next_of-long c.args.at c.args.at c.in_ok-count.count c.from_be_bytes-length.result buf input size four filled c.from_be_bytes-length.ensures c.if-length-ge-HEADER_LIMIT.true
    ∙ ap (λ len. Fails (faults.HeaderTooLong c.args.at len)) (sym same)

pub returns-in-Ok-clause-bytes : goal.returns-in-Ok-clause-bytes
returns-in-Ok-clause-bytes g c =
    λ input told at.
    let buf = c.read_full.new.buf in
    let size : length buf ≡ 4 = search rules in
    let four : c.in_ok-count.count ≡ 4 = omega (arith, size, c.in_ok-count.ensures.most, c.if-count-lt4.false) in
    let filled = c.in_ok-count.ensures.bytes input c.args.at told at in
    next_of-framed c.args.at c.args.at c.in_ok-count.count c.from_be_bytes-length.result buf input size four filled c.from_be_bytes-length.ensures c.if-length-ge-HEADER_LIMIT.false
    ∙ c.in-Ok.ensures.bytes input (c.args.at + c.in_ok-count.count) (c.read_full.ensures.frame.input ∙ told) (place-moved _ _ c.in_ok-count.count c.args.at c.in_ok-count.ensures.moved at)

pub returns-in-Err-clause-bytes : goal.returns-in-Err-clause-bytes
returns-in-Err-clause-bytes g c =
    λ input told at.
    let buf = c.read_full.new.buf in
    let size : length buf ≡ 4 = search rules in
    let four : c.in_ok-count.count ≡ 4 = omega (arith, size, c.in_ok-count.ensures.most, c.if-count-lt4.false) in
    let filled = c.in_ok-count.ensures.bytes input c.args.at told at in
    subst (λ (o : Outcome). AnswersFault c.in-Err.fault o) (sym (next_of-framed c.args.at c.args.at c.in_ok-count.count c.from_be_bytes-length.result buf input size four filled c.from_be_bytes-length.ensures c.if-length-ge-HEADER_LIMIT.false))
    (c.in-Err.ensures.bytes input (c.args.at + c.in_ok-count.count) (c.read_full.ensures.frame.input ∙ told) (place-moved _ _ c.in_ok-count.count c.args.at c.in_ok-count.ensures.moved at))

pub returns-then-count-eq0-clause-within : goal.returns-then-count-eq0-clause-within
returns-then-count-eq0-clause-within g c =
    λ input told at. ends-at_end input c.args.at (returns-then-count-eq0-clause-bytes g c input told at)

pub returns-in-Ok-clause-within : goal.returns-in-Ok-clause-within
returns-in-Ok-clause-within g c =
    λ input told at. gives-within input c.args.at c.in-Ok.blob (returns-in-Ok-clause-bytes g c input told at)
