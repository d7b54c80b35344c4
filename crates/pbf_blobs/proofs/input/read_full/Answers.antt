use Rattle.std.proofs.Common.{◌≡◌, ◌∙◌, ◌-◌, length, arith, rules}
use Rattle.host_port.proofs.HostFrames.{reads_then}
use Rattle.pbf_blobs.proofs.Filling.{grown, ended}
use Rattle.pbf_blobs.proofs.input.read_full.Goals as goal

pub returns-then-count-eq0-clause-bytes : goal.returns-then-count-eq0-clause-bytes
returns-then-count-eq0-clause-bytes g c =
    let size : length c.read.new.buf ≡ length c.loop-filled.buf - c.loop-filled.filled = search rules in
    ended _ _ _ _ _ _ c.loop-filled.invariant.filling c.in_ok-count.ensures.bytes c.if-count-eq0.true (omega arith) size

pub loop-filled-preserved : goal.loop-filled-preserved
loop-filled-preserved g c =
    let size : length c.read.new.buf ≡ length c.loop-filled.buf - c.loop-filled.filled = search rules in
    let before = c.loop-filled.invariant in
    record {
      filling = grown _ _ _ _ _ _ _ before.filling c.in_ok-count.ensures.bytes c.in_ok-count.ensures.most.0 size c.in_ok-count.ensures.moved;
      frame = reads_then _ _ _ before.frame c.read.ensures.frame;
      no_fault = c.in_ok-count.ensures.faults ∙ before.no_fault;
    }
