use Rattle.std.proofs.Common.{◌≡◌, ◌-◌, length}
use Rattle.host_port.specs.HostState.{OnlyReads}
use Rattle.pbf_blobs.proofs.Filling.{Filling}
use Rattle.pbf_blobs.proofs.input.read_full.Given as goal

-- The buffer is filled so far, by calls that only read and of which none failed.
abbrev pub invariant-loop-filled : goal.invariant-loop-filled
invariant-loop-filled g l =
    let state = g.H.Host.state in
    record {
      filling : Filling (state l.fn.host).told (state l.host).told l.filled l.buf;
      frame : OnlyReads (state l.fn.host) (state l.host);
      no_fault : (state l.host).read_faults ≡ (state l.fn.host).read_faults;
    }

abbrev pub decreases-loop-filled : goal.decreases-loop-filled
decreases-loop-filled g l = length l.initial.buf - l.filled
