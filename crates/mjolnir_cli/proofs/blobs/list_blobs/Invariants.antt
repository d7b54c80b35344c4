use Rattle.std.proofs.Common.{◌≡◌, ℕ, List, length, Some, ◌-◌, ◌≤◌}
use Rattle.std.specs.String.{string_bytes}
use Rattle.host_port.specs.HostState.{OnlyReads}
use Rattle.mjolnir_cli.proofs.SoFar.{ListedTo}
use Rattle.mjolnir_cli.proofs.blobs.list_blobs.Given as goal

-- The place that is told is the one that the loop knows, and the text has the lines of the blobs before it.
abbrev pub invariant-loop-text : goal.invariant-loop-text
invariant-loop-text g l =
    let state = g.H.Host.state in
    record {
      low : l.at ≤ 536870912;
      place : (state l.fn.host).told.place ≡ Some 0 → (state l.host).told.place ≡ Some l.at;
      inside : (bytes : List ℕ) → (state l.fn.host).told.input ≡ Some bytes → (state l.fn.host).told.place ≡ Some 0 → l.at ≤ length bytes;
      listed : (bytes : List ℕ) → (state l.fn.host).told.input ≡ Some bytes → (state l.fn.host).told.place ≡ Some 0 → ListedTo bytes l.at (string_bytes l.text);
      frame : OnlyReads (state l.fn.host) (state l.host);
      no_fault : (state l.host).read_faults ≡ (state l.fn.host).read_faults;
    }

abbrev pub decreases-loop-text : goal.decreases-loop-text
decreases-loop-text g l = 536870912 - l.at
