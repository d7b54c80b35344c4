use Rattle.std.proofs.Common.{◌≡◌, take}
use Rattle.mjolnir_cli.specs.Puts.{PutsAll}
use Rattle.host_port.specs.HostState.{OnlyPuts}
use Rattle.mjolnir_cli.proofs.put.put_files.Given as goal

-- The files so far are put, and no fault was counted.
abbrev pub invariant-loop-file : goal.invariant-loop-file
invariant-loop-file g l =
    let state = g.H.Host.state in
    record {
      puts_all : PutsAll (take l.file-index l.files) (state l.fn.host).told (state l.host).told;
      frame : OnlyPuts (state l.fn.host) (state l.host);
      no_fault : (state l.host).put_faults ≡ (state l.fn.host).put_faults;
    }
