use Rattle.std.proofs.Common.{◌≡◌, ◌++◌, take}
use Rattle.edge_info.specs.Entries.{infos_bytes}
use Rattle.edge_info.proofs.writes.push_infos.Given as goal

abbrev pub invariant-loop-i : goal.invariant-loop-i
invariant-loop-i l = l.out.items ≡ l.fn.out.items ++ infos_bytes (take l.i l.infos)
