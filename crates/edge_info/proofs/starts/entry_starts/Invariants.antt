use Rattle.std.proofs.Common.{◌≡◌, ◌/◌, length, take}
use Rattle.edge_info.specs.Entries.{infos_bytes, starts_of}
use Rattle.edge_info.specs.Starts.{MarkStarts}
use Rattle.edge_info.proofs.starts.entry_starts.Given as goal

abbrev pub invariant-loop-i : goal.invariant-loop-i
invariant-loop-i l =
    MarkStarts l.marks.items (starts_of (take l.i l.infos))
    × (length l.marks.items ≡ l.size / 4)
    × (l.at ≡ length (infos_bytes (take l.i l.infos)))
