use Rattle.std.proofs.Common.{◌≡◌, ◌+◌, ◌*◌, ◌^◌, ◌≤◌, length, take}
use Rattle.edge_info.specs.Texts.{texts_bytes}
use Rattle.edge_info.proofs.writes.texts_size.Given as goal

abbrev pub invariant-loop-text : goal.invariant-loop-text
invariant-loop-text l = (l.size ≡ length (texts_bytes (take l.text-index l.texts))) × (l.size ≤ (2 ^ 64 + 3) * l.text-index)
