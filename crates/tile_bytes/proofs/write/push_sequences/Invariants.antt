use Rattle.std.proofs.Common.{◌≡◌, ◌++◌, take}
use Rattle.std.specs.List.{flat_map}
use Rattle.tile_bytes.specs.Sequences.{sequence_bytes}
use Rattle.tile_bytes.proofs.write.push_sequences.Given as goal

abbrev pub invariant-loop-i : goal.invariant-loop-i
invariant-loop-i l = l.out.items ≡ l.fn.out.items ++ flat_map sequence_bytes (take l.i l.sequences)
