use Rattle.std.proofs.Common.{◌≡◌, ◌*◌, ◌^◌, ◌≤◌, take}
use Rattle.tile_bytes.specs.Sequences.{words_of_sequences}
use Rattle.tile_bytes.proofs.tail_sizes.sequence_words.Given as goal

abbrev pub invariant-loop-i : goal.invariant-loop-i
invariant-loop-i l = (l.words ≡ words_of_sequences (take l.i l.sequences)) × (l.words ≤ 2 ^ 64 * l.i)
