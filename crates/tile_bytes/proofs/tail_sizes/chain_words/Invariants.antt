use Rattle.std.proofs.Common.{◌≡◌, ◌*◌, ◌^◌, ◌≤◌, take}
use Rattle.tile_bytes.specs.Chains.{words_of_chains}
use Rattle.tile_bytes.proofs.tail_sizes.chain_words.Given as goal

abbrev pub invariant-loop-i : goal.invariant-loop-i
invariant-loop-i l = (l.words ≡ words_of_chains (take l.i l.chains)) × (l.words ≤ 2 ^ 64 * l.i)
