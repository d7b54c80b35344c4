use Rattle.std.proofs.Common.{◌≡◌, ◌+◌, ◌*◌, ◌^◌, ◌≤◌, length, drop}
use Rattle.tile_bytes.specs.Chains.{named_chains, chain_offsets, offsets_at}
use Rattle.tile_bytes.proofs.chain_section.check_offsets.Given as goal

abbrev pub invariant-loop-i : goal.invariant-loop-i
invariant-loop-i l =
    (offsets_at (l.at + 32 * l.i) (drop l.i l.edges) (chain_offsets l.offset (drop l.next l.chains)) ≡ offsets_at l.at l.edges (chain_offsets 0 l.chains))
    × (l.next + length (named_chains (drop l.i l.edges)) ≡ length l.chains)
    × (l.offset ≤ 2 ^ 64 * l.i)
    × (l.next ≤ l.i)
