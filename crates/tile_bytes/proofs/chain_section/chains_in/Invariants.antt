use Rattle.std.proofs.Common.{◌≡◌, ◌-◌, [], length}
use Rattle.section_grammar.specs.Reads.{read_many}
use Rattle.tile_bytes.specs.Chains.{chain_at}
use Rattle.tile_bytes.proofs.chain_section.chains_in.Given as goal

abbrev pub invariant-loop : goal.invariant-loop
invariant-loop l =
    (read_many (chain_at l.level l.end) (l.count - l.counter) l.chains l.rest ≡ read_many (chain_at l.level l.end) l.count [] l.bytes)
    × (length l.chains ≡ l.counter)
