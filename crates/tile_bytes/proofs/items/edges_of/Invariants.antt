use Rattle.std.proofs.Common.{◌≡◌, ◌-◌, ◌≤◌, [], length}
use Rattle.section_grammar.specs.Reads.{read_many}
use Rattle.tile_bytes.specs.Items.{edge_record_at}
use Rattle.tile_bytes.specs.Chains.{named_chains}
use Rattle.tile_bytes.proofs.items.edges_of.Given as goal

abbrev pub invariant-loop : goal.invariant-loop
invariant-loop l =
    (read_many (edge_record_at l.level l.end) (l.count - l.counter) l.edges.items l.rest ≡ read_many (edge_record_at l.level l.end) l.count [] l.bytes)
    × (l.shortcuts ≡ length (named_chains l.edges.items))
    × (l.shortcuts ≤ l.counter)
