use Rattle.std.proofs.Common.{◌≡◌, ◌-◌, ◌*◌, ◌≤◌, []}
use Rattle.section_grammar.specs.Reads.{read_many}
use Rattle.tile_bytes.specs.Items.{node_record_at}
use Rattle.tile_bytes.specs.Sums.{SumsUp}
use Rattle.tile_bytes.proofs.items.nodes_of.Given as goal

abbrev pub invariant-loop : goal.invariant-loop
invariant-loop l =
    (read_many (node_record_at l.level l.tile l.end) (l.count - l.counter) l.nodes.items l.rest ≡ read_many (node_record_at l.level l.tile l.end) l.count [] l.bytes)
    × SumsUp l.nodes.items l.sums
    × (l.sums.edges ≤ 255 * l.counter)
    × (l.sums.transitions ≤ 255 * l.counter)
