use Rattle.std.proofs.Common.{◌≡◌, ◌-◌}
use Rattle.section_grammar.specs.Reads.{read_many}
use Rattle.tile_bytes.specs.Items.{id_at}
use Rattle.tile_bytes.proofs.ids.ids_of.Given as goal

abbrev pub invariant-loop : goal.invariant-loop
invariant-loop l = read_many (id_at l.rule l.check l.end) (l.count - l.counter) l.ids.items l.rest ≡ read_many (id_at l.rule l.check l.end) l.count l.fn.ids.items l.bytes
