use Rattle.std.proofs.Common.{◌≡◌, ◌-◌, []}
use Rattle.section_grammar.specs.Reads.{read_many}
use Rattle.section_grammar.specs.Answers.{Check}
use Rattle.edge_info.specs.EntryReading.{name_at}
use Rattle.edge_info.proofs.entries.names_of.Given as goal

abbrev pub invariant-loop : goal.invariant-loop
invariant-loop l = read_many (name_at (Check 13 l.at) l.texts) (l.count - l.counter) l.names.items l.rest ≡ read_many (name_at (Check 13 l.at) l.texts) l.count [] l.fn.rest
