use Rattle.std.proofs.Common.{◌≡◌, ◌-◌, []}
use Rattle.section_grammar.specs.Reads.{read_many}
use Rattle.section_grammar.specs.Answers.{Check}
use Rattle.edge_info.specs.EntryReading.{point_at}
use Rattle.edge_info.proofs.entries.points_of.Given as goal

abbrev pub invariant-loop : goal.invariant-loop
invariant-loop l = read_many (point_at (Check 13 l.at)) (l.count - l.counter) l.points.items l.rest ≡ read_many (point_at (Check 13 l.at)) l.count [] l.fn.rest
