use Rattle.std.proofs.Common.{◌≡◌, ◌-◌, ◌≤◌, ℕ, List, [], length}
use Rattle.section_grammar.specs.Reads.{read_many}
use Rattle.edge_info.specs.TextReading.{text_at, out_of_order}
use Rattle.edge_info.specs.TextLoops.{IsFirstLate, HasSeen}
use Rattle.edge_info.proofs.texts.texts_of.Given as goal

abbrev pub invariant-loop-number : goal.invariant-loop-number
invariant-loop-number l =
    ((names : List ℕ) (there : ℕ) → IsFirstLate (out_of_order names there) l.late → read_many (text_at l.end names there) (l.count - l.number) l.texts.items l.rest ≡ read_many (text_at l.end names there) l.count [] l.section)
    × HasSeen l.seen l.texts.items
    × (length l.texts.items ≡ l.number)
    × (l.number ≤ l.late)
