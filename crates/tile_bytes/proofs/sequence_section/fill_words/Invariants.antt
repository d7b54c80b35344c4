use Rattle.std.proofs.Common.{◌≡◌, ◌++◌, ◌-◌, ◌*◌, ◌≤◌, length}
use Rattle.section_grammar.specs.WordBytes.{words_in}
use Rattle.tile_bytes.proofs.sequence_section.fill_words.Given as goal

abbrev pub invariant-loop : goal.invariant-loop
invariant-loop l =
    (l.words.items ++ words_in (l.count - l.counter) l.rest ≡ words_in l.count l.bytes)
    × (8 * (l.count - l.counter) ≤ length l.rest)
