use Rattle.std.proofs.Common.{sym}
use Rattle.section_grammar.specs.WordBytes.{word_bytes}
use Rattle.section_grammar.proofs.WordLaws.{four_words_bytes}
use Rattle.section_grammar.proofs.writes.record_bytes.Goals as goal

pub returns : goal.returns
unfolding word_bytes
returns c = rw (c.to_le_bytes.ensures, c.to_le_bytes-2.ensures, c.to_le_bytes-3.ensures, c.to_le_bytes-4.ensures) (sym (four_words_bytes c.args.a c.args.b c.args.c c.args.d))
