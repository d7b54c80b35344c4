use Rattle.std.proofs.Common.{◌≡◌, ◌++◌, take}
use Rattle.section_grammar.specs.WordBytes.{words_bytes}
use Rattle.tile_bytes.proofs.write_whole.push_words.Given as goal

abbrev pub invariant-loop-word : goal.invariant-loop-word
invariant-loop-word l = l.out.items ≡ l.fn.out.items ++ words_bytes (take l.word-index l.words)
