use Rattle.std.proofs.Common.{◌≡◌, ◌++◌, take}
use Rattle.section_grammar.specs.WordBytes.{words_bytes}
use Rattle.tile_bytes.proofs.write.push_ids.Given as goal

abbrev pub invariant-loop-id : goal.invariant-loop-id
invariant-loop-id l = l.out.items ≡ l.fn.out.items ++ words_bytes (take l.id-index l.ids)
