use Rattle.std.proofs.Common.{◌≡◌, ◌++◌, take}
use Rattle.section_grammar.specs.WordBytes.{halves_bytes}
use Rattle.edge_info.proofs.writes.push_names.Given as goal

abbrev pub invariant-loop-name : goal.invariant-loop-name
invariant-loop-name l = l.out.items ≡ l.fn.out.items ++ halves_bytes (take l.name-index l.names)
