use Rattle.std.proofs.Common.{◌≡◌, ◌++◌, take}
use Rattle.edge_info.specs.Texts.{texts_bytes}
use Rattle.edge_info.proofs.writes.push_texts.Given as goal

abbrev pub invariant-loop-text : goal.invariant-loop-text
invariant-loop-text l = l.out.items ≡ l.fn.out.items ++ texts_bytes (take l.text-index l.texts)
