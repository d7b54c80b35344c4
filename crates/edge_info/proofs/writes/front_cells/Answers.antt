use Rattle.std.proofs.Common.{refl}
use Rattle.section_grammar.specs.WordBytes.{word_bytes, half_bytes}
use Rattle.edge_info.proofs.writes.front_cells.Goals as goal

pub returns : goal.returns
unfolding word_bytes half_bytes
returns c = rw (c.to_le_bytes.ensures, c.to_le_bytes-2.ensures, c.to_le_bytes-3.ensures, c.to_le_bytes-4.ensures) refl
