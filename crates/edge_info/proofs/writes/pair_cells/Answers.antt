use Rattle.std.proofs.Common.{refl}
use Rattle.section_grammar.specs.WordBytes.{half_bytes}
use Rattle.edge_info.proofs.writes.pair_cells.Goals as goal

pub returns : goal.returns
unfolding half_bytes
returns c = rw (c.to_le_bytes.ensures, c.to_le_bytes-2.ensures) refl
