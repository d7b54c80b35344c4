use Rattle.std.proofs.Common.{length, sym, ap, ◌∙◌}
use Rattle.work_tile.specs.EdgeWords.{work_edge_of}
use Rattle.work_tile.proofs.Packed.{many_rows}
use Rattle.work_tile.proofs.edge_rows.EdgeRows.len.Goals as goal

pub returns : goal.returns
returns c = sym (many_rows work_edge_of 6 c.self.inside.count c.self.inside.words.items) ∙ ap length c.self.view_is
