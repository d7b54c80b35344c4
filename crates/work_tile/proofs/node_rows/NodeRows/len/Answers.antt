use Rattle.std.proofs.Common.{length, sym, ap, ◌∙◌}
use Rattle.work_tile.specs.NodeWords.{work_node_of}
use Rattle.work_tile.proofs.Packed.{many_rows}
use Rattle.work_tile.proofs.node_rows.NodeRows.len.Goals as goal

pub returns : goal.returns
returns c = sym (many_rows work_node_of 3 c.self.inside.count c.self.inside.words.items) ∙ ap length c.self.view_is
