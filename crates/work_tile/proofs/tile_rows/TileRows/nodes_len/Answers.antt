use Rattle.std.proofs.Common.{length, sym, ap, ◌∙◌}
use Rattle.work_tile.proofs.NodesOver.{many_nodes}
use Rattle.work_tile.proofs.tile_rows.TileRows.nodes_len.Goals as goal

pub returns : goal.returns
returns c = c.len.ensures ∙ sym (many_nodes c.self.inside.edges c.self.inside.nodes) ∙ ap (λ r. length r.nodes) c.self.view_is
