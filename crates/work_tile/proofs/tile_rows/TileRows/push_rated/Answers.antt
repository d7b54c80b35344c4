use Rattle.work_tile.proofs.TilePut.{nodes_rise, node_put}
use Rattle.work_tile.proofs.tile_rows.TileRows.push_rated.Goals as goal

pub invariant_of-self : goal.invariant_of-self
invariant_of-self c = nodes_rise c.push.result c.self.inside.nodes c.push.new.self _ _ c.push.ensures.ok c.push.ensures.err c.self.invariant c.len-from.ensures

pub returns-clause-ok : goal.returns-clause-ok
returns-clause-ok c = node_put c.push.result c.self.inside.level c.self.inside.tile c.self.inside.edges c.self.inside.nodes c.push.new.self _ _ c.self.view_is c.push.ensures.ok c.len-from.ensures
