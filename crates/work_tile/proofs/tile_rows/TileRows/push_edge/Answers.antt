use Rattle.work_tile.proofs.TilePut.{edges_rise, edge_put}
use Rattle.work_tile.proofs.tile_rows.TileRows.push_edge.Goals as goal

pub invariant_of-self : goal.invariant_of-self
invariant_of-self c = edges_rise c.push.result c.self.inside.nodes c.self.inside.edges c.push.new.self c.args.edge c.push.ensures.ok c.push.ensures.err c.self.invariant

pub returns-clause-ok : goal.returns-clause-ok
returns-clause-ok c = edge_put c.push.result c.self.inside.level c.self.inside.tile c.self.inside.nodes c.self.inside.edges c.push.new.self c.args.edge _ c.self.view_is c.push.ensures.ok c.self.invariant
