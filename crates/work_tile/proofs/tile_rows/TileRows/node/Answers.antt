use Rattle.std.proofs.Common.{◌<◌, length, get_or, refl, ap, ◌∙◌, arith}
use Rattle.std.specs.Prelude.{slice_range}
use Rattle.work_tile.specs.WorkRows.{WorkNode, rated_node}
use Rattle.work_tile.proofs.NodesOver.{many_nodes, row_inside, row_is}
use Rattle.work_tile.proofs.tile_rows.TileRows.node.Goals as goal

pub at-row-requires : goal.at-row-requires
at-row-requires c = omega (arith, c.requires, many_nodes c.self.inside.edges c.self.inside.nodes, ap (λ r. length r.nodes) c.self.view_is)

pub edges_end-requires : goal.edges_end-requires
edges_end-requires c = omega (arith, c.requires, many_nodes c.self.inside.edges c.self.inside.nodes, ap (λ r. length r.nodes) c.self.view_is)

pub invariant_of-result : goal.invariant_of-result
invariant_of-result c =
    let inside : c.args.i < length c.self.inside.nodes = omega (arith, c.requires, many_nodes c.self.inside.edges c.self.inside.nodes, ap (λ r. length r.nodes) c.self.view_is) in
    row_inside c.self.inside.nodes c.args.i (length c.self.inside.edges) c.edges_end.result c.at-row.result inside c.at-row.ensures c.edges_end.ensures c.self.invariant

abbrev view : goal.After-edges_end → WorkNode
view c = rated_node c.at-row.result.junction c.at-row.result.density (slice_range c.self.inside.edges c.at-row.result.from c.edges_end.result)

pub returns : goal.returns
returns c =
    let inside : c.args.i < length c.self.inside.nodes = omega (arith, c.requires, many_nodes c.self.inside.edges c.self.inside.nodes, ap (λ r. length r.nodes) c.self.view_is) in
    row_is c.self.inside.nodes c.args.i (length c.self.inside.edges) c.edges_end.result c.at-row.result inside c.at-row.ensures c.edges_end.ensures c.self.inside.edges (view c) refl
    ∙ ap (λ r. get_or r.nodes c.args.i (view c)) c.self.view_is
