use Rattle.std.proofs.Common.{ap, ◌∙◌}
use Rattle.work_tile.specs.WorkRows.{rated_node}
use Rattle.hierarchy.proofs.EdgesPut.{node_lifted}
use Rattle.hierarchy.proofs.node_edges.push_lifted.Goals as goal

pub returns : goal.returns
returns c =
    node_lifted c.push_edges.result c.args.level c.args.node.now c.junction.result c.density.result c.args.rows.now c.push_rated.new.self c.push_edges.new.rows (ap (λ d. rated_node c.junction.result d c.args.node.now.edges) c.density.ensures ∙ c.junction.ensures) c.in_ok-push_rated.ensures.ok c.push_edges.ensures.done
