use Rattle.hierarchy_tests.proofs.IdLemmas.{node_added}
use Rattle.hierarchy_tests.proofs.lifted.add_node.Goals as goal

pub returns : goal.returns
returns c =
    node_added c.args.rows.now c.push_node.new.self c.push_edge.new.self c.push_edge-2.new.self c.args.junction c.args.one c.args.other
    c.in_ok-push_node.ensures.ok c.in_ok-push_edge.ensures.ok c.in_ok-push_edge-2.ensures.ok
