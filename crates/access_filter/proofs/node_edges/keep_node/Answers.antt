use Rattle.std.proofs.Common.{◌≡◌, true, false, sym, ap, ◌∙◌, rules}
use Rattle.work_tile.specs.WorkRows.{rated_node}
use Rattle.access_filter.proofs.NodesKept.{node_kept, node_left}
use Rattle.access_filter.proofs.node_edges.keep_node.Goals as goal

pub returns-then-not-has_kept : goal.returns-then-not-has_kept
returns-then-not-has_kept c =
    let none : c.has_kept.result ≡ false = search rules in
    node_left c.args.modes c.args.node.now c.args.kept.now (sym c.has_kept.ensures ∙ none)

pub returns : goal.returns
returns c =
    let some : c.has_kept.result ≡ true = search rules in
    node_kept c.keep_edges.result c.args.modes c.args.node.now c.junction.result c.density.result c.args.kept.now c.push_rated.new.self c.keep_edges.new.kept (ap (λ d. rated_node c.junction.result d c.args.node.now.edges) c.density.ensures ∙ c.junction.ensures) (sym c.has_kept.ensures ∙ some) c.in_ok-push_rated.ensures.ok c.keep_edges.ensures.done
