use Rattle.std.proofs.Common.{rules, ◌≡◌, ◌∙◌, ◌++◌, ◌∷◌, [], true, sym, ap, length, filter, ltb, get_or}
use Rattle.hierarchy.specs.Lifted.{is_on_level}
use Rattle.hierarchy.specs.Spots.{spot_at, no_node}
use Rattle.hierarchy.proofs.SpotLemmas.{node_gathered}
use Rattle.hierarchy.proofs.spots.gather_node.Goals as goal

pub returns-in_ok-push : goal.returns-in_ok-push
returns-in_ok-push c =
    let some : c.starts_edge.result ≡ true = search rules in
    let test = ap (λ r. ltb 0 (length (filter (is_on_level c.args.level) (get_or r.nodes c.args.node no_node).edges))) c.rows_at-rows.ensures in
    let pushed = c.in_ok-push.ensures.items ∙ ap (λ s. c.args.spots.now.items ++ s ∷ []) (c.in_ok-spot.ensures ∙ ap (λ r. spot_at c.args.level r c.args.source c.args.node) c.rows_at-rows.ensures) in
    node_gathered c.args.level c.args.tiles.now c.args.source c.args.node c.args.spots.now.items c.push.new.self.items
    c.requires.source c.requires.node (sym test ∙ (sym c.starts_edge.ensures ∙ some)) pushed
