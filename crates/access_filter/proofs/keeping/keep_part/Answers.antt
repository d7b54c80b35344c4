use Rattle.std.proofs.Common.{◌≡◌, ◌++◌, ◌∷◌, [], length, sym, ap, ◌∙◌, ltb}
use Rattle.std.proofs.lemmas.List.{append-nil}
use Rattle.access_filter.specs.Kept.{kept_rows}
use Rattle.access_filter.proofs.NodesKept.{tile_kept, tile_left, some_nodes}
use Rattle.access_filter.proofs.keeping.keep_part.Goals as goal

pub returns-then-nodes_len-eq0 : goal.returns-then-nodes_len-eq0
returns-then-nodes_len-eq0 c =
    let is : c.in_ok-rows.rows ≡ kept_rows c.args.modes c.args.tile.now = c.in_ok-rows.ensures ∙ ap (kept_rows c.args.modes) c.rows.ensures in
    let none = tile_left c.args.modes c.args.tile.now c.in_ok-rows.rows is (ap (ltb 0) (sym c.nodes_len.ensures ∙ c.if-nodes_len-eq0.true)) in
    sym (ap (λ ts. c.args.kept.now.items ++ ts) none ∙ append-nil c.args.kept.now.items)

pub returns : goal.returns
returns c =
    let is : c.in_ok-rows.rows ≡ kept_rows c.args.modes c.args.tile.now = c.in_ok-rows.ensures ∙ ap (kept_rows c.args.modes) c.rows.ensures in
    let some = some_nodes (length c.in_ok-rows.rows.nodes) (λ e. c.if-nodes_len-eq0.false (c.nodes_len.ensures ∙ e)) in
    c.in_ok-push.ensures.items
    ∙ ap (λ t. c.args.kept.now.items ++ t ∷ []) c.in_ok-tile.ensures
    ∙ ap (λ ts. c.args.kept.now.items ++ ts) (sym (tile_kept c.args.modes c.args.tile.now c.in_ok-rows.rows is some))
