-- What a tile is once a node or an edge was put into it, or memory was wanting.
use Rattle.std.proofs.Common.{◌≡◌, ℕ, ◌≤◌, List, [], ◌∷◌, ◌++◌, length, Result, Ok, Err, sym, ap, subst, ◌∙◌, arith}
use Rattle.std.specs.Prelude.{OnOk, OnErr}
use Rattle.std.proofs.lemmas.List.{length-append}
use Rattle.work_tile.specs.declared.edge_rows.WorkEdge.{WorkEdge}
use Rattle.work_tile.specs.declared.node_rows.NodeRow.{NodeRow}
use Rattle.work_tile.specs.WorkRows.{WorkNode, WorkRows, rated_node, with_edge, nodes_over, FromsRise}
use Rattle.work_tile.proofs.NodesOver.{rises_more, rises_past, nodes_more, edge_more}

-- a tile of these nodes
abbrev pub rows_with : ℕ → ℕ → List WorkNode → WorkRows
rows_with level tile nodes = record { level = level; tile = tile; nodes = nodes }

pub nodes_rise : {A B : Type 0} (r : Result A B) (rows more : List NodeRow) (row : NodeRow) (end : ℕ) → OnOk r (more ≡ rows ++ row ∷ []) → OnErr r (more ≡ rows)
    → FromsRise rows end → row.from ≡ end → FromsRise more end
nodes_rise (Ok u) rows more row end ok err rises e = subst (λ rs. FromsRise rs end) (sym ok) (rises_more rows row end rises e)
nodes_rise (Err u) rows more row end ok err rises e = subst (λ rs. FromsRise rs end) (sym err) rises

pub node_put : {A B : Type 0} (r : Result A B) (level tile : ℕ) (edges : List WorkEdge) (rows more : List NodeRow) (row : NodeRow) (before : WorkRows)
    → rows_with level tile (nodes_over edges rows) ≡ before → OnOk r (more ≡ rows ++ row ∷ []) → row.from ≡ length edges
    → OnOk r (rows_with level tile (nodes_over edges more) ≡ record before { nodes = before.nodes ++ rated_node row.junction row.density [] ∷ [] })
node_put (Ok u) level tile edges rows more row before is ok e =
    ap (λ rs. rows_with level tile (nodes_over edges rs)) ok
    ∙ ap (rows_with level tile) (nodes_more edges rows row e)
    ∙ ap (λ b. rows_with b.level b.tile (b.nodes ++ rated_node row.junction row.density [] ∷ [])) is
node_put (Err u) level tile edges rows more row before is ok e = tt

pub edges_rise : {A B : Type 0} (r : Result A B) (rows : List NodeRow) (edges more : List WorkEdge) (edge : WorkEdge) → OnOk r (more ≡ edges ++ edge ∷ []) → OnErr r (more ≡ edges)
    → FromsRise rows (length edges) → FromsRise rows (length more)
edges_rise (Ok u) rows edges more edge ok err rises =
    let le : length edges ≤ length more = omega (arith, ap length ok, length-append edges (edge ∷ [])) in
    rises_past rows (length edges) (length more) le rises
edges_rise (Err u) rows edges more edge ok err rises = subst (λ es. FromsRise rows (length es)) (sym err) rises

pub edge_put : {A B : Type 0} (r : Result A B) (level tile : ℕ) (rows : List NodeRow) (edges more : List WorkEdge) (edge : WorkEdge) (before : WorkRows)
    → rows_with level tile (nodes_over edges rows) ≡ before → OnOk r (more ≡ edges ++ edge ∷ []) → FromsRise rows (length edges)
    → OnOk r ((front : List WorkNode) (last : WorkNode) → before.nodes ≡ front ++ last ∷ []
    → rows_with level tile (nodes_over more rows) ≡ record before { nodes = front ++ with_edge last edge ∷ [] })
edge_put (Ok u) level tile rows edges more edge before is ok rises = λ front last e.
    let all : nodes_over edges rows ≡ front ++ last ∷ [] = ap (λ b. b.nodes) is ∙ e in
    ap (λ es. rows_with level tile (nodes_over es rows)) ok
    ∙ ap (rows_with level tile) (edge_more edges edge rows front last rises all)
    ∙ ap (λ b. rows_with b.level b.tile (front ++ with_edge last edge ∷ [])) is
edge_put (Err u) level tile rows edges more edge before is ok rises = tt
