-- How many edges the nodes have together.
use Rattle.std.proofs.Common.{◌≡◌, ℕ, ◌+◌, ◌-◌, ◌≤◌, List, [], ◌∷◌, length, drop, get_or, refl, sym, ap, arith}
use Rattle.std.specs.Prelude.{slice_range, sum_by}
use Rattle.std.proofs.lemmas.List.{length-take, length-drop}
use Rattle.std.proofs.lemmas.List.Sums.{sum_by-cons}
use Rattle.work_tile.specs.declared.edge_rows.WorkEdge.{WorkEdge}
use Rattle.work_tile.specs.declared.node_rows.NodeRow.{NodeRow}
use Rattle.work_tile.specs.WorkRows.{WorkNode, rated_node, first_from, nodes_over, FromsRise}
use Rattle.work_tile.proofs.NodesOver.{first_inside}

abbrev pub edges_at : WorkNode → ℕ
edges_at n = length n.edges

part_length : (edges : List WorkEdge) (from to : ℕ) → from ≤ to → to ≤ length edges → length (slice_range edges from to) + from ≡ to
part_length edges from to le inside = omega (arith, length-take (to - from) (drop from edges), length-drop from edges, le, inside)

pub edges_over : (edges : List WorkEdge) (rows : List NodeRow) → FromsRise rows (length edges)
    → sum_by edges_at (nodes_over edges rows) + first_from rows (length edges) ≡ length edges
unfolding nodes_over FromsRise
edges_over edges [] rises = omega arith
edges_over edges (r ∷ rs) rises =
    let rest = edges_over edges rs rises.1 in
    let one = part_length edges r.from (first_from rs (length edges)) rises.0 (first_inside rs (length edges) rises.1) in
    let both = sum_by-cons edges_at (rated_node r.junction r.density (slice_range edges r.from (first_from rs (length edges)))) (nodes_over edges rs) in
    omega (arith, rest, one, both)

-- the edges of the nodes begin where those of the first one do
first_row : (rows : List NodeRow) (end : ℕ) (row : NodeRow) → (length rows ≡ 0 → ⊥) → row ≡ get_or rows 0 row → first_from rows end ≡ row.from
first_row [] end row some here = absurd (some refl)
first_row (r ∷ rs) end row some here = ap (λ (k : NodeRow). k.from) (sym here)

-- so many less the first row's beginning
pub all_edges : (edges : List WorkEdge) (rows : List NodeRow) (row : NodeRow) → FromsRise rows (length edges) → (length rows ≡ 0 → ⊥) → row ≡ get_or rows 0 row
    → sum_by edges_at (nodes_over edges rows) + row.from ≡ length edges
all_edges edges rows row rises some here =
    let from = first_row rows (length edges) row some here in
    let all = edges_over edges rows rises in
    omega (arith, from, all)

-- none where there is no node
pub no_edges : (edges : List WorkEdge) (rows : List NodeRow) → length rows ≡ 0 → sum_by edges_at (nodes_over edges rows) ≡ 0
unfolding nodes_over
no_edges edges [] none = refl
no_edges edges (r ∷ rs) none = absurd (omega arith)
