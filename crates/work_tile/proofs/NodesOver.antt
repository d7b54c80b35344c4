-- Nodes whose edges stand one after the other.
use Rattle.std.proofs.Common.{◌≡◌, ℕ, zero, suc, ◌+◌, ◌-◌, ◌<◌, ◌≤◌, List, [], ◌∷◌, ◌++◌, length, take, drop, get_or, refl, sym, ap, subst, ◌∙◌, arith}
use Rattle.std.specs.Prelude.{slice_range}
use Rattle.std.proofs.lemmas.List.{take_all, take-append-le, drop-append-le, length-drop, length-append, same_from_push}
use Rattle.work_tile.specs.declared.edge_rows.WorkEdge.{WorkEdge}
use Rattle.work_tile.specs.declared.node_rows.NodeRow.{NodeRow}
use Rattle.work_tile.specs.WorkRows.{WorkNode, rated_node, with_edge, first_from, nodes_over, FromsRise}

pub many_nodes : (edges : List WorkEdge) (rows : List NodeRow) → length (nodes_over edges rows) ≡ length rows
unfolding nodes_over
many_nodes edges [] = refl
many_nodes edges (r ∷ rs) = ap suc (many_nodes edges rs)

-- ---- the node at an index

pub first_inside : (rows : List NodeRow) (end : ℕ) → FromsRise rows end → first_from rows end ≤ end
unfolding FromsRise
first_inside [] end rises = omega arith
first_inside (r ∷ rs) end rises = let k = first_inside rs end rises.1 in let l : r.from ≤ first_from rs end = rises.0 in omega (arith, k, l)

node_at : (edges : List WorkEdge) (rows : List NodeRow) (i : ℕ) (d : WorkNode) (e : NodeRow) → i < length rows
    → get_or (nodes_over edges rows) i d ≡ rated_node (get_or rows i e).junction (get_or rows i e).density (slice_range edges (get_or rows i e).from (first_from (drop (suc i) rows) (length edges)))
unfolding nodes_over
node_at edges [] i d e h = absurd (omega (arith, h))
node_at edges (r ∷ rs) zero d e h = refl
node_at edges (r ∷ rs) (suc i) d e h = node_at edges rs i d e (omega (arith, h))

within : (rows : List NodeRow) (end i : ℕ) (e : NodeRow) → FromsRise rows end → i < length rows
    → ((get_or rows i e).from ≤ first_from (drop (suc i) rows) end) × (first_from (drop (suc i) rows) end ≤ end)
unfolding FromsRise
within [] end i e rises h = absurd (omega (arith, h))
within (r ∷ rs) end zero e rises h = (rises.0, first_inside rs end rises.1)
within (r ∷ rs) end (suc i) e rises h = within rs end i e rises.1 (omega (arith, h))

-- the row that was read at an index, and where its edges end
module _ (rows : List NodeRow) (i end to : ℕ) (row : NodeRow) (inside : i < length rows) (here : row ≡ get_or rows i row)
    (ends : to ≡ first_from (drop (i + 1) rows) end) where
  ends_next : to ≡ first_from (drop (suc i) rows) end
  ends_next = let k : i + 1 ≡ suc i = omega arith in ends ∙ ap (λ j. first_from (drop j rows) end) k

  pub row_inside : FromsRise rows end → (row.from ≤ to) × (to ≤ end)
  row_inside rises =
      let w = within rows end i row rises inside in
      let low : row.from ≤ first_from (drop (suc i) rows) end = subst (λ r. r.from ≤ first_from (drop (suc i) rows) end) (sym here) w.0 in
      (omega (arith, low, ends_next), omega (arith, w.1, ends_next))

  pub row_is : (edges : List WorkEdge) (d : WorkNode) → length edges ≡ end
      → rated_node row.junction row.density (slice_range edges row.from to) ≡ get_or (nodes_over edges rows) i d
  row_is edges d many =
      let at = node_at edges rows i d row inside in
      let one : rated_node row.junction row.density (slice_range edges row.from to) ≡ rated_node row.junction row.density (slice_range edges row.from (first_from (drop (suc i) rows) (length edges))) =
      ap (λ k. rated_node row.junction row.density (slice_range edges row.from k)) (ends_next ∙ ap (first_from (drop (suc i) rows)) (sym many)) in
      one ∙ ap (λ r. rated_node r.junction r.density (slice_range edges r.from (first_from (drop (suc i) rows) (length edges)))) here ∙ sym at

-- ---- one node more

pub rises_more : (rows : List NodeRow) (row : NodeRow) (end : ℕ) → FromsRise rows end → row.from ≡ end → FromsRise (rows ++ row ∷ []) end
unfolding FromsRise
rises_more [] row end rises e = (omega (arith, e), tt)
rises_more (r ∷ []) row end rises e = (omega (arith, rises.0, e), (omega (arith, e), tt))
rises_more (r ∷ s ∷ rs) row end rises e = (rises.0, rises_more (s ∷ rs) row end rises.1 e)

slice_end : (edges : List WorkEdge) → slice_range edges (length edges) (length edges) ≡ []
slice_end edges = let e : length edges - length edges ≡ 0 = omega arith in ap (λ k. take k (drop (length edges) edges)) e

pub nodes_more : (edges : List WorkEdge) (rows : List NodeRow) (row : NodeRow) → row.from ≡ length edges
    → nodes_over edges (rows ++ row ∷ []) ≡ nodes_over edges rows ++ rated_node row.junction row.density [] ∷ []
unfolding nodes_over
nodes_more edges [] row e = ap (λ es. rated_node row.junction row.density es ∷ []) (ap (λ k. slice_range edges k (length edges)) e ∙ slice_end edges)
nodes_more edges (r ∷ []) row e =
    ap (λ k. rated_node r.junction r.density (slice_range edges r.from k) ∷ nodes_over edges (row ∷ [])) e
    ∙ ap (λ ns. rated_node r.junction r.density (slice_range edges r.from (length edges)) ∷ ns) (nodes_more edges [] row e)
nodes_more edges (r ∷ s ∷ rs) row e =
    ap (λ ns. rated_node r.junction r.density (slice_range edges r.from s.from) ∷ ns) (nodes_more edges (s ∷ rs) row e)

-- ---- one edge more

pub rises_past : (rows : List NodeRow) (end more : ℕ) → end ≤ more → FromsRise rows end → FromsRise rows more
unfolding FromsRise
rises_past [] end more le rises = tt
rises_past (r ∷ []) end more le rises = (omega (arith, le, rises.0), tt)
rises_past (r ∷ s ∷ rs) end more le rises = (rises.0, rises_past (s ∷ rs) end more le rises.1)

-- a part that ends within the edges stays, with one edge more
slice_stays : (edges : List WorkEdge) (edge : WorkEdge) (from to : ℕ) → from ≤ to → to ≤ length edges
    → slice_range (edges ++ edge ∷ []) from to ≡ slice_range edges from to
slice_stays edges edge from to le inside =
    ap (take (to - from)) (drop-append-le from edges (edge ∷ []) (omega (arith, le, inside)))
    ∙ take-append-le (to - from) (drop from edges) (edge ∷ []) (omega (arith, length-drop from edges, le, inside))

-- the part up to the end has the edge behind its others
slice_more : (edges : List WorkEdge) (edge : WorkEdge) (from : ℕ) → from ≤ length edges
    → slice_range (edges ++ edge ∷ []) from (length (edges ++ edge ∷ [])) ≡ slice_range edges from (length edges) ++ edge ∷ []
slice_more edges edge from le =
    let many = length-append edges (edge ∷ []) in
    let rest = length-drop from edges in
    let both = length-append (drop from edges) (edge ∷ []) in
    ap (take (length (edges ++ edge ∷ []) - from)) (drop-append-le from edges (edge ∷ []) le)
    ∙ take_all (length (edges ++ edge ∷ []) - from) (drop from edges ++ edge ∷ []) (omega (arith, many, rest, both, le))
    ∙ ap (λ es. es ++ edge ∷ []) (sym (take_all (length edges - from) (drop from edges) (omega (arith, rest))))

last_more : (edges : List WorkEdge) (edge : WorkEdge) (r : NodeRow) (rows : List NodeRow) (front : List WorkNode) (last : WorkNode)
    → FromsRise (r ∷ rows) (length edges) → nodes_over edges (r ∷ rows) ≡ front ++ last ∷ []
    → nodes_over (edges ++ edge ∷ []) (r ∷ rows) ≡ front ++ with_edge last edge ∷ []
unfolding nodes_over FromsRise
last_more edges edge r [] front last rises e =
    let parts = same_from_push [] front (rated_node r.junction r.density (slice_range edges r.from (length edges))) last e in
    ap (λ es. rated_node r.junction r.density es ∷ []) (slice_more edges edge r.from rises.0)
    ∙ ap (λ n. with_edge n edge ∷ []) parts.1
    ∙ ap (λ f. f ++ with_edge last edge ∷ []) parts.0
last_more edges edge r (s ∷ rs) [] last rises e = absurd (omega (arith, ap length e))
last_more edges edge r (s ∷ rs) (f ∷ fs) last rises e =
    let inside = first_inside (s ∷ rs) (length edges) rises.1 in
    let head : rated_node r.junction r.density (slice_range edges r.from s.from) ≡ f = ap (λ ns. get_or ns 0 f) e in
    let rest : nodes_over edges (s ∷ rs) ≡ fs ++ last ∷ [] = ap (drop 1) e in
    ap (λ es. rated_node r.junction r.density es ∷ nodes_over (edges ++ edge ∷ []) (s ∷ rs)) (slice_stays edges edge r.from s.from rises.0 inside)
    ∙ ap (λ n. n ∷ nodes_over (edges ++ edge ∷ []) (s ∷ rs)) head
    ∙ ap (λ ns. f ∷ ns) (last_more edges edge s rs fs last rises.1 rest)

pub edge_more : (edges : List WorkEdge) (edge : WorkEdge) (rows : List NodeRow) (front : List WorkNode) (last : WorkNode)
    → FromsRise rows (length edges) → nodes_over edges rows ≡ front ++ last ∷ []
    → nodes_over (edges ++ edge ∷ []) rows ≡ front ++ with_edge last edge ∷ []
unfolding nodes_over
edge_more edges edge [] [] last rises e = absurd (omega (arith, ap length e))
edge_more edges edge [] (f ∷ fs) last rises e = absurd (omega (arith, ap length e))
edge_more edges edge (r ∷ rs) front last rises e = last_more edges edge r rs front last rises e
