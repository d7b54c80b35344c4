-- Lists of records, as the loops make them.
use Rattle.std.proofs.Common.{◌≡◌, ◌∙◌, ℕ, ◌+◌, ◌*◌, ◌-◌, ◌<◌, ◌≤◌, refl, sym, ap, List, [], ◌∷◌, ◌++◌, length, get_or, take, drop, map, arith}
use Rattle.std.specs.Prelude.{slice_range}
use Rattle.std.specs.List.{zip}
use Rattle.std.proofs.lemmas.List.{append-nil, append_assoc, map-append, take_all, take_more, length-append, length-map, length-take, take-append-drop}
use Rattle.std.proofs.Math.Seq.{take-add}
use Rattle.std.proofs.lemmas.List.Concat.{length-flat_map}
use Rattle.std.proofs.lemmas.List.Folds.{length-flat_map-take}
use Rattle.std.proofs.lemmas.Grind.{flat_map-append}
use Rattle.std.proofs.lemmas.Slice.Zip.{length-zip}
use Rattle.tile_records.specs.Nodes.{NodeFields}
use Rattle.tile_records.specs.Edges.{EdgeFields}
use Rattle.work_tile.specs.declared.edge_rows.WorkEdge.{WorkEdge}
use Rattle.work_tile.specs.WorkRows.{WorkNode, WorkRows}
use Rattle.tile_numbers.specs.declared.room.TheConstants.{MOST_RECORDS}
use Rattle.tile_numbers.specs.Limits.{CanBeNumbered}
use Rattle.tile_numbers.specs.LookUps.{work_rows_at, other_nodes}
use Rattle.tile_numbers.specs.Records.{numbered_node, numbered_nodes, numbered_edge, numbered_edges}
use Rattle.tile_numbers.specs.Progress.{edges_in, edges_so_far}
use Rattle.tile_numbers.proofs.OtherNodes.{others_in, all_few}

module _ (tiles : List WorkRows) (level : ℕ) where
  -- the transitions of one node more
  pub others_next : (nodes : List WorkNode) (i : ℕ) (node : WorkNode) (before after : List ℕ) → i < length nodes → node ≡ get_or nodes i node
      → before ≡ others_in tiles level (take i nodes) → after ≡ before ++ other_nodes tiles level node → after ≡ others_in tiles level (take (i + 1) nodes)
  others_next nodes i node before after inside here is step =
      step
      ∙ ap (λ b. b ++ other_nodes tiles level node) is
      ∙ ap (λ l. others_in tiles level (take i nodes) ++ l) (sym (append-nil (other_nodes tiles level node)))
      ∙ sym (flat_map-append (other_nodes tiles level) (take i nodes) (node ∷ []))
      ∙ ap (others_in tiles level) (sym (take_more nodes i node inside ∙ ap (λ n. take i nodes ++ n ∷ []) (sym here)))

  -- ---- nodes

  abbrev row_of : ℕ → ℕ → WorkNode → NodeFields
  row_of edges shifts n = numbered_node edges shifts (length (other_nodes tiles level n)) n

  pub nodes_more : (edges shifts : ℕ) (nodes : List WorkNode) (node : WorkNode)
      → numbered_nodes tiles level edges shifts (nodes ++ node ∷ []) ≡ numbered_nodes tiles level edges shifts nodes ++ row_of (edges + length (edges_in nodes)) (shifts + length (others_in tiles level nodes)) node ∷ []
  nodes_more edges shifts [] node =
      let e : edges ≡ edges + 0 = omega arith in
      let t : shifts ≡ shifts + 0 = omega arith in
      λ i. row_of (e i) (t i) node ∷ []
  nodes_more edges shifts (n ∷ ns) node =
      let others = other_nodes tiles level n in
      let k : edges + length n.edges + length (edges_in ns) ≡ edges + length (n.edges ++ edges_in ns) = omega (arith, length-append n.edges (edges_in ns)) in
      let l : shifts + length others + length (others_in tiles level ns) ≡ shifts + length (others ++ others_in tiles level ns) = omega (arith, length-append others (others_in tiles level ns)) in
      ap (λ rs. row_of edges shifts n ∷ rs)
      (nodes_more (edges + length n.edges) (shifts + length others) ns node
      ∙ (λ j. numbered_nodes tiles level (edges + length n.edges) (shifts + length others) ns ++ row_of (k j) (l j) node ∷ []))

  pub nodes_next : (nodes : List WorkNode) (i : ℕ) (node : WorkNode) (before after : List NodeFields) (row : NodeFields) (from shifts others : ℕ) → i < length nodes → node ≡ get_or nodes i node
      → before ≡ numbered_nodes tiles level 0 0 (take i nodes) → from ≡ length (edges_in (take i nodes)) → shifts ≡ length (others_in tiles level (take i nodes)) → others ≡ length (other_nodes tiles level node)
      → row ≡ numbered_node from shifts others node → after ≡ before ++ row ∷ []
      → after ≡ numbered_nodes tiles level 0 0 (take (i + 1) nodes)
  nodes_next nodes i node before after row from shifts others inside here is at shifted many row_is step =
      let e : from ≡ 0 + length (edges_in (take i nodes)) = omega (arith, at) in
      let t : shifts ≡ 0 + length (others_in tiles level (take i nodes)) = omega (arith, shifted) in
      step
      ∙ ap (λ b. b ++ row ∷ []) is
      ∙ ap (λ r. numbered_nodes tiles level 0 0 (take i nodes) ++ r ∷ []) (row_is ∙ (λ j. numbered_node (e j) (t j) (many j) node))
      ∙ sym (nodes_more 0 0 (take i nodes) node)
      ∙ ap (numbered_nodes tiles level 0 0) (sym (take_more nodes i node inside ∙ ap (λ n. take i nodes ++ n ∷ []) (sym here)))

-- ---- edges

zip_both : {A B : Type 0} (xs ys : List A) (us vs : List B) → length us ≡ length xs → zip (xs ++ ys) (us ++ vs) ≡ zip xs us ++ zip ys vs
zip_both [] ys [] vs e = refl
zip_both [] ys (u ∷ us) vs e = absurd (omega arith)
zip_both (x ∷ xs) ys [] vs e = absurd (omega arith)
zip_both (x ∷ xs) ys (u ∷ us) vs e = ap (λ l. (x, u) ∷ l) (zip_both xs ys us vs (omega arith))

module _ (tiles : List WorkRows) (level tile : ℕ) where
  pub edges_both : (es fs : List WorkEdge) (is js : List ℕ) → length is ≡ length es
      → numbered_edges tiles level tile (es ++ fs) (is ++ js) ≡ numbered_edges tiles level tile es is ++ numbered_edges tiles level tile fs js
  unfolding numbered_edges
  edges_both es fs is js e = ap (map _) (zip_both es fs is js e) ∙ map-append _ (zip es is) (zip fs js)

  pub no_edges_yet : (js : List ℕ) → numbered_edges tiles level tile [] js ≡ []
  unfolding numbered_edges
  no_edges_yet js = refl

  one_edge : (e : WorkEdge) (i : ℕ) → numbered_edges tiles level tile (e ∷ []) (i ∷ []) ≡ numbered_edge level tile (work_rows_at tiles level e.end_tile) e i ∷ []
  unfolding numbered_edges
  one_edge e i = refl

  pub many_edges : (es : List WorkEdge) (is : List ℕ) → length is ≡ length es → length (numbered_edges tiles level tile es is) ≡ length es
  unfolding numbered_edges
  many_edges es is e = omega (arith, length-map (zip es is) (λ ((f, info) : WorkEdge × ℕ). numbered_edge level tile (work_rows_at tiles level f.end_tile) f info), length-zip es is, e)

  -- one edge more of a node
  pub edges_next : (old before after : List EdgeFields) (es : List WorkEdge) (is : List ℕ) (k : ℕ) (e : WorkEdge) (row : EdgeFields) → length is ≡ length es → k < length es
      → e ≡ get_or es k e → row ≡ numbered_edge level tile (work_rows_at tiles level e.end_tile) e (get_or is k 0)
      → before ≡ old ++ numbered_edges tiles level tile (take k es) (take k is) → after ≡ before ++ row ∷ []
      → after ≡ old ++ numbered_edges tiles level tile (take (k + 1) es) (take (k + 1) is)
  edges_next old before after es is k e row same inside here row_is is_so step =
      let i = get_or is k 0 in
      let first : take (k + 1) es ≡ take k es ++ e ∷ [] = take_more es k e inside ∙ ap (λ f. take k es ++ f ∷ []) (sym here) in
      let second : take (k + 1) is ≡ take k is ++ i ∷ [] = take_more is k 0 (omega (arith, inside, same)) in
      let even : length (take k is) ≡ length (take k es) = omega (arith, length-take k is, length-take k es, same) in
      let both : numbered_edges tiles level tile (take (k + 1) es) (take (k + 1) is) ≡ numbered_edges tiles level tile (take k es) (take k is) ++ row ∷ [] =
      (λ j. numbered_edges tiles level tile (first j) (second j)) ∙ edges_both (take k es) (e ∷ []) (take k is) (i ∷ []) even
      ∙ ap (λ l. numbered_edges tiles level tile (take k es) (take k is) ++ l) (one_edge e i ∙ ap (λ r. r ∷ []) (sym row_is)) in
      step ∙ ap (λ b. b ++ row ∷ []) is_so ∙ append_assoc old (numbered_edges tiles level tile (take k es) (take k is)) (row ∷ []) ∙ ap (λ l. old ++ l) (sym both)

  pub edges_all : (old made : List EdgeFields) (es : List WorkEdge) (is : List ℕ) (k : ℕ) → length is ≡ length es → length es ≤ k
      → made ≡ old ++ numbered_edges tiles level tile (take k es) (take k is) → made ≡ old ++ numbered_edges tiles level tile es is
  edges_all old made es is k same past is_so =
      is_so ∙ ap (λ fs. old ++ numbered_edges tiles level tile fs (take k is)) (take_all k es past)
      ∙ ap (λ fs. old ++ numbered_edges tiles level tile es fs) (take_all k is (omega (arith, past, same)))

  -- ---- the edges of the first nodes of a tile

  abbrev so_far : List WorkNode → List ℕ → ℕ → List EdgeFields
  so_far nodes offsets k = edges_so_far tiles level tile nodes offsets k

  module _ (nodes : List WorkNode) (offsets : List ℕ) (same : length offsets ≡ length (edges_in nodes)) where
    pub few_so_far : (k : ℕ) → length (edges_in (take k nodes)) ≤ length (edges_in nodes)
    few_so_far k =
        let parts = ap (λ ns. length (edges_in ns)) (take-append-drop k nodes) in
        let both = ap length (flat_map-append (λ (n : WorkNode). n.edges) (take k nodes) (drop k nodes)) in
        omega (arith, parts, both, length-append (edges_in (take k nodes)) (edges_in (drop k nodes)))

    pub count_so_far : (k : ℕ) (made : List EdgeFields) → made ≡ so_far nodes offsets k → length made ≡ length (edges_in (take k nodes))
    count_so_far k made is_so =
        let even : length (take (length (edges_in (take k nodes))) offsets) ≡ length (edges_in (take k nodes)) =
        omega (arith, length-take (length (edges_in (take k nodes))) offsets, few_so_far k, same) in
        ap length is_so ∙ many_edges (edges_in (take k nodes)) (take (length (edges_in (take k nodes))) offsets) even

    pub part_within : (k : ℕ) (node : WorkNode) (made : List EdgeFields) → k < length nodes → node ≡ get_or nodes k node → made ≡ so_far nodes offsets k
        → length made + length node.edges ≤ length offsets
    part_within k node made inside here is_so =
        omega (arith, length-flat_map-take (λ (n : WorkNode). n.edges) nodes k node inside, ap (λ (n : WorkNode). length n.edges) here, same, count_so_far k made is_so)

    -- one node more
    pub node_next : (k : ℕ) (node : WorkNode) (part : List ℕ) (before after : List EdgeFields) (from to : ℕ) → k < length nodes → node ≡ get_or nodes k node
        → from ≡ length before → to ≡ from + length node.edges → part ≡ slice_range offsets from to → before ≡ so_far nodes offsets k
        → after ≡ before ++ numbered_edges tiles level tile node.edges part → after ≡ so_far nodes offsets (k + 1)
    node_next k node part before after from to inside here from_is to_is part_is is_so step =
        let count = count_so_far k before is_so in
        let start : from ≡ length (edges_in (take k nodes)) = omega (arith, count, from_is) in
        let more : edges_in (take (k + 1) nodes) ≡ edges_in (take k nodes) ++ node.edges =
        ap edges_in (take_more nodes k node inside ∙ ap (λ n. take k nodes ++ n ∷ []) (sym here))
        ∙ flat_map-append (λ n. n.edges) (take k nodes) (node ∷ []) ∙ ap (λ l. edges_in (take k nodes) ++ l) (append-nil node.edges) in
        let end : length (edges_in (take (k + 1) nodes)) ≡ from + (to - from) = omega (arith, ap length more, length-append (edges_in (take k nodes)) node.edges, start, to_is) in
        let cut : take (length (edges_in (take (k + 1) nodes))) offsets ≡ take from offsets ++ part =
        ap (λ j. take j offsets) end ∙ take-add from (to - from) offsets ∙ ap (λ l. take from offsets ++ l) (sym part_is) in
        let even : length (take from offsets) ≡ length (edges_in (take k nodes)) = omega (arith, length-take from offsets, part_within k node before inside here is_so, start, from_is) in
        let first : before ≡ numbered_edges tiles level tile (edges_in (take k nodes)) (take from offsets) =
        is_so ∙ ap (λ j. numbered_edges tiles level tile (edges_in (take k nodes)) (take j offsets)) (sym start) in
        let both : so_far nodes offsets (k + 1) ≡ numbered_edges tiles level tile (edges_in (take k nodes) ++ node.edges) (take from offsets ++ part) =
        λ j. numbered_edges tiles level tile (more j) (cut j) in
        step ∙ ap (λ b. b ++ numbered_edges tiles level tile node.edges part) first
        ∙ sym (edges_both (edges_in (take k nodes)) node.edges (take from offsets) part even)
        ∙ sym both

    pub tile_all : (k : ℕ) (made : List EdgeFields) → length nodes ≤ k → made ≡ so_far nodes offsets k → made ≡ numbered_edges tiles level tile (edges_in nodes) offsets
    tile_all k made past is_so =
        let whole = take_all k nodes past in
        is_so ∙ ap (λ ns. numbered_edges tiles level tile (edges_in ns) (take (length (edges_in ns)) offsets)) whole
        ∙ ap (λ js. numbered_edges tiles level tile (edges_in nodes) js) (take_all (length (edges_in nodes)) offsets (omega (arith, same)))

-- so few edges that each has a number
pub edges_low : (tiles : List WorkRows) (rows : WorkRows) (offsets : List ℕ) (k : ℕ) (made : List EdgeFields) → CanBeNumbered rows → length offsets ≡ length (edges_in rows.nodes)
    → made ≡ edges_so_far tiles rows.level rows.tile rows.nodes offsets k → length made ≤ MOST_RECORDS
edges_low tiles rows offsets k made can same is_so =
    let count = count_so_far tiles rows.level rows.tile rows.nodes offsets same k made is_so in
    let few = few_so_far tiles rows.level rows.tile rows.nodes offsets same k in
    omega (arith, count, few, length-flat_map (λ (n : WorkNode). n.edges) rows.nodes, can.room.edges)

-- so few transitions stand before a node, and so few it has itself, that each has a number
pub others_low : (tiles : List WorkRows) (rows : WorkRows) (k : ℕ) (made : List ℕ) → CanBeNumbered rows → made ≡ others_in tiles rows.level (take k rows.nodes) → length made ≤ 2 * MOST_RECORDS
others_low tiles rows k made can is_so =
    omega (arith, ap length is_so, all_few tiles rows.level can.level (take k rows.nodes), length-take k rows.nodes, can.room.nodes)

pub others_counted : (tiles : List WorkRows) (level : ℕ) (n : WorkNode) (before after : List ℕ) (many more : ℕ) → many ≡ length before → more ≡ length after → after ≡ before ++ other_nodes tiles level n → more - many ≡ length (other_nodes tiles level n)
others_counted tiles level n before after many more m l is = omega (arith, m, l, ap length is, length-append before (other_nodes tiles level n))
