-- Nodes pass one after the other.
use Rattle.std.proofs.Common.{◌≡◌, ◌∙◌, ℕ, suc, ◌+◌, ◌≤◌, refl, sym, ap, ℤ, pos, negsuc, List, [], ◌∷◌, ◌++◌, length, Bool, true, ◌&&◌, eq-eqb, arith}
use Rattle.std.specs.Prelude.{◌<ℤ◌, int_lt, sum_by, All}
use Rattle.std.proofs.lemmas.Int.{ints}
use Rattle.std.proofs.lemmas.Bool.{lt-ltb, le-leb}
use Rattle.std.proofs.lemmas.List.{length-append}
use Rattle.std.proofs.lemmas.List.Elements.{All-head, All-tail}
use Rattle.std.proofs.lemmas.List.Sums.{sum_by-append, sum_by-cons}
use Rattle.osm_model.specs.Extract.{IdsRise}
use Rattle.tile_records.specs.Nodes.{NodeFields, NodeFits}
use Rattle.section_grammar.specs.Reads.{AllGood}
use Rattle.tile_bytes.specs.Items.{rises, edges_of_nodes, transitions_of_nodes, has_lower_id, node_passes, IsNodeRecord}
use Rattle.work_tile.specs.WorkRows.{WorkNode, WorkRows}
use Rattle.tile_numbers.specs.LookUps.{other_nodes}
use Rattle.tile_numbers.specs.Records.{numbered_node, numbered_nodes}
use Rattle.tile_numbers.proofs.OtherNodes.{others_in, others_few}
use Rattle.tile_number_laws.specs.NumberedChecks.{IsInTile, NumberedNodesPass}

below_is : (a b : ℤ) → a <ℤ b → int_lt a b ≡ true
below_is (pos a) (pos b) h = lt-ltb a b (omega (arith, ints, h))
below_is (pos a) (negsuc b) h = absurd (omega (arith, ints, h))
below_is (negsuc a) (pos b) h = refl
below_is (negsuc a) (negsuc b) h = lt-ltb b a (omega (arith, ints, h))

rises_last : {A : Type 0} (less : A → A → Bool) (before : List A) (x y : A) → rises less (before ++ x ∷ []) y ≡ less x y
rises_last less [] x y = refl
rises_last less (b ∷ []) x y = refl
rises_last less (b ∷ c ∷ bs) x y = rises_last less (c ∷ bs) x y

-- the first of these nodes has an OSM id above the last record before it
abbrev IsAbove : List NodeFields → List WorkNode → Type 0
IsAbove before [] = Unit {0}
IsAbove before (n ∷ ns) = (k t c : ℕ) → rises has_lower_id before (numbered_node k t c n) ≡ true

next_above : (before : List NodeFields) (k t c : ℕ) (n : WorkNode) (ns : List WorkNode) → IdsRise (λ (m : WorkNode). m.osm) (n ∷ ns) → IsAbove (before ++ numbered_node k t c n ∷ []) ns
next_above before k t c n [] rise = tt
next_above before k t c n (m ∷ ms) rise = λ j u d. rises_last has_lower_id before (numbered_node k t c n) (numbered_node j u d m) ∙ below_is n.osm m.osm (rise 0 1 n (omega arith) (omega arith))

one_passes : (level tile k t c : ℕ) (before : List NodeFields) (n : WorkNode) → k ≡ edges_of_nodes before → t ≡ transitions_of_nodes before → c ≤ 2 → IsInTile level tile n
    → rises has_lower_id before (numbered_node k t c n) ≡ true → node_passes level tile before (numbered_node k t c n) ≡ true
one_passes level tile k t c before n edges transitions few in_tile above =
    let lies = in_tile.lies in
    let first = eq-eqb k (edges_of_nodes before) edges in
    let second = eq-eqb t (transitions_of_nodes before) transitions in
    let some = le-leb 1 (length n.edges) in_tile.some in
    let at_most = le-leb c 2 few in
    λ i. lies i && first i && second i && some i && at_most i && above i

module _ (tiles : List WorkRows) (level tile : ℕ) (low : level ≤ 2) where
  abbrev others : WorkNode → ℕ
  others n = length (other_nodes tiles level n)

  abbrev rows_from : ℕ → ℕ → List WorkNode → List NodeFields
  rows_from k t nodes = numbered_nodes tiles level k t nodes

  walk : (k t : ℕ) (before : List NodeFields) (nodes : List WorkNode) → k ≡ edges_of_nodes before → t ≡ transitions_of_nodes before → IsAbove before nodes
      → IdsRise (λ (m : WorkNode). m.osm) nodes → All (IsInTile level tile) nodes → All NodeFits (rows_from k t nodes) → AllGood (IsNodeRecord level tile) before (rows_from k t nodes)
  walk k t before [] edges transitions above rise lie fit = tt
  walk k t before (n ∷ ns) edges transitions above rise lie fit =
      let row = numbered_node k t (others n) n in
      let more : k + length n.edges ≡ edges_of_nodes (before ++ row ∷ []) = omega (arith, edges, sum_by-append (λ (r : NodeFields). r.edge_count) before (row ∷ []), sum_by-cons (λ (r : NodeFields). r.edge_count) row []) in
      let shifted : t + others n ≡ transitions_of_nodes (before ++ row ∷ []) = omega (arith, transitions, sum_by-append (λ (r : NodeFields). r.transition_count) before (row ∷ []), sum_by-cons (λ (r : NodeFields). r.transition_count) row []) in
      let rest = rows_from (k + length n.edges) (t + others n) ns in (
        record { fits_so = All-head NodeFits row rest fit; passes_so = one_passes level tile k t (others n) before n edges transitions (others_few tiles level n low) (All-head (IsInTile level tile) n ns lie) (above k t (others n)) },
        walk (k + length n.edges) (t + others n) (before ++ row ∷ []) ns more shifted (next_above before k t (others n) n ns rise) (λ i j d h l. rise (suc i) (suc j) d (omega (arith, h)) (omega (arith, l)))
            (All-tail (IsInTile level tile) n ns lie) (All-tail NodeFits row rest fit),
      )

first_above : (nodes : List WorkNode) → IsAbove [] nodes
first_above [] = tt
first_above (n ∷ ns) = λ k t c. refl

pub nodes_pass : NumberedNodesPass
nodes_pass tiles rows low rise lie fit = walk tiles rows.level rows.tile low 0 0 [] rows.nodes refl refl (first_above rows.nodes) rise lie fit

-- ---- counts

module _ (tiles : List WorkRows) (level : ℕ) where
  pub edges_counted : (k t : ℕ) (nodes : List WorkNode) → edges_of_nodes (numbered_nodes tiles level k t nodes) ≡ sum_by (λ n. length n.edges) nodes
  edges_counted k t [] = refl
  edges_counted k t (n ∷ ns) =
      let others = length (other_nodes tiles level n) in
      sum_by-cons (λ (r : NodeFields). r.edge_count) (numbered_node k t others n) (numbered_nodes tiles level (k + length n.edges) (t + others) ns)
      ∙ ap (λ s. length n.edges + s) (edges_counted (k + length n.edges) (t + others) ns)
      ∙ sym (sum_by-cons (λ (m : WorkNode). length m.edges) n ns)

  pub transitions_counted : (k t : ℕ) (nodes : List WorkNode) → transitions_of_nodes (numbered_nodes tiles level k t nodes) ≡ length (others_in tiles level nodes)
  transitions_counted k t [] = refl
  transitions_counted k t (n ∷ ns) =
      let others = length (other_nodes tiles level n) in
      sum_by-cons (λ (r : NodeFields). r.transition_count) (numbered_node k t others n) (numbered_nodes tiles level (k + length n.edges) (t + others) ns)
      ∙ ap (λ s. others + s) (transitions_counted (k + length n.edges) (t + others) ns)
      ∙ sym (length-append (other_nodes tiles level n) (others_in tiles level ns))

  pub nodes_counted : (k t : ℕ) (nodes : List WorkNode) → length (numbered_nodes tiles level k t nodes) ≡ length nodes
  nodes_counted k t [] = refl
  nodes_counted k t (n ∷ ns) = ap suc (nodes_counted (k + length n.edges) (t + length (other_nodes tiles level n)) ns)
