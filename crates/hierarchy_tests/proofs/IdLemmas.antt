-- The ids of nodes that are put into tiles.
use Rattle.std.proofs.Common.{◌≡◌, ℕ, ◌<◌, lit<, arith, pos, List, [], ◌∷◌, ◌++◌, map, sym, ap, subst, ◌∙◌, inl, inr}
use Rattle.std.specs.List.{flat_map}
use Rattle.std.proofs.lemmas.List.{append-nil, map-append}
use Rattle.std.proofs.lemmas.Int.{ints}
use Rattle.road_pieces.specs.declared.rows.Junction.{Junction}
use Rattle.road_pieces.specs.Among.{Once}
use Rattle.work_tile.specs.declared.edge_rows.WorkEdge.{WorkEdge}
use Rattle.work_tile.specs.WorkRows.{WorkNode, WorkRows, work_node_with, with_edge}
use Rattle.hierarchy.specs.Spots.{OwnNodes}
use Rattle.hierarchy_tests.specs.Ids.{ids_of}

-- whatever the last node was, the edge stands behind its own
abbrev pub IsPut : WorkRows → WorkRows → WorkEdge → Type 0
IsPut before after edge = (front : List WorkNode) (last : WorkNode) → before.nodes ≡ front ++ last ∷ [] → after ≡ record before { nodes = front ++ with_edge last edge ∷ [] }

pub node_added : (before with_node with_one after : WorkRows) (j : Junction) (one other : WorkEdge) → with_node ≡ record before { nodes = before.nodes ++ work_node_with j [] ∷ [] }
    → IsPut with_node with_one one → IsPut with_one after other → ids_of after ≡ ids_of before ++ j.osm ∷ []
node_added before with_node with_one after j one other node first second =
    let step : with_one ≡ record with_node { nodes = before.nodes ++ with_edge (work_node_with j []) one ∷ [] } = first before.nodes (work_node_with j []) (ap (λ r. r.nodes) node) in
    let last : after ≡ record with_one { nodes = before.nodes ++ with_edge (with_edge (work_node_with j []) one) other ∷ [] } = second before.nodes (with_edge (work_node_with j []) one) (ap (λ r. r.nodes) step) in
    ap ids_of last ∙ map-append (λ n. n.osm) before.nodes (with_edge (with_edge (work_node_with j []) one) other ∷ [])

-- different ids
apart : (a b : ℕ) → b < a → pos a ≡ pos b → ⊥
apart a b low e = omega (arith, ints, low, e)

other : (a b : ℕ) → a < b → pos a ≡ pos b → ⊥
other a b low e = omega (arith, ints, low, e)

four_once : Once (pos 20 ∷ (pos 40 ∷ (pos 10 ∷ (pos 30 ∷ []))))
four_once = (
  λ h. elim h [ inl e ↦ apart 40 20 (lit< tt) e | inr h ↦ elim h [ inl e ↦ other 10 20 (lit< tt) e | inr h ↦ elim h [ inl e ↦ apart 30 20 (lit< tt) e | inr h ↦ h ] ] ],
  (
    λ h. elim h [ inl e ↦ other 10 40 (lit< tt) e | inr h ↦ elim h [ inl e ↦ other 30 40 (lit< tt) e | inr h ↦ h ] ],
    (λ h. elim h [ inl e ↦ apart 30 10 (lit< tt) e | inr h ↦ h ], (λ h. h, tt)),
  ),
)

pub own_nodes : (tiles : List WorkRows) (first second : WorkRows) → tiles ≡ first ∷ second ∷ [] → ids_of first ≡ pos 20 ∷ pos 40 ∷ [] → ids_of second ≡ pos 10 ∷ pos 30 ∷ [] → OwnNodes tiles
own_nodes tiles first second are one two = record {
  once =
      subst Once
      (sym (ap (map (λ n. n.osm)) (ap (flat_map (λ t. t.nodes)) are ∙ ap (λ l. first.nodes ++ l) (append-nil second.nodes))
      ∙ (map-append (λ n. n.osm) first.nodes second.nodes ∙ (λ i. one i ++ two i))))
      four_once;
}
