-- What the rows at hand tell of a junction.
use Rattle.std.proofs.Common.{◌≡◌, ℕ, ◌==◌, Some, None, List, [], length, map, get_or, refl, sym, ap, ◌∙◌}
use Rattle.std.specs.Prelude.{slice_get, position}
use Rattle.std.specs.Ordering.{int_eq}
use Rattle.std.proofs.lemmas.Bool.{eqb-true}
use Rattle.std.proofs.lemmas.List.Quantifiers.{position-Some}
use Rattle.std.proofs.lemmas.Option.{slice_get_read, slice_get-get_or}
use Rattle.work_tile.specs.Places.{tile_number}
use Rattle.work_tile.specs.WorkRows.{WorkNode, WorkRows}
use Rattle.enhancer.specs.declared.held.Held.{Held}
use Rattle.enhancer.specs.declared.names.NodeName.{NodeName}
use Rattle.enhancer.specs.ReadableRows.{plain_edge, plain_node}
use Rattle.enhancer.specs.Graph.{at_position, edges_of_node, edges_in_rows, edges_at}
use Rattle.enhancer.specs.Tells.{Holds}

-- the rows that are at hand of a place
pub held_rows : (held : List Held) (ps : List WorkRows) (j h : ℕ) (x : Held) → Holds held ps → Some h ≡ position (λ y. y.place == j) held
    → slice_get ps j ≡ Some (get_or held h x).rows
held_rows held ps j h x holds e =
    let found = position-Some (λ y. y.place == j) held h x (sym e) in
    let place : (get_or held h x).place ≡ j = eqb-true (get_or held h x).place j found.1 in
    ap (λ i. slice_get ps i) (sym place) ∙ holds.stands h (get_or held h x) (slice_get-get_or held h x found.0)

module _ (places : List ℕ) (ps : List WorkRows) (held : List Held) (level : ℕ) (at : NodeName) where
  pub edges-no_tile : None ≡ position (λ n. n == tile_number level at.tile) places → edges_at places ps level at ≡ []
  edges-no_tile e = ap (λ o. edges_in_rows at.osm (at_position ps o)) (sym e)

  rows_here : (j h : ℕ) (x : Held) → Holds held ps → Some j ≡ position (λ n. n == tile_number level at.tile) places
      → Some h ≡ position (λ y. y.place == j) held
      → edges_at places ps level at ≡ edges_in_rows at.osm (Some (get_or held h x).rows)
  rows_here j h x holds tile there =
      ap (λ o. edges_in_rows at.osm (at_position ps o)) (sym tile)
      ∙ ap (edges_in_rows at.osm) (held_rows held ps j h x holds there)

  pub edges-no_node : (j h : ℕ) (x : Held) → Holds held ps → Some j ≡ position (λ n. n == tile_number level at.tile) places
      → Some h ≡ position (λ y. y.place == j) held
      → None ≡ position (λ n. int_eq n.osm at.osm) (get_or held h x).rows.nodes → edges_at places ps level at ≡ []
  edges-no_node j h x holds tile there none =
      rows_here j h x holds tile there ∙ ap (λ o. edges_of_node (at_position (get_or held h x).rows.nodes o)) (sym none)

  pub edges-node : (j h i : ℕ) (x : Held) (node : WorkNode) → Holds held ps → Some j ≡ position (λ n. n == tile_number level at.tile) places
      → Some h ≡ position (λ y. y.place == j) held
      → Some i ≡ position (λ n. int_eq n.osm at.osm) (get_or held h x).rows.nodes → plain_node node ≡ get_or (get_or held h x).rows.nodes i (plain_node node)
      → edges_at places ps level at ≡ map plain_edge node.edges
  edges-node j h i x node holds tile there found here =
      let inside = position-Some (λ n. int_eq n.osm at.osm) (get_or held h x).rows.nodes i (plain_node node) (sym found) in
      rows_here j h x holds tile there
      ∙ ap (λ o. edges_of_node (at_position (get_or held h x).rows.nodes o)) (sym found)
      ∙ ap edges_of_node (slice_get_read (get_or held h x).rows.nodes (length (get_or held h x).rows.nodes) i (plain_node node) refl inside.0 here)
