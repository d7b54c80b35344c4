-- What others may read of a tile stays as it is where the tile is enhanced.
use Rattle.std.specs.Prelude.{◌≡◌, ℕ, ℤ, List, [], ◌∷◌, map, refl}
use Rattle.std.proofs.Common.{ap, ◌∙◌}
use Rattle.road_pieces.specs.declared.rows.Piece.{Piece}
use Rattle.work_tile.specs.declared.edge_rows.WorkEdge.{WorkEdge}
use Rattle.work_tile.specs.WorkRows.{WorkNode, WorkRows}
use Rattle.enhancer.specs.ReadableRows.{plain_edge, plain_node, plain_rows}
use Rattle.enhancer.specs.Enhanced.{enhanced_edge, enhanced_node, enhanced_at}

module _ (pieces : List Piece) (places : List ℕ) (ps : List WorkRows) (level tile : ℕ) where
  edges_stay : (osm : ℤ) (es : List WorkEdge) → map plain_edge (map (enhanced_edge pieces places ps level tile osm) es) ≡ map plain_edge es
  edges_stay osm [] = refl
  edges_stay osm (e ∷ es) = ap (λ xs. plain_edge e ∷ xs) (edges_stay osm es)

  nodes_stay : (ns : List WorkNode) → map plain_node (map (enhanced_node pieces places ps level tile) ns) ≡ map plain_node ns
  nodes_stay [] = refl
  nodes_stay (n ∷ ns) =
      ap (λ es. record (plain_node n) { edges = es } ∷ map plain_node (map (enhanced_node pieces places ps level tile) ns)) (edges_stay n.osm n.edges)
      ∙ ap (λ xs. plain_node n ∷ xs) (nodes_stay ns)

pub stays_plain : (pieces : List Piece) (places : List ℕ) (i : ℕ) (ps : List WorkRows) (rows : WorkRows) → plain_rows (enhanced_at pieces places i ps rows) ≡ plain_rows rows
stays_plain pieces places i ps rows = ap (λ ns. record rows { nodes = ns }) (nodes_stay pieces places ps rows.level rows.tile rows.nodes)
