-- Keeping the edges of the rows of a stage keeps its directed pieces.
use Rattle.std.proofs.Common.{◌≡◌, ℕ, refl, ◌∙◌, ap, List, [], ◌∷◌, length, map, ℤ, Bool, true, false, not, arith}
use Rattle.std.specs.Prelude.{nat_eq, nat_lt, bit_and, bit_or}
use Rattle.std.specs.List.{filter}
use Rattle.std.proofs.lemmas.Bool.{lt-ltb}
use Rattle.std.proofs.lemmas.Nat.{or_comm}
use Rattle.osm_model.specs.declared.extract.Extract.{Extract}
use Rattle.road_pieces.specs.DirectedPiece.{DirectedPiece}
use Rattle.road_pieces.specs.Rules.{way_access}
use Rattle.road_walks.specs.Orders.{not_none}
use Rattle.road_walks.specs.Stages.{StageNode, StageTile, keep_row, keep_tile, keep_tiles}
use Rattle.folder_spec.specs.Rows.{keeps_piece}
use Rattle.work_tile.specs.WorkRows.{WorkNode}
use Rattle.access_filter.specs.Kept.{is_kept_edge, kept_node, kept_nodes, kept_rows, kept_tiles}
use Rattle.edge_builder.specs.ExtractRows.{node_tile, edge_of_extract, node_of_extract, rows_of_stage}
use Rattle.kept_rows.specs.KeptRows.{open_numbers}
use Rattle.kept_rows.proofs.ListFacts.{filter_values, map_alike}

-- there are values where there are elements
pub some_values : {A B : Type 0} (f : A → B) (es : List A) → nat_lt 0 (length (map f es)) ≡ not_none es
some_values f [] = refl
some_values f (e ∷ es) = lt-ltb 0 (length (map f (e ∷ es))) (omega arith)

module _ (x : Extract) (asked : ℕ) where
  -- the folder keeps the piece
  abbrev pub folder_keeps : DirectedPiece → Bool
  folder_keeps = keeps_piece x asked open_numbers [] (node_tile x)

  -- the accesses of a way in both directions, whichever comes first
  in_either : (way : ℤ) (b : Bool) → bit_or (way_access x way b) (way_access x way (not b)) ≡ bit_or (way_access x way true) (way_access x way false)
  in_either way true = refl
  in_either way false = or_comm (way_access x way false) (way_access x way true)

  keeps_edge : (k : ℕ) (p : DirectedPiece) → is_kept_edge asked (edge_of_extract x k p) ≡ folder_keeps p
  keeps_edge k p = ap (λ modes. not (nat_eq (bit_and modes asked) 0)) (in_either p.way p.forward)

  -- the row of a node of a stage
  abbrev row_of_stage : ℕ → StageNode → WorkNode
  row_of_stage k n = node_of_extract x k n.osm n.edges

  node_keeps : (k : ℕ) (n : StageNode) → kept_node asked (row_of_stage k n) ≡ row_of_stage k (keep_row folder_keeps n)
  node_keeps k n =
      ap (λ edges. record (node_of_extract x k n.osm []) { edges = edges }) (filter_values (edge_of_extract x k) (is_kept_edge asked) folder_keeps (keeps_edge k) n.edges)

  nodes_keep : (k : ℕ) (ns : List StageNode) → kept_nodes asked (map (row_of_stage k) ns) ≡ map (row_of_stage k) (filter (λ n. not_none n.edges) (map (keep_row folder_keeps) ns))
  unfolding kept_nodes
  nodes_keep k ns =
      ap (filter (λ n. nat_lt 0 (length n.edges))) (map_alike (row_of_stage k) (kept_node asked) (keep_row folder_keeps) (row_of_stage k) (node_keeps k) ns)
      ∙ filter_values (row_of_stage k) (λ n. nat_lt 0 (length n.edges)) (λ n. not_none n.edges) (λ n. some_values (edge_of_extract x k) n.edges) (map (keep_row folder_keeps) ns)

  rows_keep : (t : StageTile) → kept_rows asked (rows_of_stage x t) ≡ rows_of_stage x (keep_tile folder_keeps t)
  rows_keep t = ap (λ nodes. record { level = t.level; tile = t.tile; nodes = nodes }) (nodes_keep t.level t.nodes)

  -- what is kept of the rows of tiles are the rows of the tiles that keep those pieces
  pub stage_keeps : (ts : List StageTile) → kept_tiles asked (map (rows_of_stage x) ts) ≡ map (rows_of_stage x) (keep_tiles folder_keeps ts)
  unfolding kept_tiles
  stage_keeps ts =
      ap (filter (λ tile. nat_lt 0 (length tile.nodes))) (map_alike (rows_of_stage x) (kept_rows asked) (keep_tile folder_keeps) (rows_of_stage x) rows_keep ts)
      ∙ filter_values (rows_of_stage x) (λ tile. nat_lt 0 (length tile.nodes)) (λ t. not_none t.nodes) (λ t. some_values (row_of_stage t.level) t.nodes) (map (keep_tile folder_keeps) ts)
