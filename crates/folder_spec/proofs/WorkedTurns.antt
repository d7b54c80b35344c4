-- Masks and sequences of a folder, worked out on four streets that meet at node 5.
use Rattle.std.proofs.Common.{◌≡◌, ℕ, List, [], ◌∷◌, length, map, refl, true, false}
use Rattle.road_pieces.specs.DirectedPiece.{DirectedPiece}
use Rattle.road_pieces.specs.Rules.{is_routable, is_barrier, class_of, forward_access, backward_access, node_access, names_of}
use Rattle.road_walks.specs.BaseEdges.{tile_numbers}
use Rattle.road_walks.proofs.WorkedStars.{four_streets, into, out_of}
use Rattle.tile_geometry.specs.Grid.{grid_tile, row_of, column_of}
use Rattle.tile_graph.specs.Tiles.{TileFields}
use Rattle.folder_spec.specs.Folder.{folder_tiles}

abbrev with_patterns : List (List DirectedPiece × ℕ) → List TileFields
with_patterns patterns = folder_tiles four_streets 1 tile_numbers (record { patterns = patterns; not_thru = λ p. false })

-- no left turn from street 1 to street 2: a bit in the mask of the edge from node 1, and no sequence
abbrev no_left_turn : List TileFields
no_left_turn = with_patterns ((into 1 ∷ (out_of 2 ∷ []), 77) ∷ [])

its_masks : map (λ t. map (λ e. e.mask) t.edges) no_left_turn ≡ (2 ∷ 0 ∷ 0 ∷ 0 ∷ 0 ∷ 0 ∷ 0 ∷ 0 ∷ []) ∷ []
unfolding is_routable is_barrier class_of forward_access backward_access node_access names_of grid_tile row_of column_of
its_masks = refl

no_sequences : map (λ t. length t.sequences) no_left_turn ≡ 0 ∷ []
unfolding is_routable is_barrier class_of forward_access backward_access node_access names_of grid_tile row_of column_of
no_sequences = refl

-- only straight on from street 1 to street 3, buses excepted: three sequences of modes 13, and no bit; the edges of
-- streets 1, 2 and 4 are flagged in both directions
abbrev straight_on : List TileFields
straight_on = with_patterns ((into 1 ∷ (out_of 1 ∷ []), 13) ∷ (into 1 ∷ (out_of 2 ∷ []), 13) ∷ (into 1 ∷ (out_of 4 ∷ []), 13) ∷ [])

no_masks : map (λ t. map (λ e. e.mask) t.edges) straight_on ≡ (0 ∷ 0 ∷ 0 ∷ 0 ∷ 0 ∷ 0 ∷ 0 ∷ 0 ∷ []) ∷ []
unfolding is_routable is_barrier class_of forward_access backward_access node_access names_of grid_tile row_of column_of
no_masks = refl

its_modes : map (λ t. map (λ s. s.1) t.sequences) straight_on ≡ (13 ∷ 13 ∷ 13 ∷ []) ∷ []
unfolding is_routable is_barrier class_of forward_access backward_access node_access names_of grid_tile row_of column_of
its_modes = refl

its_flags : map (λ t. map (λ e. e.flagged) t.edges) straight_on ≡ (true ∷ true ∷ false ∷ true ∷ true ∷ true ∷ false ∷ true ∷ []) ∷ []
unfolding is_routable is_barrier class_of forward_access backward_access node_access names_of grid_tile row_of column_of
its_flags = refl
