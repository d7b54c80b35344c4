-- The links of a tile of the folder begin with the kept directed pieces that start there.
use Rattle.std.proofs.Common.{◌≡◌, ℕ, ◌∙◌, refl, sym, ap, subst, List, [], ◌∷◌, map, filter, ℤ, Bool, true, ◌&&◌, inl, inr, nat_eq}
use Rattle.std.specs.Prelude.{int_lt}
use Rattle.std.specs.Ordering.{int_eq}
use Rattle.std.specs.Cmp.{signed_Decides}
use Rattle.std.proofs.lemmas.Bool.{and_parts}
use Rattle.osm_model.specs.declared.extract.Extract.{Extract}
use Rattle.road_pieces.specs.DirectedPiece.{DirectedPiece}
use Rattle.road_pieces.specs.Pieces.{piece_start}
use Rattle.road_pieces.proofs.Members.{IsIn, of_append, in_right, in_flat, of_flat, in_map, of_map}
use Rattle.road_walks.specs.BaseEdges.{FormatNumbers, directed_pieces}
use Rattle.road_walks.proofs.Locals.{in_filter, and_both}
use Rattle.road_walks.proofs.Sorted.{of_filter, in_rising, of_rising, nodes_connected}
use Rattle.folder_spec.specs.Links.{Link, base_link}
use Rattle.folder_spec.specs.Chains.{piece_level}
use Rattle.folder_spec.specs.Tables.{TileRows, links_of}
use Rattle.folder_spec.specs.Rows.{keeps_piece, kept_at, level_edges_at, longest_chain, is_chain, links_at, row_at, nodes_in, tiles_on, rows_of, rows_on, extract_table}
use Rattle.folder_spec.specs.Folder.{Given, tile_number, starts_on}

-- the first pieces of the links of a tile
abbrev pub firsts_of : TileRows → List DirectedPiece
firsts_of rows = map (λ l. l.first) (links_of rows)

module _ (x : Extract) (asked : ℕ) (numbers : FormatNumbers) (given : Given) where
  abbrev tile_of : ℕ → ℤ → ℕ
  tile_of = tile_number x asked numbers given

  abbrev its_rows : ℕ → ℕ → TileRows
  its_rows k c = rows_of x asked numbers given.patterns tile_of k c

  abbrev at_node : ℕ → ℤ → List DirectedPiece
  at_node k n = level_edges_at x asked numbers given.patterns tile_of k n

  abbrev on_level : ℕ → DirectedPiece → Bool
  on_level k p = keeps_piece x asked numbers given.patterns tile_of p && nat_eq (piece_level x p) k

  -- a link at a node begins with a base edge of the node
  of_link : (k : ℕ) (n : ℤ) (l : Link DirectedPiece) → IsIn (links_at x asked numbers given.patterns tile_of k n) l → IsIn (at_node k n) l.first
  of_link k n l h =
      let chains = map (longest_chain x asked numbers given.patterns tile_of k) (at_node k n) in
      elim (of_append (filter (is_chain x asked numbers given.patterns tile_of k) chains) (map base_link (at_node k n)) l h) [
        | inl chain ↦ (
            let (listed, _) = of_filter (is_chain x asked numbers given.patterns tile_of k) chains l chain in
            let (p, (there, is)) = of_map (longest_chain x asked numbers given.patterns tile_of k) (at_node k n) l listed in
            subst (λ m. IsIn (at_node k n) m.first) is there
            )
        | inr base ↦ (
            let (p, (there, is)) = of_map base_link (at_node k n) l base in
            subst (λ m. IsIn (at_node k n) m.first) is there
            )
      ]

  pub of_firsts : (k c : ℕ) (p : DirectedPiece) → IsIn (firsts_of (its_rows k c)) p → IsIn (directed_pieces x) p × (starts_on x asked numbers given k c p ≡ true)
  of_firsts k c p h =
      let nodes = nodes_in x asked numbers given.patterns tile_of k c in
      let row = row_at x asked numbers given.patterns tile_of k in
      let (l, (linked, first)) = of_map (λ m. m.first) (links_of (its_rows k c)) p h in
      let (r, (among, at)) = of_flat (λ s. s.links) (map row nodes) l linked in
      let (n, (on, is)) = of_map row nodes r among in
      let there : IsIn (at_node k n) p = subst (IsIn (at_node k n)) first (of_link k n l (subst (λ s. IsIn s.links l) (sym is) at)) in
      let (kept, starts) = of_filter (λ q. int_eq (piece_start x q) n) (kept_at x asked numbers given.patterns tile_of k) p there in
      let (listed, passes) = of_filter (on_level k) (directed_pieces x) p kept in
      let (keeps, level) = and_parts (keeps_piece x asked numbers given.patterns tile_of p) (nat_eq (piece_level x p) k) passes in
      let begun = map (piece_start x) (kept_at x asked numbers given.patterns tile_of k) in
      let (_, tile) = of_filter (λ m. nat_eq (tile_of k m) c) begun n (of_rising int_lt nodes_connected (filter (λ m. nat_eq (tile_of k m) c) begun) n on) in
      let its_tile : nat_eq (tile_of k (piece_start x p)) c ≡ true = ap (λ m. nat_eq (tile_of k m) c) ((signed_Decides (piece_start x p) n).0 starts) ∙ tile in
      (listed, and_both (keeps_piece x asked numbers given.patterns tile_of p) (nat_eq (piece_level x p) k && nat_eq (tile_of k (piece_start x p)) c) keeps (and_both (nat_eq (piece_level x p) k) (nat_eq (tile_of k (piece_start x p)) c) level its_tile))

  pub in_firsts : (k c : ℕ) (p : DirectedPiece) → IsIn (directed_pieces x) p → starts_on x asked numbers given k c p ≡ true → IsIn (firsts_of (its_rows k c)) p
  in_firsts k c p listed starts =
      let (keeps, rest) = and_parts (keeps_piece x asked numbers given.patterns tile_of p) (nat_eq (piece_level x p) k && nat_eq (tile_of k (piece_start x p)) c) starts in
      let (level, tile) = and_parts (nat_eq (piece_level x p) k) (nat_eq (tile_of k (piece_start x p)) c) rest in
      let n = piece_start x p in
      let row = row_at x asked numbers given.patterns tile_of k in
      let all_kept = kept_at x asked numbers given.patterns tile_of k in
      let kept : IsIn all_kept p = in_filter (on_level k) (directed_pieces x) p listed (and_both (keeps_piece x asked numbers given.patterns tile_of p) (nat_eq (piece_level x p) k) keeps level) in
      let there : IsIn (at_node k n) p = in_filter (λ q. int_eq (piece_start x q) n) all_kept p kept ((signed_Decides n n).1 refl) in
      let begun = map (piece_start x) all_kept in
      let node : IsIn (nodes_in x asked numbers given.patterns tile_of k c) n = in_rising int_lt nodes_connected (filter (λ m. nat_eq (tile_of k m) c) begun) n (in_filter (λ m. nat_eq (tile_of k m) c) begun n (in_map (piece_start x) all_kept p kept) tile) in
      let link : IsIn (links_at x asked numbers given.patterns tile_of k n) (base_link p) =
      in_right (filter (is_chain x asked numbers given.patterns tile_of k) (map (longest_chain x asked numbers given.patterns tile_of k) (at_node k n))) (map base_link (at_node k n)) (base_link p) (in_map base_link (at_node k n) p there) in
      in_map (λ l. l.first) (links_of (its_rows k c)) (base_link p)
      (in_flat (λ r. r.links) (map row (nodes_in x asked numbers given.patterns tile_of k c)) (row n) (base_link p) (in_map row (nodes_in x asked numbers given.patterns tile_of k c) n node) link)

  -- the rows of a tile of the table
  pub rows_by_number : (rows : TileRows) → IsIn (extract_table x asked numbers given.patterns tile_of).tiles rows → rows ≡ its_rows rows.level rows.tile
  rows_by_number rows h =
      let (k, (_, on)) = of_flat (rows_on x asked numbers given.patterns tile_of) (0 ∷ (1 ∷ (2 ∷ []))) rows h in
      let (c, (_, is)) = of_map (its_rows k) (tiles_on x asked numbers given.patterns tile_of k) rows on in
      sym is ∙ ap (λ r. its_rows r.level r.tile) is
