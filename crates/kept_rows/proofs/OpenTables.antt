-- The table of a format with a mode to which no node is open: each link is a base edge, so that a tile is that of a stage.
use Rattle.std.proofs.Common.{◌≡◌, ℕ, zero, suc, refl, sym, ◌∙◌, ap, List, [], ◌∷◌, ◌++◌, map, ℤ, Bool, true, false, cond, not, ◌&&◌, arith}
use Rattle.std.specs.Prelude.{nat_eq, nat_le, bit_and}
use Rattle.std.specs.List.{filter}
use Rattle.std.specs.Ordering.{int_eq}
use Rattle.std.specs.Int.Bits.{and_zero_r}
use Rattle.std.proofs.lemmas.Bool.{eqb-true}
use Rattle.std.proofs.lemmas.Nat.{and_assoc}
use Rattle.osm_model.specs.declared.tags.Tag.{Tag}
use Rattle.osm_model.specs.declared.extract.Extract.{Extract}
use Rattle.way_tags.specs.Nodes.{is_passed}
use Rattle.way_tags.proofs.Words.{within_all}
use Rattle.road_pieces.specs.DirectedPiece.{DirectedPiece}
use Rattle.road_pieces.specs.Pieces.{piece_end}
use Rattle.road_pieces.specs.Rules.{node_access, node_tags, names_of, way_tags}
use Rattle.road_pieces.proofs.Members.{of_map}
use Rattle.road_walks.specs.BaseEdges.{directed_pieces, is_same, reverse_of}
use Rattle.road_walks.specs.Orders.{same_texts}
use Rattle.road_walks.specs.Stages.{stage_node, stage_tile, stage}
use Rattle.folder_spec.specs.Chains.{most_chain_edges, piece_level, piece_class, access_of}
use Rattle.folder_spec.specs.FolderWalks.{from_node, to_node}
use Rattle.folder_spec.specs.Links.{base_link}
use Rattle.folder_spec.specs.Tables.{NodeRow}
use Rattle.folder_spec.specs.Rows.{first_and_more, is_flagged, is_masked, are_alike, are_two, is_contractible, ways_on, chain_on, longest_chain, is_chain, kept_at, level_edges_at, links_at, row_at, nodes_in, tiles_on, rows_of, rows_on}
use Rattle.edge_builder.specs.ExtractRows.{node_tile, node_of_extract, rows_of_stage}
use Rattle.kept_rows.specs.KeptRows.{open_numbers, rows_of_table}
use Rattle.kept_rows.proofs.ListFacts.{filter_none, map_alike}
use Rattle.kept_rows.proofs.KeptStages.{folder_keeps}

-- ---- no node is open to all modes

bits_apart : (a b : ℕ) → bit_and b 79 ≡ b → bit_and (bit_and a b) 16 ≡ 0
bits_apart a b within =
    ap (λ n. bit_and (bit_and a n) 16) (sym within)
    ∙ (ap (λ n. bit_and n 16) (sym (and_assoc 79 a b)) ∙ (and_assoc 16 (bit_and a b) 79 ∙ and_zero_r (bit_and a b)))

never_all : (b : ℕ) → bit_and b 79 ≡ b → nat_eq (bit_and 95 b) 95 ≡ false
never_all b within = by (nat_eq (bit_and 95 b) 95) refl
  where
    by : (t : Bool) → nat_eq (bit_and 95 b) 95 ≡ t → t ≡ false
    by true e =
        let some : 16 ≡ 0 = ap (λ n. bit_and n 16) (sym (eqb-true (bit_and 95 b) 95 e)) ∙ bits_apart 95 b within in
        absurd (omega (arith, some))
    by false e = refl

not_open : (tags : List Tag) → nat_eq (bit_and 95 (node_access tags)) 95 ≡ false
unfolding node_access
not_open tags = never_all (node_access tags) (within_all (is_passed tags))

-- ---- so that no link is a shortcut

fails : (a b : Bool) → b ≡ false → (a && b) ≡ false
fails true b e = e
fails false b e = refl

first_fails : (a b : Bool) → a ≡ false → (a && b) ≡ false
first_fails a b e = ap (λ t. t && b) e

module _ (x : Extract) (asked : ℕ) where
  abbrev pub edges_on : ℕ → ℤ → List DirectedPiece
  edges_on k n = level_edges_at x asked open_numbers [] (node_tile x) k n

  not_alike : (n : ℤ) (p q : DirectedPiece) → are_alike x asked open_numbers [] (node_tile x) n p q ≡ false
  not_alike n p q =
      fails (not (is_same p q)) _ (fails (not (is_same (reverse_of p) q)) _ (fails (not (int_eq (piece_end x p) n)) _ (fails (not (int_eq (piece_end x q) n)) _
      (fails (not (is_flagged x asked open_numbers [] (node_tile x) p)) _ (fails (not (is_flagged x asked open_numbers [] (node_tile x) q)) _ (fails (nat_eq (piece_class x p) (piece_class x q)) _
      (fails (same_texts (names_of (way_tags x p.way)) (names_of (way_tags x q.way))) _ (fails (nat_eq (access_of x (reverse_of p)) (access_of x q)) _ (fails (nat_eq (access_of x (reverse_of q)) (access_of x p)) _
      (first_fails (nat_eq (bit_and 95 (node_access (node_tags x n))) 95) (not (is_masked x asked open_numbers [] (node_tile x) (reverse_of p) q) && not (is_masked x asked open_numbers [] (node_tile x) (reverse_of q) p))
      (not_open (node_tags x n))))))))))))

  not_two : (n : ℤ) (ps : List DirectedPiece) → are_two x asked open_numbers [] (node_tile x) n ps ≡ false
  not_two n [] = refl
  not_two n (p ∷ []) = refl
  not_two n (p ∷ (q ∷ [])) = not_alike n p q
  not_two n (p ∷ (q ∷ (r ∷ rs))) = refl

  no_way_on : (k : ℕ) (p : DirectedPiece) → ways_on x asked open_numbers [] (node_tile x) k p ≡ []
  no_way_on k p =
      ap (λ b. cond b (filter (λ q. not (is_same q p) && not (is_same q (reverse_of p))) (edges_on k (piece_end x p))) []) (not_two (piece_end x p) (edges_on k (piece_end x p)))

  no_chain_on : (fuel k : ℕ) (p : DirectedPiece) → chain_on x asked open_numbers [] (node_tile x) fuel k p ≡ []
  no_chain_on zero k p = refl
  no_chain_on (suc fuel) k p = ap (first_and_more (chain_on x asked open_numbers [] (node_tile x) fuel k)) (no_way_on k p)

  -- a link by its parts, where nothing comes after its first edge
  not_chain : (k : ℕ) (p : DirectedPiece) (more : List DirectedPiece) → more ≡ [] → is_chain x asked open_numbers [] (node_tile x) k (record { first = p; more = more }) ≡ false
  not_chain k p more none =
      ap (λ m. is_chain x asked open_numbers [] (node_tile x) k (record { first = p; more = m })) none
      ∙ fails (nat_le k 1) _ (fails (not (int_eq (from_node x (base_link p)) (to_node x (base_link p)))) _ (fails (not (is_contractible x asked open_numbers [] (node_tile x) k (from_node x (base_link p)))) _
      (fails (not (is_contractible x asked open_numbers [] (node_tile x) k (to_node x (base_link p)))) _ refl)))

  pub open_links_are : (k : ℕ) (n : ℤ) → links_at x asked open_numbers [] (node_tile x) k n ≡ map base_link (edges_on k n)
  open_links_are k n =
      ap (λ l. l ++ map base_link (edges_on k n))
      (filter_none (is_chain x asked open_numbers [] (node_tile x) k) (map (longest_chain x asked open_numbers [] (node_tile x) k) (edges_on k n))
      (λ l h. let (p, (is, e)) = of_map (longest_chain x asked open_numbers [] (node_tile x) k) (edges_on k n) l h in
      ap (is_chain x asked open_numbers [] (node_tile x) k) (sym e) ∙ not_chain k p (chain_on x asked open_numbers [] (node_tile x) most_chain_edges k p) (no_chain_on most_chain_edges k p)))

-- ---- the rows

-- the first pieces of base edges
first_pieces : {P : Type 0} (ps : List P) → map (λ l. l.first) (map base_link ps) ≡ ps
first_pieces [] = refl
first_pieces (p ∷ ps) = ap (λ l. p ∷ l) (first_pieces ps)

-- what passes both tests
filter_both : {E : Type 0} (f g : E → Bool) (es : List E) → filter (λ e. f e && g e) es ≡ filter g (filter f es)
filter_both f g [] = refl
filter_both f g (e ∷ es) = by (f e) (filter_both f g es)
  where
    by : (b : Bool) → filter (λ e. f e && g e) es ≡ filter g (filter f es) → cond (b && g e) (e ∷ filter (λ e. f e && g e) es) (filter (λ e. f e && g e) es) ≡ filter g (cond b (e ∷ filter f es) (filter f es))
    by true rest = ap (λ l. cond (g e) (e ∷ l) l) rest
    by false rest = rest

module _ (x : Extract) (asked : ℕ) where
  -- the kept pieces, and those of a level
  abbrev pub kept_pieces : List DirectedPiece
  kept_pieces = filter (folder_keeps x asked) (directed_pieces x)

  abbrev pub kept_on : ℕ → List DirectedPiece
  kept_on k = filter (λ p. nat_eq (piece_level x p) k) kept_pieces

  abbrev open_row : ℕ → ℤ → NodeRow
  open_row k n = row_at x asked open_numbers [] (node_tile x) k n

  tile_rows : (k c : ℕ) → rows_of_table x (rows_of x asked open_numbers [] (node_tile x) k c) ≡ rows_of_stage x (stage_tile x (node_tile x) (kept_at x asked open_numbers [] (node_tile x) k) k c)
  tile_rows k c =
      ap (λ nodes. record { level = k; tile = c; nodes = nodes })
      (map_alike (open_row k) (λ r. node_of_extract x k r.osm (map (λ l. l.first) r.links)) (stage_node x (node_tile x) (kept_at x asked open_numbers [] (node_tile x) k)) (λ n. node_of_extract x k n.osm n.edges)
      (λ n. ap (node_of_extract x k n) (ap (map (λ l. l.first)) (open_links_are x asked k n) ∙ first_pieces (edges_on x asked k n))) (nodes_in x asked open_numbers [] (node_tile x) k c))

  -- the rows of a level of the table are those of the stage of its kept pieces
  pub level_rows : (k : ℕ) → map (rows_of_table x) (rows_on x asked open_numbers [] (node_tile x) k) ≡ map (rows_of_stage x) (stage x (node_tile x) (kept_on k) k)
  level_rows k =
      map_alike (rows_of x asked open_numbers [] (node_tile x) k) (rows_of_table x) (stage_tile x (node_tile x) (kept_at x asked open_numbers [] (node_tile x) k) k) (rows_of_stage x) (tile_rows k) (tiles_on x asked open_numbers [] (node_tile x) k)
      ∙ ap (λ ps. map (rows_of_stage x) (stage x (node_tile x) ps k)) (filter_both (folder_keeps x asked) (λ p. nat_eq (piece_level x p) k) (directed_pieces x))
