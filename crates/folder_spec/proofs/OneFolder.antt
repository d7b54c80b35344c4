-- There is one folder: what is given may differ in order alone, and nothing depends on that.
use Rattle.std.proofs.Common.{◌≡◌, ℕ, zero, suc, refl, sym, ◌∙◌, ap, List, [], ◌∷◌, ◌++◌, length, map, ℤ, Bool, true, false, cond, not, ◌&&◌, ◌||◌}
use Rattle.std.specs.Prelude.{filter, nat_eq, nat_le, nat_lt, bit_and}
use Rattle.std.specs.List.{flat_map, list_any}
use Rattle.std.specs.Ordering.{int_eq}
use Rattle.osm_model.specs.declared.extract.Extract.{Extract}
use Rattle.road_pieces.specs.DirectedPiece.{DirectedPiece}
use Rattle.road_pieces.specs.Pieces.{piece_start, piece_end}
use Rattle.road_pieces.specs.Rules.{names_of, way_tags, node_access, node_tags}
use Rattle.road_pieces.proofs.Members.{IsIn, in_map, of_map, in_from_among, among_from_in}
use Rattle.road_walks.specs.Masks.{in_mask}
use Rattle.road_walks.specs.BaseEdges.{FormatNumbers, reverse_of, local_index, is_same}
use Rattle.road_walks.specs.Orders.{number_of_bits, same_texts, sequence_below}
use Rattle.road_walks.proofs.Locals.{in_filter}
use Rattle.road_walks.proofs.Sorted.{of_filter, sequences_connected}
use Rattle.road_walks.proofs.SequenceOrder.{sequence_never, sequence_on, same_rising, same_any, same_answers}
use Rattle.tile_graph.specs.Tiles.{TileFields}
use Rattle.folder_spec.specs.Links.{Link, base_link, edges_of}
use Rattle.folder_spec.specs.Chains.{most_chain_edges, most_edge_cm, access_of, piece_level, piece_class}
use Rattle.folder_spec.specs.FolderWalks.{from_node, to_node, link_cm}
use Rattle.folder_spec.specs.Tables.{TileRows, RowTable}
use Rattle.folder_spec.specs.Rows.{first_and_more, tells, has_bit, mask_of, sequence_patterns, all_kept, stored_patterns, is_flagged, is_masked, are_alike, are_two, is_contractible, ways_on, chain_on, longest_chain, is_chain, links_at, levels_at, level_edges_at, kept_at, row_at, nodes_in, tiles_on, rows_of, rows_on, extract_table}
use Rattle.folder_spec.specs.Records.{ToldFields, is_shortcut, sequence_row_of, starts_in, tile_from}
use Rattle.folder_spec.specs.Folder.{Given, tile_number, told_fields, folder_tiles, files_of, OneFolder}

abbrev Patterns : Type 0
Patterns = List (List DirectedPiece × ℕ)

-- the same elements
record AreSame {E : Type 0} (es fs : List E) : Type 0 where
  to : (e : E) → IsIn es e → IsIn fs e
  from : (e : E) → IsIn fs e → IsIn es e

same_filter : {E : Type 0} (test : E → Bool) (es fs : List E) → AreSame es fs → AreSame (filter test es) (filter test fs)
same_filter test es fs same = record {
  to = λ e h. let (is, passes) = of_filter test es e h in in_filter test fs e (same.to e is) passes;
  from = λ e h. let (is, passes) = of_filter test fs e h in in_filter test es e (same.from e is) passes;
}

same_map : {E F : Type 0} (f : E → F) (es fs : List E) → AreSame es fs → AreSame (map f es) (map f fs)
same_map f es fs same = record {
  to = λ g h. let (e, (is, same_as)) = of_map f es g h in Rattle.std.proofs.Common.subst (IsIn (map f fs)) same_as (in_map f fs e (same.to e is));
  from = λ g h. let (e, (is, same_as)) = of_map f fs g h in Rattle.std.proofs.Common.subst (IsIn (map f es)) same_as (in_map f es e (same.from e is));
}

module _ (x : Extract) (asked : ℕ) (numbers : FormatNumbers) (tile_of : ℕ → ℤ → ℕ) (a b : Patterns) (same : AreSame a b) where
  bit_same : (e : DirectedPiece) (i : ℕ) → has_bit x asked numbers a tile_of e i ≡ has_bit x asked numbers b tile_of e i
  bit_same e i = same_any (tells x numbers e i) a b same.to same.from

  mask_same : (e : DirectedPiece) → mask_of x asked numbers a tile_of e ≡ mask_of x asked numbers b tile_of e
  mask_same e = λ i. number_of_bits (λ j. bit_same e j i) 0 numbers.bits

  sequences_same : AreSame (sequence_patterns x asked numbers a tile_of) (sequence_patterns x asked numbers b tile_of)
  sequences_same = same_filter (λ s. not (in_mask (local_index x) numbers.vehicles numbers.bits s.0 s.1)) a b same

  stored_same : AreSame (stored_patterns x asked numbers a tile_of) (stored_patterns x asked numbers b tile_of)
  stored_same =
      same_filter (λ s. all_kept x asked numbers a tile_of s.0) (sequence_patterns x asked numbers a tile_of) (sequence_patterns x asked numbers b tile_of) sequences_same

  flag_same : (p : DirectedPiece) → is_flagged x asked numbers a tile_of p ≡ is_flagged x asked numbers b tile_of p
  flag_same p =
      same_any (λ s. list_any (λ q. is_same q p || is_same q (reverse_of p)) s.0) (sequence_patterns x asked numbers a tile_of) (sequence_patterns x asked numbers b tile_of) sequences_same.to sequences_same.from

  masked_same : (e f : DirectedPiece) → is_masked x asked numbers a tile_of e f ≡ is_masked x asked numbers b tile_of e f
  masked_same e f = λ i. nat_lt (local_index x f) numbers.bits && bit_same e (local_index x f) i

  alike_same : (n : ℤ) (p q : DirectedPiece) → are_alike x asked numbers a tile_of n p q ≡ are_alike x asked numbers b tile_of n p q
  alike_same n p q =
      λ i. not (is_same p q) && (not (is_same (reverse_of p) q) && (not (int_eq (piece_end x p) n) && (not (int_eq (piece_end x q) n) && (not (flag_same p i) && (not (flag_same q i) && (nat_eq (piece_class x p) (piece_class x q) && (same_texts (names_of (way_tags x p.way)) (names_of (way_tags x q.way)) && (nat_eq (access_of x (reverse_of p)) (access_of x q) && (nat_eq (access_of x (reverse_of q)) (access_of x p) && (nat_eq (bit_and numbers.all (node_access (node_tags x n))) numbers.all && (not (masked_same (reverse_of p) q i) && not (masked_same (reverse_of q) p i))))))))))))

  two_same : (n : ℤ) (es : List DirectedPiece) → are_two x asked numbers a tile_of n es ≡ are_two x asked numbers b tile_of n es
  two_same n [] = refl
  two_same n (p ∷ []) = refl
  two_same n (p ∷ (q ∷ [])) = alike_same n p q
  two_same n (p ∷ (q ∷ (r ∷ rs))) = refl

  contractible_same : (k : ℕ) (n : ℤ) → is_contractible x asked numbers a tile_of k n ≡ is_contractible x asked numbers b tile_of k n
  contractible_same k n = two_same n (level_edges_at x asked numbers a tile_of k n)

  ways_same : (k : ℕ) (p : DirectedPiece) → ways_on x asked numbers a tile_of k p ≡ ways_on x asked numbers b tile_of k p
  ways_same k p =
      λ i. cond (contractible_same k (piece_end x p) i) (filter (λ q. not (is_same q p) && not (is_same q (reverse_of p))) (level_edges_at x asked numbers a tile_of k (piece_end x p))) []

  on_same : (fuel k : ℕ) (p : DirectedPiece) → chain_on x asked numbers a tile_of fuel k p ≡ chain_on x asked numbers b tile_of fuel k p
  on_same zero k p = refl
  on_same (suc fuel) k p = λ i. first_and_more (λ q. on_same fuel k q i) (ways_same k p i)

  longer_same : (fuel k : ℕ) (p : DirectedPiece) → ◌≡◌ {A = Link DirectedPiece} (record { first = p; more = chain_on x asked numbers a tile_of fuel k p }) (record { first = p; more = chain_on x asked numbers b tile_of fuel k p })
  longer_same fuel k p = λ i. record { first = p; more = on_same fuel k p i }

  longest_same : (k : ℕ) (p : DirectedPiece) → longest_chain x asked numbers a tile_of k p ≡ longest_chain x asked numbers b tile_of k p
  longest_same k p = longer_same most_chain_edges k p

  chain_same : (k : ℕ) (l : Link DirectedPiece) → is_chain x asked numbers a tile_of k l ≡ is_chain x asked numbers b tile_of k l
  chain_same k l =
      λ i. nat_le k 1 && (not (int_eq (from_node x l) (to_node x l)) && (not (contractible_same k (from_node x l) i) && (not (contractible_same k (to_node x l) i) && (nat_le 1 (length l.more) && (nat_le (length (edges_of l)) most_chain_edges && nat_le (link_cm x l) most_edge_cm)))))

  links_same : (k : ℕ) (n : ℤ) → links_at x asked numbers a tile_of k n ≡ links_at x asked numbers b tile_of k n
  links_same k n =
      λ i. filter (λ l. chain_same k l i) (map (λ p. longest_same k p i) (level_edges_at x asked numbers a tile_of k n)) ++ map base_link (level_edges_at x asked numbers a tile_of k n)

  row_same : (k : ℕ) (n : ℤ) → row_at x asked numbers a tile_of k n ≡ row_at x asked numbers b tile_of k n
  row_same k n =
      λ i. record { osm = n; links = links_same k n i; levels = levels_at x asked numbers a tile_of k n }

  rows_same : (k c : ℕ) → rows_of x asked numbers a tile_of k c ≡ rows_of x asked numbers b tile_of k c
  rows_same k c =
      λ i. record { level = k; tile = c; nodes = map (λ n. row_same k n i) (nodes_in x asked numbers a tile_of k c) }

  level_same : (k : ℕ) → rows_on x asked numbers a tile_of k ≡ rows_on x asked numbers b tile_of k
  level_same k = λ i. map (λ c. rows_same k c i) (tiles_on x asked numbers a tile_of k)

  tiles_same : (extract_table x asked numbers a tile_of).tiles ≡ (extract_table x asked numbers b tile_of).tiles
  tiles_same = λ i. flat_map (λ k. level_same k i) (0 ∷ (1 ∷ (2 ∷ [])))

-- tiles of tables that differ in the order of their sequences
module _ (x : Extract) (told : ToldFields) (tiles : List TileRows) (mask : DirectedPiece → ℕ) (tile_of : ℕ → ℤ → ℕ) (s r : Patterns) (same : AreSame s r) where
  abbrev With : Patterns → RowTable
  With l = record { tiles = tiles; sequences = l; mask = mask }

  listed_same : (rows : TileRows) → (tile_from x told (With s) tile_of rows).sequences ≡ (tile_from x told (With r) tile_of rows).sequences
  listed_same rows =
      let both : AreSame (map (sequence_row_of x told (With s) tile_of) (filter (starts_in x told (With s) tile_of rows) s)) (map (sequence_row_of x told (With s) tile_of) (filter (starts_in x told (With s) tile_of rows) r)) =
      same_map (sequence_row_of x told (With s) tile_of) (filter (starts_in x told (With s) tile_of rows) s) (filter (starts_in x told (With s) tile_of rows) r) (same_filter (starts_in x told (With s) tile_of rows) s r same) in
      same_rising sequence_below sequences_connected sequence_never sequence_on (map (sequence_row_of x told (With s) tile_of) (filter (starts_in x told (With s) tile_of rows) s)) (map (sequence_row_of x told (With s) tile_of) (filter (starts_in x told (With s) tile_of rows) r)) both.to both.from

  tile_same : (rows : TileRows) → tile_from x told (With s) tile_of rows ≡ tile_from x told (With r) tile_of rows
  tile_same rows =
      let t : TileFields = tile_from x told (With s) tile_of rows in
      λ i. record { level = t.level; tile = t.tile; modes = t.modes; nodes = t.nodes; edges = t.edges; transitions = t.transitions; chains = t.chains; sequences = listed_same rows i; infos = t.infos; texts = t.texts }

module _ (x : Extract) (asked : ℕ) (numbers : FormatNumbers) (g h : Given) (same : AreSame g.patterns h.patterns) (thru : (p : DirectedPiece) → g.not_thru p ≡ h.not_thru p) where
  abbrev tile : ℕ → ℤ → ℕ
  tile = tile_number x asked numbers g

  in_chain_same : (p : DirectedPiece) → (told_fields x asked numbers g).in_chain p ≡ (told_fields x asked numbers h).in_chain p
  in_chain_same p =
      λ i. list_any (λ q. list_any (λ l. is_shortcut l && list_any (is_same p) (edges_of l)) (links_same x asked numbers tile g.patterns h.patterns same (piece_level x p) (piece_start x q) i)) (kept_at x asked numbers g.patterns tile (piece_level x p))

  told_same : told_fields x asked numbers g ≡ told_fields x asked numbers h
  told_same =
      let t : ToldFields = told_fields x asked numbers g in
      λ i. record { modes = t.modes; lat = t.lat; lon = t.lon; density = t.density; consistency = t.consistency; not_thru = λ p. thru p i; flagged = λ p. flag_same x asked numbers tile g.patterns h.patterns same p i; in_chain = λ p. in_chain_same p i; info = t.info; entries = t.entries; texts = t.texts }

  abbrev stored : Patterns → Patterns
  stored patterns = stored_patterns x asked numbers patterns tile

  -- all but the order of the sequences
  first_part : folder_tiles x asked numbers g ≡ map (tile_from x (told_fields x asked numbers h) (record { tiles = (extract_table x asked numbers h.patterns tile).tiles; sequences = stored g.patterns; mask = mask_of x asked numbers h.patterns tile }) tile) (extract_table x asked numbers h.patterns tile).tiles
  first_part =
      λ i. map (tile_from x (told_same i) (record { tiles = tiles_same x asked numbers tile g.patterns h.patterns same i; sequences = stored g.patterns; mask = λ e. mask_same x asked numbers tile g.patterns h.patterns same e i }) tile) (tiles_same x asked numbers tile g.patterns h.patterns same i)

  second_part : map (tile_from x (told_fields x asked numbers h) (record { tiles = (extract_table x asked numbers h.patterns tile).tiles; sequences = stored g.patterns; mask = mask_of x asked numbers h.patterns tile }) tile) (extract_table x asked numbers h.patterns tile).tiles ≡ folder_tiles x asked numbers h
  second_part =
      λ i. map (λ rows. tile_same x (told_fields x asked numbers h) (extract_table x asked numbers h.patterns tile).tiles (mask_of x asked numbers h.patterns tile) tile (stored g.patterns) (stored h.patterns) (stored_same x asked numbers tile g.patterns h.patterns same) rows i) (extract_table x asked numbers h.patterns tile).tiles

  given_same : folder_tiles x asked numbers g ≡ folder_tiles x asked numbers h
  given_same = first_part ∙ second_part

pub one_folder : OneFolder
one_folder spell report x asked numbers files others f o =
    let g : Given = f.given in
    let h : Given = o.given in
    let same : AreSame g.patterns h.patterns = record {
      to = λ s is. in_from_among h.patterns s ((o.are.patterns_are s.0 s.1).1 ((f.are.patterns_are s.0 s.1).0 (among_from_in g.patterns s is)));
      from = λ s is. in_from_among g.patterns s ((f.are.patterns_are s.0 s.1).1 ((o.are.patterns_are s.0 s.1).0 (among_from_in h.patterns s is)));
    } in
    let thru : (p : DirectedPiece) → g.not_thru p ≡ h.not_thru p =
    λ p. same_answers (g.not_thru p) (h.not_thru p) (λ e. (o.are.not_thru_is p).1 ((f.are.not_thru_is p).0 e)) (λ e. (f.are.not_thru_is p).1 ((o.are.not_thru_is p).0 e)) in
    f.is ∙ (ap (files_of spell (report x asked)) (given_same x asked numbers g h same thru) ∙ sym o.is)
