-- The tiles of the folder, as work rows, can be numbered and finished.
use Rattle.std.proofs.Common.{◌≡◌, ◌∙◌, ℕ, zero, suc, ◌+◌, ◌^◌, ◌<◌, ◌≤◌, Bool, true, false, cond, refl, sym, ap, subst, List, [], ◌∷◌, ◌++◌, length, get_or, map, filter, ℤ, pos, negsuc, inl, inr, arith}
use Rattle.std.specs.Prelude.{All, AllPairs, ◌<ℤ◌, ⊤, ◌&&◌, int_lt, nat_lt, nat_eq}
use Rattle.std.specs.Ordering.{int_eq}
use Rattle.std.proofs.lemmas.Int.{ints}
use Rattle.std.proofs.lemmas.Bool.{ltb-true, both_ways}
use Rattle.std.proofs.lemmas.List.{length-map, get_or-map}
use Rattle.osm_model.specs.Extract.{IdsRise}
use Rattle.osm_model.specs.declared.extract.Extract.{Extract}
use Rattle.tile_geometry.specs.Grid.{tile_count, class_level}
use Rattle.road_pieces.specs.DirectedPiece.{DirectedPiece}
use Rattle.road_pieces.specs.Lengths.{point}
use Rattle.road_pieces.specs.Pieces.{piece_start}
use Rattle.road_pieces.specs.Rows.{piece_rows}
use Rattle.road_pieces.proofs.Members.{IsIn, in_at, of_append, of_flat, of_map}
use Rattle.road_walks.specs.BaseEdges.{directed_pieces, base_edges}
use Rattle.road_walks.proofs.Sorted.{Sorted, of_rising, rising_sorted, numbers_connected, nodes_connected, below_self, below_on, node_never, node_on}
use Rattle.folder_spec.specs.Links.{Link, base_link}
use Rattle.folder_spec.specs.Chains.{IsLevelEdge, piece_level}
use Rattle.folder_spec.specs.Tables.{NodeRow, TileRows}
use Rattle.folder_spec.specs.Rows.{keeps_piece, kept_at, nodes_in, tiles_on, rows_on}
use Rattle.work_tile.specs.declared.edge_rows.WorkEdge.{WorkEdge}
use Rattle.work_tile.specs.WorkRows.{WorkNode, WorkRows}
use Rattle.work_tile.specs.Places.{tile_number, place_numbers, NumbersRise}
use Rattle.edge_builder.specs.ExtractRows.{node_tile, edge_of_extract, node_of_extract}
use Rattle.tile_numbers.specs.Limits.{HasRoom, IsRecordedEdge, IsRecordedNode, CanBeNumbered}
use Rattle.tile_numbers.specs.Records.{edges_of_rows}
use Rattle.tile_number_laws.specs.NumberedChecks.{IsInTile}
use Rattle.tile_finish.specs.FinishedTiles.{CanBeFinished, AreFinishable}
use Rattle.kept_rows.specs.KeptRows.{IsPlainTable, open_numbers, open_table, rows_of_table}
use Rattle.level_tiles.proofs.RecordTable.{levels, starting, tile_of_level, of_starting, in_starting, rows_are, row_on, row_starts, links_of_row}
use Rattle.kept_checks.specs.KeptChecks.{IsSpellable}
use Rattle.kept_checks.proofs.KeyOrder.{keys_rise}
use Rattle.kept_checks.proofs.PieceEntries.{placed_at, entries_there}
use Rattle.kept_checks.proofs.EdgeFacts.{AreToldSo, place_lies, counted_low, tile_below, place_inside, edge_recorded}

-- ---- lists

of_each : {A : Type 0} (P : A → Type 0) (xs : List A) → ((a : A) → IsIn xs a → P a) → All P xs
of_each P xs so = λ k d inside. so (get_or xs k d) (in_at xs k d (get_or xs k d) inside refl)

module _ {E : Type 0} (less : E → E → Bool) (connected : (e f : E) → less e f ≡ false → less f e ≡ false → e ≡ f) (never : (e : E) → less e e ≡ true → ⊥) (on : (e f g : E) → less e f ≡ true → less f g ≡ true → less e g ≡ true) where
  sorted_pairs : (es : List E) → Sorted less connected never on es → (i j : ℕ) (d : E) → i < j → j < length es → less (get_or es i d) (get_or es j d) ≡ true
  sorted_pairs [] h i j d a b = absurd (omega (arith, b))
  sorted_pairs (e ∷ es) h zero zero d a b = absurd (omega (arith, a))
  sorted_pairs (e ∷ es) h zero (suc j) d a b = h.0 (get_or es j d) (in_at es j d (get_or es j d) (omega (arith, b)) refl)
  sorted_pairs (e ∷ es) h (suc i) zero d a b = absurd (omega (arith, a))
  sorted_pairs (e ∷ es) h (suc i) (suc j) d a b = sorted_pairs es h.1 i j d (omega (arith, a)) (omega (arith, b))

pairs_map : {A B : Type 0} (S : A → A → Type 0) (R : B → B → Type 0) (f : A → B) → ((a b : A) → S a b → R (f a) (f b)) → (xs : List A) → AllPairs S xs → AllPairs R (map f xs)
pairs_map S R f so [] h = λ i j d a b. absurd (omega (arith, b))
pairs_map S R f so (x ∷ xs) h = λ i j d a b.
    let low : j < length (x ∷ xs) = omega (arith, b, length-map (x ∷ xs) f) in
    subst (λ u. R u (get_or (map f (x ∷ xs)) j d)) (sym (get_or-map f (x ∷ xs) i x d (omega (arith, a, low))))
    (subst (λ v. R (f (get_or (x ∷ xs) i x)) v) (sym (get_or-map f (x ∷ xs) j x d low)) (so (get_or (x ∷ xs) i x) (get_or (x ∷ xs) j x) (h i j x a low)))

below_int : (a b : ℤ) → int_lt a b ≡ true → a <ℤ b
below_int (pos a) (pos b) h = let k = ltb-true a b h in omega (arith, ints, k)
below_int (pos a) (negsuc b) h = absurd (both_ways false refl h)
below_int (negsuc a) (pos b) h = omega (arith, ints)
below_int (negsuc a) (negsuc b) h = let k = ltb-true b a h in omega (arith, ints, k)

-- fewer pass two tests, one after the other
both_few : {E : Type 0} (p q : E → Bool) (es : List E) → length (filter p (filter q es)) ≤ length (filter p es)
both_few p q [] = omega arith
both_few p q (e ∷ es) = by (p e) (q e) refl (both_few p q es)
  where
    by : (a b : Bool) → p e ≡ a → length (filter p (filter q es)) ≤ length (filter p es) → length (filter p (cond b (e ∷ filter q es) (filter q es))) ≤ length (cond a (e ∷ filter p es) (filter p es))
    by true true same rest = let first = ap (λ c. length (cond c (e ∷ filter p (filter q es)) (filter p (filter q es)))) same in omega (arith, rest, first)
    by false true same rest = let first = ap (λ c. length (cond c (e ∷ filter p (filter q es)) (filter p (filter q es)))) same in omega (arith, rest, first)
    by true false same rest = omega (arith, rest)
    by false false same rest = rest

some_there : {E : Type 0} (es : List E) (e : E) → IsIn es e → 1 ≤ length es
some_there [] e h = absurd h
some_there (f ∷ es) e h = omega arith

-- ---- tiles in order of level and number

abbrev number : TileRows → ℕ
number t = tile_number t.level t.tile

abbrev InOrder : List TileRows → Type 0
InOrder [] = ⊤
InOrder (t ∷ ts) = ((u : TileRows) → IsIn ts u → number t < number u) × InOrder ts

both_in_order : (ts us : List TileRows) → InOrder ts → InOrder us → ((t u : TileRows) → IsIn ts t → IsIn us u → number t < number u) → InOrder (ts ++ us)
both_in_order [] us one two apart = two
both_in_order (t ∷ ts) us one two apart = (
  λ u h. elim (of_append ts us u h) [ inl here ↦ one.0 u here | inr there ↦ apart t u (inl refl) there ],
  both_in_order ts us one.1 two (λ v u h k. apart v u (inr h) k),
)

pairs_in_order : (ts : List TileRows) → InOrder ts → (i j : ℕ) (d : TileRows) → i < j → j < length ts → number (get_or ts i d) < number (get_or ts j d)
pairs_in_order [] h i j d a b = absurd (omega (arith, b))
pairs_in_order (t ∷ ts) h zero zero d a b = absurd (omega (arith, a))
pairs_in_order (t ∷ ts) h zero (suc j) d a b = h.0 (get_or ts j d) (in_at ts j d (get_or ts j d) (omega (arith, b)) refl)
pairs_in_order (t ∷ ts) h (suc i) zero d a b = absurd (omega (arith, a))
pairs_in_order (t ∷ ts) h (suc i) (suc j) d a b = pairs_in_order ts h.1 i j d (omega (arith, a)) (omega (arith, b))

-- ---- what holds of a tile

record IsLiftedNode (count level tile : ℕ) (n : WorkNode) : Type 0 where
  recorded : IsRecordedNode n
  in_tile : IsInTile level tile n
  classes : (e : WorkEdge) → IsIn n.edges e → class_level e.class ≡ level
  places : (e : WorkEdge) → IsIn n.edges e → e.place < count

record IsLiftedTile (count : ℕ) (rows : WorkRows) : Type 0 where
  level_low : rows.level ≤ 2
  low : rows.tile < tile_count rows.level
  rise : IdsRise (λ (n : WorkNode). n.osm) rows.nodes
  nodes : (n : WorkNode) → IsIn rows.nodes n → IsLiftedNode count rows.level rows.tile n

module _ (x : Extract) (asked : ℕ) (told : AreToldSo x) (plain : IsPlainTable (open_table x asked)) where
  abbrev count : ℕ
  count = length (piece_rows x)

  abbrev tables : List TileRows
  tables = (open_table x asked).tiles

  abbrev node_with : ℕ → NodeRow → WorkNode
  node_with k r = node_of_extract x k r.osm (map (λ l. l.first) r.links)

  -- ---- a node

  module _ (rows : TileRows) (r : NodeRow) (there : IsIn tables rows) (among : IsIn rows.nodes r) where
    linked : r.links ≡ map base_link (starting x asked rows.level r.osm)
    linked = links_of_row x asked plain rows r there among

    edge_told : (e : WorkEdge) → IsIn (node_with rows.level r).edges e → (p : DirectedPiece) × (IsLevelEdge x asked rows.level p × (edge_of_extract x rows.level p ≡ e))
    edge_told e h =
        let (p, (first, is)) = of_map (edge_of_extract x rows.level) (map (λ l. l.first) r.links) e h in
        let (l, (on, its)) = of_map (λ (m : Link DirectedPiece). m.first) r.links p first in
        let (q, (starts, same)) = of_map base_link (starting x asked rows.level r.osm) l (subst (λ ls. IsIn ls l) linked on) in
        let (edge, _) = of_starting x asked rows.level r.osm q starts in
        (q, (edge, ap (edge_of_extract x rows.level) (ap (λ (m : Link DirectedPiece). m.first) same ∙ its) ∙ is))

    edges_counted : length (node_with rows.level r).edges ≡ length (starting x asked rows.level r.osm)
    edges_counted =
        length-map (map (λ l. l.first) r.links) (edge_of_extract x rows.level) ∙ length-map r.links (λ l. l.first)
        ∙ ap length linked ∙ length-map (starting x asked rows.level r.osm) base_link

    edges_few : length (starting x asked rows.level r.osm) ≤ length (base_edges x r.osm)
    edges_few = both_few (λ p. int_eq (piece_start x p) r.osm) (λ p. keeps_piece x asked open_numbers [] (node_tile x) p && nat_eq (piece_level x p) rows.level) (directed_pieces x)

    node_so : IsLiftedNode count rows.level rows.tile (node_with rows.level r)
    node_so =
        let start = row_starts x asked rows r there among in
        let place = placed_at x.nodes r.osm x.placed in
        let own : IsIn (starting x asked rows.level r.osm) start.piece = in_starting x asked rows.level r.osm start.piece start.is start.starts in
        record {
          recorded = record {
            place = place;
            few = omega (arith, edges_counted, edges_few, told.few r.osm);
            each = of_each IsRecordedEdge (node_with rows.level r).edges (λ e h. let (p, (edge, same)) = edge_told e h in subst IsRecordedEdge same (edge_recorded x told rows.level p edge.kept.exists));
          };
          in_tile = record { lies = place_lies rows.level rows.tile (point x.nodes r.osm) place start.tile; some = omega (arith, edges_counted, some_there (starting x asked rows.level r.osm) start.piece own) };
          classes = λ e h. let (p, (edge, same)) = edge_told e h in subst (λ (f : WorkEdge). class_level f.class ≡ rows.level) same edge.level_is;
          places = λ e h. let (p, (edge, same)) = edge_told e h in subst (λ (f : WorkEdge). f.place < count) same (place_inside x told p edge.kept.exists);
        }

  -- ---- a tile

  nodes_rise : (k c : ℕ) → IdsRise (λ (n : WorkNode). n.osm) (rows_of_table x (tile_of_level x asked k c)).nodes
  nodes_rise k c =
      let begun = filter (λ n. nat_eq (node_tile x k n) c) (map (piece_start x) (kept_at x asked open_numbers [] (node_tile x) k)) in
      let ns = nodes_in x asked open_numbers [] (node_tile x) k c in
      pairs_map (λ (a b : NodeRow). a.osm <ℤ b.osm) (λ (a b : WorkNode). a.osm <ℤ b.osm) (node_with k) (λ a b h. h) (map (row_on x asked k) ns)
      (pairs_map (λ (a b : ℤ). a <ℤ b) (λ (a b : NodeRow). a.osm <ℤ b.osm) (row_on x asked k) (λ a b h. h) ns
      (λ i j d a b. below_int _ _ (sorted_pairs int_lt nodes_connected node_never node_on ns (rising_sorted int_lt nodes_connected node_never node_on begun) i j d a b)))

  tile_level : (rows : TileRows) → IsIn tables rows → IsIn levels rows.level
  tile_level rows there =
      let (k, (low, inside)) = of_flat (rows_on x asked open_numbers [] (node_tile x)) levels rows there in
      let (c, (on, same)) = of_map (tile_of_level x asked k) (tiles_on x asked open_numbers [] (node_tile x) k) rows inside in
      subst (λ (r : TileRows). IsIn levels r.level) same low

  level_low : (k : ℕ) → IsIn levels k → k ≤ 2
  level_low k (inl is) = omega (arith, is)
  level_low k (inr (inl is)) = omega (arith, is)
  level_low k (inr (inr (inl is))) = omega (arith, is)
  level_low k (inr (inr (inr none))) = absurd none

  -- the tiles of a level
  number_low : (k c : ℕ) → IsIn (tiles_on x asked open_numbers [] (node_tile x) k) c → c < tile_count k
  number_low k c on =
      let kept = kept_at x asked open_numbers [] (node_tile x) k in
      let (p, (_, is)) = of_map (λ q. node_tile x k (piece_start x q)) kept c (of_rising nat_lt numbers_connected (map (λ q. node_tile x k (piece_start x q)) kept) c on) in
      subst (λ n. n < tile_count k) is (tile_below x told k (piece_start x p))

  tile_low : (rows : TileRows) → IsIn tables rows → rows.tile < tile_count rows.level
  tile_low rows there =
      let (k, (low, inside)) = of_flat (rows_on x asked open_numbers [] (node_tile x)) levels rows there in
      let (c, (on, same)) = of_map (tile_of_level x asked k) (tiles_on x asked open_numbers [] (node_tile x) k) rows inside in
      subst (λ (r : TileRows). r.tile < tile_count r.level) same (number_low k c on)

  tile_so : (rows : TileRows) → IsIn tables rows → IsLiftedTile count (rows_of_table x rows)
  tile_so rows there = record {
    level_low = level_low rows.level (tile_level rows there);
    low = tile_low rows there;
    rise = subst (λ (r : TileRows). IdsRise (λ (n : WorkNode). n.osm) (rows_of_table x r).nodes) (rows_are x asked rows there) (nodes_rise rows.level rows.tile);
    nodes = λ n h.
        let (r, (among, same)) = of_map (node_with rows.level) rows.nodes n h in
        subst (IsLiftedNode count rows.level rows.tile) same (node_so rows r there among);
  }

  -- ---- all tiles

  level_in_order : (k : ℕ) → (cs : List ℕ) → Sorted nat_lt numbers_connected below_self below_on cs → InOrder (map (tile_of_level x asked k) cs)
  level_in_order k [] h = tt
  level_in_order k (c ∷ cs) h = (
    λ u there.
        let (d, (on, same)) = of_map (tile_of_level x asked k) cs u there in
        let below = ltb-true c d (h.0 d on) in
        subst (λ (t : TileRows). number (tile_of_level x asked k c) < number t) same (omega (arith, below)),
    level_in_order k cs h.1,
  )

  on_level_in_order : (k : ℕ) → InOrder (rows_on x asked open_numbers [] (node_tile x) k)
  on_level_in_order k =
      level_in_order k (tiles_on x asked open_numbers [] (node_tile x) k)
      (rising_sorted nat_lt numbers_connected below_self below_on (map (λ p. node_tile x k (piece_start x p)) (kept_at x asked open_numbers [] (node_tile x) k)))

  record IsOnLevel (k : ℕ) (t : TileRows) : Type 0 where
    level_is : t.level ≡ k
    low : t.tile < 2 ^ 32

  on_level : (k : ℕ) (t : TileRows) → IsIn (rows_on x asked open_numbers [] (node_tile x) k) t → IsOnLevel k t
  on_level k t h =
      let (c, (on, same)) = of_map (tile_of_level x asked k) (tiles_on x asked open_numbers [] (node_tile x) k) t h in
      let low = number_low k c on in
      record { level_is = ap (λ (r : TileRows). r.level) (sym same); low = omega (arith, low, counted_low k, ap (λ (r : TileRows). r.tile) same) }

  apart : (k l : ℕ) (t u : TileRows) → k < l → IsOnLevel k t → IsOnLevel l u → number t < number u
  apart k l t u h a b = omega (arith, h, a.level_is, a.low, b.level_is, b.low)

  abbrev rows_of_level : ℕ → List TileRows
  rows_of_level k = rows_on x asked open_numbers [] (node_tile x) k

  tables_in_order : InOrder tables
  tables_in_order =
      both_in_order (rows_of_level 0) (rows_of_level 1 ++ (rows_of_level 2 ++ [])) (on_level_in_order 0)
      (both_in_order (rows_of_level 1) (rows_of_level 2 ++ []) (on_level_in_order 1)
      (both_in_order (rows_of_level 2) [] (on_level_in_order 2) tt (λ t u h k. absurd k))
      (λ t u h k. elim (of_append (rows_of_level 2) [] u k) [ inl here ↦ apart 1 2 t u (omega arith) (on_level 1 t h) (on_level 2 u here) | inr none ↦ absurd none ]))
      (λ t u h k. elim (of_append (rows_of_level 1) (rows_of_level 2 ++ []) u k) [
        | inl one ↦ apart 0 1 t u (omega arith) (on_level 0 t h) (on_level 1 u one)
        | inr rest ↦ elim (of_append (rows_of_level 2) [] u rest) [ inl two ↦ apart 0 2 t u (omega arith) (on_level 0 t h) (on_level 2 u two) | inr none ↦ absurd none ]
      ])

  -- ---- the tiles as work rows

  abbrev works : List WorkRows
  works = map (rows_of_table x) tables

  numbers_rise : NumbersRise (place_numbers works)
  numbers_rise i j a b =
      let many = length-map works (λ t. tile_number t.level t.tile) in
      let more = length-map tables (rows_of_table x) in
      let low : j < length tables = omega (arith, b, many, more) in
      let no : TileRows = record { level = 0; tile = 0; nodes = [] } in
      let first = get_or-map (λ (t : WorkRows). tile_number t.level t.tile) works i (rows_of_table x no) 0 (omega (arith, a, b, many)) in
      let second = get_or-map (λ (t : WorkRows). tile_number t.level t.tile) works j (rows_of_table x no) 0 (omega (arith, b, many)) in
      let at_first = ap (λ (t : WorkRows). tile_number t.level t.tile) (get_or-map (rows_of_table x) tables i no (rows_of_table x no) (omega (arith, a, low))) in
      let at_second = ap (λ (t : WorkRows). tile_number t.level t.tile) (get_or-map (rows_of_table x) tables j no (rows_of_table x no) low) in
      let below = pairs_in_order tables tables_in_order i j no a low in
      omega (arith, first, second, at_first, at_second, below)

  work_so : (w : WorkRows) → IsIn works w → IsLiftedTile count w
  work_so w h = let (rows, (there, same)) = of_map (rows_of_table x) tables w h in subst (IsLiftedTile count) same (tile_so rows there)

  numbered : (rows : WorkRows) → IsLiftedTile count rows → HasRoom rows → CanBeNumbered rows
  numbered rows is room = record {
    level = is.level_low;
    tile = omega (arith, is.low, counted_low rows.level);
    room = room;
    rise = is.rise;
    each = of_each IsRecordedNode rows.nodes (λ n h. (is.nodes n h).recorded);
  }

  finished : (rows : WorkRows) → IsLiftedTile count rows → CanBeFinished count rows
  finished rows is =
      let edge_of = λ (e : WorkEdge) (h : IsIn (edges_of_rows rows) e). of_flat (λ (n : WorkNode). n.edges) rows.nodes e h in
      record {
        there = is.low;
        nodes = of_each (IsInTile rows.level rows.tile) rows.nodes (λ n h. (is.nodes n h).in_tile);
        classes = of_each (λ (e : WorkEdge). class_level e.class ≡ rows.level) (edges_of_rows rows) (λ e h. let (n, (there, here)) = edge_of e h in (is.nodes n there).classes e here);
        places = of_each (λ (e : WorkEdge). e.place < count) (edges_of_rows rows) (λ e h. let (n, (there, here)) = edge_of e h in (is.nodes n there).places e here);
      }

  work_at : (k : ℕ) (d : WorkRows) → k < length works → IsLiftedTile count (get_or works k d)
  work_at k d inside = work_so (get_or works k d) (in_at works k d (get_or works k d) inside refl)

  pub table_finishable : All IsSpellable (piece_rows x) → All HasRoom works → AreFinishable works (piece_rows x)
  table_finishable spell room = record {
    numbered = record { rise = numbers_rise; each = λ k d inside. numbered (get_or works k d) (work_at k d inside) (room k d inside) };
    each = λ k d inside. finished (get_or works k d) (work_at k d inside);
    entries = entries_there x spell;
    rise = keys_rise x;
  }
