-- The keys of the pieces of an extract rise.
use Rattle.std.proofs.Common.{◌≡◌, ◌∙◌, ℕ, zero, suc, ◌+◌, ◌<◌, ◌≤◌, refl, sym, ap, subst, List, [], ◌∷◌, ◌++◌, length, get_or, map, ℤ, pos, negsuc, true, ◌&&◌, ◌||◌, inl, inr, arith, eq-eqb}
use Rattle.std.specs.Prelude.{◌<ℤ◌, ⊤, int_lt, int_le, nat_lt, nat_eq}
use Rattle.std.specs.List.{flat_map, enumerate_from}
use Rattle.std.proofs.lemmas.Int.{ints}
use Rattle.std.proofs.lemmas.Bool.{or_left, or_right, lt-ltb, le-leb}
use Rattle.std.proofs.lemmas.List.Concat.{flat_map-cons}
use Rattle.osm_model.specs.Extract.{WaysRise}
use Rattle.osm_model.specs.declared.ways.OsmWay.{OsmWay}
use Rattle.osm_model.specs.declared.extract.Extract.{Extract}
use Rattle.osm_model.specs.declared.piece_key.PieceKey.{PieceKey}
use Rattle.road_pieces.specs.declared.rows.Piece.{Piece}
use Rattle.road_pieces.specs.Runs.{way_runs, is_junction}
use Rattle.road_pieces.specs.Rows.{stops, spans, piece_row, run_rows, way_rows, piece_rows}
use Rattle.road_pieces.proofs.Members.{IsIn, in_at, at_in, of_append, of_flat, of_map, of_numbered}
use Rattle.road_walks.proofs.Locals.{and_both}
use Rattle.edge_info.specs.Entries.{comes_before}
use Rattle.tile_infos.specs.TileChecks.{KeysRise}

-- ---- keys

int_below : (a b : ℤ) → a <ℤ b → int_lt a b ≡ true
int_below (pos a) (pos b) h = lt-ltb a b (omega (arith, ints, h))
int_below (pos a) (negsuc b) h = absurd (omega (arith, ints, h))
int_below (negsuc a) (pos b) h = refl
int_below (negsuc a) (negsuc b) h = lt-ltb b a (omega (arith, ints, h))

int_self : (n : ℤ) → int_le n n ≡ true
int_self (pos n) = le-leb n n (omega arith)
int_self (negsuc n) = le-leb n n (omega arith)

int_same : (a b : ℤ) → a ≡ b → int_le a b ≡ true
int_same a b e = ap (int_le a) (sym e) ∙ int_self a

by_way : (a b : PieceKey) → a.way <ℤ b.way → comes_before a b ≡ true
by_way a b h = or_left (int_lt a.way b.way) (int_le a.way b.way && (nat_lt a.run b.run || (nat_eq a.run b.run && nat_lt a.piece b.piece))) (int_below a.way b.way h)

by_rest : (a b : PieceKey) → a.way ≡ b.way → (nat_lt a.run b.run || (nat_eq a.run b.run && nat_lt a.piece b.piece)) ≡ true → comes_before a b ≡ true
by_rest a b same h =
    or_right (int_lt a.way b.way) (int_le a.way b.way && (nat_lt a.run b.run || (nat_eq a.run b.run && nat_lt a.piece b.piece)))
    (and_both (int_le a.way b.way) (nat_lt a.run b.run || (nat_eq a.run b.run && nat_lt a.piece b.piece)) (int_same a.way b.way same) h)

by_run : (a b : PieceKey) → a.way ≡ b.way → a.run < b.run → comes_before a b ≡ true
by_run a b same h = by_rest a b same (or_left (nat_lt a.run b.run) (nat_eq a.run b.run && nat_lt a.piece b.piece) (lt-ltb a.run b.run h))

by_piece : (a b : PieceKey) → a.way ≡ b.way → a.run ≡ b.run → a.piece < b.piece → comes_before a b ≡ true
by_piece a b same run h =
    by_rest a b same (or_right (nat_lt a.run b.run) (nat_eq a.run b.run && nat_lt a.piece b.piece) (and_both (nat_eq a.run b.run) (nat_lt a.piece b.piece) (eq-eqb a.run b.run run) (lt-ltb a.piece b.piece h)))

-- ---- lists in order of key

abbrev InOrder : List Piece → Type 0
InOrder [] = ⊤
InOrder (p ∷ ps) = ((q : Piece) → IsIn ps q → comes_before p.key q.key ≡ true) × InOrder ps

both_in_order : (ps qs : List Piece) → InOrder ps → InOrder qs → ((p q : Piece) → IsIn ps p → IsIn qs q → comes_before p.key q.key ≡ true) → InOrder (ps ++ qs)
both_in_order [] qs one two apart = two
both_in_order (p ∷ ps) qs one two apart = (
  λ q h. elim (of_append ps qs q h) [ inl here ↦ one.0 q here | inr there ↦ apart p q (inl refl) there ],
  both_in_order ps qs one.1 two (λ r q h k. apart r q (inr h) k),
)

pairs_in_order : (ps : List Piece) → InOrder ps → (i j : ℕ) (d : Piece) → i < j → j < length ps → comes_before (get_or ps i d).key (get_or ps j d).key ≡ true
pairs_in_order [] h i j d a b = absurd (omega (arith, b))
pairs_in_order (p ∷ ps) h zero zero d a b = absurd (omega (arith, a))
pairs_in_order (p ∷ ps) h zero (suc j) d a b = h.0 (get_or ps j d) (in_at ps j d (get_or ps j d) (omega (arith, b)) refl)
pairs_in_order (p ∷ ps) h (suc i) zero d a b = absurd (omega (arith, a))
pairs_in_order (p ∷ ps) h (suc i) (suc j) d a b = pairs_in_order ps h.1 i j d (omega (arith, a)) (omega (arith, b))

-- ---- the pieces of an extract

-- a piece of this way, of a run and with a number from these on
record IsOn (way : ℤ) (run piece : ℕ) (p : Piece) : Type 0 where
  way_is : p.key.way ≡ way
  run_is : p.key.run ≡ run
  from : piece ≤ p.key.piece

module _ (x : Extract) (w : OsmWay) where
  abbrev its_row : ℕ → List ℤ → ℕ × (ℕ × ℕ) → Piece
  its_row number r (piece, (from, to)) = piece_row x w number r piece from to

  on_span : (number : ℕ) (r : List ℤ) (n : ℕ) (ss : List (ℕ × ℕ)) (p : Piece) → IsIn (map (its_row number r) (enumerate_from n ss)) p → IsOn w.id number n p
  on_span number r n ss p h =
      let (e, (there, same)) = of_map (its_row number r) (enumerate_from n ss) p h in
      let at = of_numbered n ss e there in
      record {
        way_is = ap (λ (q : Piece). q.key.way) (sym same);
        run_is = ap (λ (q : Piece). q.key.run) (sym same);
        from = omega (arith, at.number_is, ap (λ (q : Piece). q.key.piece) same);
      }

  spans_in_order : (number : ℕ) (r : List ℤ) (n : ℕ) (ss : List (ℕ × ℕ)) → InOrder (map (its_row number r) (enumerate_from n ss))
  spans_in_order number r n [] = tt
  spans_in_order number r n (s ∷ ss) = (
    λ q h. let on = on_span number r (n + 1) ss q h in by_piece (record { way = w.id; run = number; piece = n }) q.key (sym on.way_is) (sym on.run_is) (omega (arith, on.from)),
    spans_in_order number r (n + 1) ss,
  )

  abbrev rows_from : ℕ → List (List ℤ) → List Piece
  rows_from n rs = flat_map (λ (number, r). run_rows x w number r) (enumerate_from n rs)

  on_runs : (n : ℕ) (rs : List (List ℤ)) (p : Piece) → IsIn (rows_from n rs) p → (p.key.way ≡ w.id) × (n ≤ p.key.run)
  on_runs n rs p h =
      let (e, (there, here)) = of_flat (λ (number, r). run_rows x w number r) (enumerate_from n rs) p h in
      let at = of_numbered n rs e there in
      let on = on_span e.0 e.1 0 (spans (stops (is_junction x) 0 e.1)) p here in
      (on.way_is, omega (arith, at.number_is, on.run_is))

  runs_in_order : (n : ℕ) (rs : List (List ℤ)) → InOrder (rows_from n rs)
  runs_in_order n [] = tt
  runs_in_order n (r ∷ rs) =
      subst InOrder (sym (flat_map-cons (λ (number, s). run_rows x w number s) (n, r) (enumerate_from (n + 1) rs)))
      (both_in_order (run_rows x w n r) (rows_from (n + 1) rs) (spans_in_order n r 0 (spans (stops (is_junction x) 0 r))) (runs_in_order (n + 1) rs)
      (λ p q h k. let on = on_span n r 0 (spans (stops (is_junction x) 0 r)) p h in
      let (way, run) = on_runs (n + 1) rs q k in
      by_run p.key q.key (on.way_is ∙ sym way) (omega (arith, on.run_is, run))))

module _ (x : Extract) where
  on_ways : (ws : List OsmWay) (p : Piece) → IsIn (flat_map (way_rows x) ws) p → (w : OsmWay) × (IsIn ws w × (p.key.way ≡ w.id))
  on_ways ws p h =
      let (w, (there, here)) = of_flat (way_rows x) ws p h in
      (w, (there, (on_runs x w 0 (way_runs x.nodes w) p here).0))

  ways_in_order : (ws : List OsmWay) → WaysRise ws → InOrder (flat_map (way_rows x) ws)
  ways_in_order [] rise = tt
  ways_in_order (w ∷ ws) rise =
      subst InOrder (sym (flat_map-cons (way_rows x) w ws))
      (both_in_order (way_rows x w) (flat_map (way_rows x) ws) (runs_in_order x w 0 (way_runs x.nodes w))
      (ways_in_order ws (λ i j d a b. rise (suc i) (suc j) d (omega (arith, a)) (omega (arith, b))))
      (λ p q h k. let (way, run) = on_runs x w 0 (way_runs x.nodes w) p h in
      let (v, (there, is)) = on_ways ws q k in
      let (i, (inside, at)) = at_in ws v there in
      let below : w.id <ℤ v.id = subst (λ u. w.id <ℤ u.id) (at w) (rise 0 (suc i) w (omega arith) (omega (arith, inside))) in
      by_way p.key q.key (subst (λ a. a <ℤ q.key.way) (sym way) (subst (λ b. w.id <ℤ b) (sym is) below))))

  pub keys_rise : KeysRise (piece_rows x)
  keys_rise = pairs_in_order (piece_rows x) (ways_in_order x.ways x.ways_rise)
