-- The directed edges of the pieces of an extract are its directed pieces, row by row.
use Rattle.std.proofs.Common.{◌≡◌, ℕ, ◌+◌, refl, sym, ◌∙◌, ap, List, [], ◌∷◌, ◌++◌, map, filter, ℤ, Bool, true, false, cond, not, inl, inr}
use Rattle.std.specs.List.{flat_map, enumerate_from}
use Rattle.std.specs.Ordering.{int_eq}
use Rattle.std.proofs.lemmas.Grind.{flat_map-append}
use Rattle.std.proofs.lemmas.List.Elements.{filter-append}
use Rattle.osm_model.specs.declared.ways.OsmWay.{OsmWay}
use Rattle.osm_model.specs.declared.extract.Extract.{Extract}
use Rattle.road_pieces.specs.DirectedPiece.{DirectedPiece}
use Rattle.road_pieces.specs.Runs.{way_runs, is_junction}
use Rattle.road_pieces.specs.Steps.{node}
use Rattle.road_pieces.specs.Pieces.{piece_start, piece_end}
use Rattle.road_pieces.specs.Rows.{stops, spans, piece_rows}
use Rattle.road_pieces.proofs.Members.{IsIn}
use Rattle.road_walks.specs.BaseEdges.{run_pieces, way_pieces, directed_pieces, base_edges, reverse_of}
use Rattle.edge_builder.specs.BaseRows.{DirectedRow, both_rows, directed_rows, row_start, row_end, base_rows}
use Rattle.edge_builder.specs.ExtractRows.{forward_pieces, piece_of_extract, piece_place}
use Rattle.edge_builder.proofs.RowJunctions.{numbered_in}
use Rattle.edge_builder.proofs.ForwardRows.{told_forward}
use Rattle.edge_builder.proofs.PiecePlaces.{runs_forward, place_forward, place_backward}

-- ---- each piece that runs forward, and its reverse

abbrev both_pieces : DirectedPiece → List DirectedPiece
both_pieces p = p ∷ (reverse_of p ∷ [])

abbrev ArePaired : List DirectedPiece → Type 0
ArePaired ps = ps ≡ flat_map both_pieces (filter (λ p. p.forward) ps)

paired_append : (ps qs : List DirectedPiece) → ArePaired ps → ArePaired qs → ArePaired (ps ++ qs)
paired_append ps qs h k =
    (λ i. h i ++ k i)
    ∙ (sym (flat_map-append both_pieces (filter (λ p. p.forward) ps) (filter (λ p. p.forward) qs)) ∙ ap (flat_map both_pieces) (sym (filter-append (λ p. p.forward) ps qs)))

paired_flat : {A : Type 0} (f : A → List DirectedPiece) → ((a : A) → ArePaired (f a)) → (es : List A) → ArePaired (flat_map f es)
paired_flat f each [] = refl
paired_flat f each (e ∷ es) = paired_append (f e) (flat_map f es) (each e) (paired_flat f each es)

module _ (x : Extract) where
  run_paired : (way : ℤ) (number : ℕ) (r : List ℤ) → ArePaired (run_pieces x way number r)
  run_paired way number r =
      paired_flat (λ (from, to). record { way = way; run = number; from = from; to = to; forward = true } ∷ (record { way = way; run = number; from = from; to = to; forward = false } ∷ [])) (λ (from, to). refl) (spans (stops (is_junction x) 0 r))

  way_paired : (w : OsmWay) → ArePaired (way_pieces x w)
  way_paired w =
      paired_flat (λ (number, r). run_pieces x w.id number r) (λ (number, r). run_paired w.id number r) (enumerate_from 0 (way_runs x.nodes w))

  all_paired : ArePaired (directed_pieces x)
  all_paired = paired_flat (way_pieces x) way_paired x.ways

-- ---- rows

-- the piece as its run goes
abbrev pub forward_of : DirectedPiece → DirectedPiece
forward_of p = record { way = p.way; run = p.run; from = p.from; to = p.to; forward = true }

abbrev pub row_of_extract : Extract → DirectedPiece → DirectedRow
row_of_extract x p = record { piece = piece_of_extract x (forward_of p); place = piece_place x p; forward = p.forward }

module _ (x : Extract) where
  forward_told : (n : ℕ) (p : DirectedPiece) → p.forward ≡ true → piece_place x p ≡ n → record { piece = piece_of_extract x p; place = n; forward = true } ≡ row_of_extract x p
  forward_told n p f place =
      let back : true ≡ p.forward = sym f in
      let same : p ≡ forward_of p = λ i. record { way = p.way; run = p.run; from = p.from; to = p.to; forward = f i } in
      let at : n ≡ piece_place x p = sym place in
      λ i. record { piece = piece_of_extract x (same i); place = at i; forward = back i }

  backward_told : (n : ℕ) (p : DirectedPiece) → p.forward ≡ true → piece_place x (reverse_of p) ≡ n → record { piece = piece_of_extract x p; place = n; forward = false } ≡ row_of_extract x (reverse_of p)
  backward_told n p f place =
      let back : false ≡ not p.forward = ap not (sym f) in
      let same : p ≡ forward_of p = λ i. record { way = p.way; run = p.run; from = p.from; to = p.to; forward = f i } in
      let at : n ≡ piece_place x (reverse_of p) = sym place in
      λ i. record { piece = piece_of_extract x (same i); place = at i; forward = back i }

  rows_told : (n : ℕ) (ps : List DirectedPiece) → ((k : ℕ) (p : DirectedPiece) → IsIn (enumerate_from n ps) (k, p) → (p.forward ≡ true) × (piece_place x p ≡ k) × (piece_place x (reverse_of p) ≡ k)) → flat_map both_rows (enumerate_from n (map (piece_of_extract x) ps)) ≡ map (row_of_extract x) (flat_map both_pieces ps)
  rows_told n [] told = refl
  rows_told n (p ∷ ps) told =
      let (f, there, back) = told n p (inl refl) in
      λ i. forward_told n p f there i ∷ (backward_told n p f back i ∷ rows_told (n + 1) ps (λ k q h. told k q (inr h)) i)

  told_so : (k : ℕ) (p : DirectedPiece) → IsIn (enumerate_from 0 (forward_pieces x)) (k, p) → (p.forward ≡ true) × (piece_place x p ≡ k) × (piece_place x (reverse_of p) ≡ k)
  told_so k p h =
      let f : p.forward ≡ true = runs_forward x p (numbered_in 0 (forward_pieces x) (k, p) h) in
      (f, place_forward x k p h f, place_backward x k p h f)

  -- the directed edges of all pieces are the directed pieces
  pub directed_told : directed_rows (piece_rows x) ≡ map (row_of_extract x) (directed_pieces x)
  directed_told =
      ap directed_rows (told_forward x) ∙ (rows_told 0 (forward_pieces x) told_so ∙ ap (map (row_of_extract x)) (sym (all_paired x)))

-- ---- where they start and end

start_by : (x : Extract) (way : ℤ) (run from to : ℕ) (b : Bool) → cond b (node x way run from) (node x way run to) ≡ node x way run (cond b from to)
start_by x way run from to true = refl
start_by x way run from to false = refl

pub row_starts : (x : Extract) (p : DirectedPiece) → row_start (row_of_extract x p) ≡ piece_start x p
row_starts x p = start_by x p.way p.run p.from p.to p.forward

pub row_ends : (x : Extract) (p : DirectedPiece) → row_end (row_of_extract x p) ≡ piece_end x p
row_ends x p = start_by x p.way p.run p.to p.from p.forward

filter_map : {A B : Type 0} (test : B → Bool) (f : A → B) (es : List A) → filter test (map f es) ≡ map f (filter (λ e. test (f e)) es)
filter_map test f [] = refl
filter_map test f (e ∷ es) = by (test (f e)) (filter_map test f es)
  where
    by : (b : Bool) → filter test (map f es) ≡ map f (filter (λ e. test (f e)) es) → cond b (f e ∷ filter test (map f es)) (filter test (map f es)) ≡ map f (cond b (e ∷ filter (λ e. test (f e)) es) (filter (λ e. test (f e)) es))
    by true rest = λ i. f e ∷ rest i
    by false rest = rest

-- the base edges of a junction are the directed pieces that start there
pub base_told : (x : Extract) (n : ℤ) → base_rows (piece_rows x) n ≡ map (row_of_extract x) (base_edges x n)
base_told x n =
    ap (filter (λ e. int_eq (row_start e) n)) (directed_told x)
    ∙ (filter_map (λ e. int_eq (row_start e) n) (row_of_extract x) (directed_pieces x)
    ∙ (λ i. map (row_of_extract x) (filter (λ p. int_eq (row_starts x p i) n) (directed_pieces x))))
