-- Directed edges by their places.
use Rattle.std.proofs.Common.{◌≡◌, ℕ, suc, ◌+◌, ◌<◌, refl, sym, ◌∙◌, ap, List, [], ◌∷◌, ◌++◌, map, filter, length, get_or, take, flat_map, Bool, true, false, cond, nat_eq, arith, take-suc, append_assoc, add-one}
use Rattle.std.specs.List.{enumerate_from}
use Rattle.std.proofs.lemmas.Grind.{flat_map-append}
use Rattle.std.proofs.lemmas.List.Concat.{flat_map-cons}
use Rattle.road_pieces.specs.Rows.{stops}
use Rattle.road_pieces.specs.declared.rows.Junction.{Junction}
use Rattle.road_pieces.specs.declared.rows.Piece.{Piece}
use Rattle.edge_builder.specs.Groups.{places_of}
use Rattle.edge_builder.specs.BaseRows.{DirectedRow, both_rows, directed_rows, row_start, base_rows, junction_place, start_places, JunctionsRise}
use Rattle.edge_builder.proofs.JunctionLemmas.{place_test}

-- ---- where edges start

-- the places where the edges of a piece start, and those of pieces
abbrev pub two_starts : List Junction → Piece → List ℕ
two_starts js p = junction_place js p.start ∷ (junction_place js p.end ∷ [])

abbrev pub starts_of : List Junction → List Piece → List ℕ
starts_of js ps = flat_map (two_starts js) ps

starts_from : (js : List Junction) (n : ℕ) (ps : List Piece) → starts_of js ps ≡ map (λ e. junction_place js (row_start e)) (flat_map both_rows (enumerate_from n ps))
starts_from js n [] = refl
starts_from js n (p ∷ ps) =
    flat_map-cons (two_starts js) p ps ∙ (ap (λ ks. two_starts js p ++ ks) (starts_from js (n + 1) ps)
    ∙ ap (map (λ e. junction_place js (row_start e))) (sym (flat_map-cons both_rows (n, p) (enumerate_from (n + 1) ps))))

pub starts_are : (js : List Junction) (ps : List Piece) → starts_of js ps ≡ start_places js ps
starts_are js ps = starts_from js 0 ps

pub starts_more : (js : List Junction) (ps : List Piece) (i : ℕ) (d : Piece) (ks : List ℕ) (a b : ℕ) → i < length ps → ks ≡ starts_of js (take i ps) → a ≡ junction_place js (get_or ps i d).start → b ≡ junction_place js (get_or ps i d).end → (ks ++ a ∷ []) ++ b ∷ [] ≡ starts_of js (take (i + 1) ps)
starts_more js ps i d ks a b h was one two =
    append_assoc ks (a ∷ []) (b ∷ []) ∙ (λ j. was j ++ one j ∷ (two j ∷ []))
    ∙ sym (flat_map-append (two_starts js) (take i ps) (get_or ps i d ∷ []))
    ∙ ap (starts_of js) (sym (take-suc ps i d h) ∙ ap (λ k. take k ps) (sym (add-one i)))

-- ---- places and what stands there

pub stops_map : {A B : Type 0} (test : B → Bool) (f : A → B) (k : ℕ) (xs : List A) → stops test k (map f xs) ≡ stops (λ x. test (f x)) k xs
stops_map test f k [] = refl
stops_map test f k (x ∷ xs) = λ i. cond (test (f x)) (k ∷ stops_map test f (k + 1) xs i) (stops_map test f (k + 1) xs i)

pub length_stops : {A : Type 0} (test : A → Bool) (k : ℕ) (xs : List A) → length (stops test k xs) ≡ length (filter test xs)
length_stops test k [] = refl
length_stops test k (x ∷ xs) = by (test x) (length_stops test (k + 1) xs)
  where
    by : (b : Bool) → length (stops test (k + 1) xs) ≡ length (filter test xs) → length (cond b (k ∷ stops test (k + 1) xs) (stops test (k + 1) xs)) ≡ length (cond b (x ∷ filter test xs) (filter test xs))
    by true rest = ap suc rest
    by false rest = rest

pub stops_read : {A : Type 0} (f : ℕ → A) (test : A → Bool) (k : ℕ) (xs : List A) (d : A) → ((i : ℕ) → i < length xs → f (k + i) ≡ get_or xs i d) → map f (stops test k xs) ≡ filter test xs
stops_read f test k [] d h = refl
stops_read f test k (x ∷ xs) d h =
    let here : f k ≡ x = ap f (omega arith) ∙ h 0 (omega arith) in
    by (test x) here (stops_read f test (k + 1) xs d (λ i l. ap f (omega arith) ∙ h (suc i) (omega (arith, l))))
  where
    by : (b : Bool) → f k ≡ x → map f (stops test (k + 1) xs) ≡ filter test xs → map f (cond b (k ∷ stops test (k + 1) xs) (stops test (k + 1) xs)) ≡ cond b (x ∷ filter test xs) (filter test xs)
    by true here rest = λ i. here i ∷ rest i
    by false here rest = rest

-- ---- the base edges of a junction

-- the edges at the places where its number stands among the starts
pub edges_there : (js : List Junction) (ps : List Piece) (p : ℕ) (j : Junction) (d : DirectedRow) → JunctionsRise js → p < length js → map (λ i. get_or (directed_rows ps) i d) (places_of p (start_places js ps)) ≡ base_rows ps (get_or js p j).osm
edges_there js ps p j d rise h =
    ap (map (λ i. get_or (directed_rows ps) i d)) (stops_map (λ m. nat_eq m p) (λ e. junction_place js (row_start e)) 0 (directed_rows ps))
    ∙ (stops_read (λ i. get_or (directed_rows ps) i d) (λ e. nat_eq (junction_place js (row_start e)) p) 0 (directed_rows ps) d (λ i l. ap (λ k. get_or (directed_rows ps) k d) (omega arith))
    ∙ (λ i. filter (λ e. place_test js p j rise h (row_start e) i) (directed_rows ps)))

-- how many they are
pub edges_count : (js : List Junction) (ps : List Piece) (p : ℕ) (j : Junction) → JunctionsRise js → p < length js → length (places_of p (start_places js ps)) ≡ length (base_rows ps (get_or js p j).osm)
edges_count js ps p j rise h =
    ap length (stops_map (λ m. nat_eq m p) (λ e. junction_place js (row_start e)) 0 (directed_rows ps))
    ∙ (length_stops (λ e. nat_eq (junction_place js (row_start e)) p) 0 (directed_rows ps)
    ∙ (λ i. length (filter (λ e. place_test js p j rise h (row_start e) i) (directed_rows ps))))
