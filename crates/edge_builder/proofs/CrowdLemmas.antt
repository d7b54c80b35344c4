-- The first junction with too many base edges.
use Rattle.std.proofs.Common.{◌≡◌, ℕ, suc, ◌+◌, ◌<◌, ◌≤◌, sym, ◌∙◌, ap, List, length, get_or, drop, Bool, true, false, cond, Some, None, find, option_map, arith, drop-cons, drop_of_length-le, add-one, lt-ltb, nat_lt}
use Rattle.std.proofs.lemmas.Bool.{false_from_ne_true, ltb-true}
use Rattle.road_pieces.specs.declared.rows.Junction.{Junction}
use Rattle.road_pieces.specs.declared.rows.Piece.{Piece}
use Rattle.edge_builder.specs.Groups.{places_of}
use Rattle.edge_builder.specs.BaseRows.{base_rows, start_places, too_many, crowded, JunctionsRise}
use Rattle.edge_builder.specs.declared.faults.BaseFault.TheVariants.{TooManyEdges}
use Rattle.edge_builder.proofs.RowLemmas.{edges_count}

find_on : {A : Type 0} (test : A → Bool) (xs : List A) (i : ℕ) (d : A) (b : Bool) → i < length xs → test (get_or xs i d) ≡ b → find test (drop i xs) ≡ cond b (Some (get_or xs i d)) (find test (drop (i + 1) xs))
find_on test xs i d b h e =
    ap (find test) (drop-cons xs i d h) ∙ (ap (λ t. cond t (Some (get_or xs i d)) (find test (drop (suc i) xs))) e
    ∙ ap (λ k. cond b (Some (get_or xs i d)) (find test (drop k xs))) (sym (add-one i)))

-- more edges than a junction may have
abbrev pub is_crowded : List Piece → Junction → Bool
is_crowded pieces j = nat_lt 127 (length (base_rows pieces j.osm))

-- the junctions before this one aren't crowded
abbrev pub NoneBefore : List Junction → List ℕ → ℕ → Type 0
NoneBefore js starts i = (pieces : List Piece) → starts ≡ start_places js pieces → find (is_crowded pieces) (drop i js) ≡ find (is_crowded pieces) js

pub not_crowded : (js : List Junction) (starts : List ℕ) (i count : ℕ) (d : Junction) → JunctionsRise js → i < length js → count ≡ length (places_of i starts) → count ≤ 127 → NoneBefore js starts i → NoneBefore js starts (i + 1)
not_crowded js starts i count d rise h is few before pieces from =
    let many : length (base_rows pieces (get_or js i d).osm) ≡ count = sym (edges_count js pieces i d rise h) ∙ (ap (λ ks. length (places_of i ks)) (sym from) ∙ sym is) in
    let test : is_crowded pieces (get_or js i d) ≡ false = false_from_ne_true _ (λ e. let l = ltb-true _ _ e in absurd (omega (arith, l, many, few))) in
    sym (find_on (is_crowded pieces) js i d false h test) ∙ before pieces from

pub is_the_first : (js : List Junction) (starts : List ℕ) (i count : ℕ) (d : Junction) → JunctionsRise js → i < length js → count ≡ length (places_of i starts) → 127 < count → NoneBefore js starts i → (pieces : List Piece) → starts ≡ start_places js pieces → Some (TooManyEdges (get_or js i d).osm count) ≡ crowded js pieces
is_the_first js starts i count d rise h is many before pieces from =
    let number : length (base_rows pieces (get_or js i d).osm) ≡ count = sym (edges_count js pieces i d rise h) ∙ (ap (λ ks. length (places_of i ks)) (sym from) ∙ sym is) in
    let test : is_crowded pieces (get_or js i d) ≡ true = lt-ltb 127 (length (base_rows pieces (get_or js i d).osm)) (omega (arith, number, many)) in
    ap (λ k. Some (TooManyEdges (get_or js i d).osm k)) (sym number)
    ∙ ap (option_map (too_many pieces)) (sym (find_on (is_crowded pieces) js i d true h test) ∙ before pieces from)

pub none_crowded : (js : List Junction) (starts : List ℕ) (i : ℕ) → length js ≤ i → NoneBefore js starts i → (pieces : List Piece) → starts ≡ start_places js pieces → None ≡ crowded js pieces
none_crowded js starts i h before pieces from =
    ap (option_map (too_many pieces)) (ap (find (is_crowded pieces)) (sym (drop_of_length-le js {i = i} h)) ∙ before pieces from)
