-- The nodes of a tile, edge by edge.
use Rattle.std.proofs.Common.{◌≡◌, ℕ, suc, ◌+◌, ◌*◌, ◌<◌, ◌≤◌, refl, sym, ◌∙◌, ap, subst, List, [], ◌∷◌, ◌++◌, map, length, get_or, take, true, arith, take-suc, take_all, add-one, length-take}
use Rattle.std.specs.List.{enumerate_from}
use Rattle.std.proofs.lemmas.List.{map-append, length-map}
use Rattle.road_pieces.specs.declared.rows.Junction.{Junction}
use Rattle.road_pieces.specs.declared.rows.Piece.{Piece}
use Rattle.work_tile.specs.declared.edge_rows.WorkEdge.{WorkEdge}
use Rattle.work_tile.specs.WorkRows.{work_node_with}
use Rattle.edge_builder.specs.Groups.{places_of}
use Rattle.edge_builder.specs.BaseRows.{DirectedRow, directed_rows}
use Rattle.edge_builder.specs.BaseTiles.{base_edge, base_node, IsPlanned}
use Rattle.edge_builder.proofs.GroupLemmas.{stops_inside}
use Rattle.edge_builder.proofs.EdgeLemmas.{planned_lengths}
use Rattle.edge_builder.proofs.RowLemmas.{edges_there}

-- any edge
abbrev pub no_row : DirectedRow
no_row = record { piece = record { key = record { way = Rattle.std.proofs.Common.pos 0; run = 0; piece = 0 }; start = Rattle.std.proofs.Common.pos 0; end = Rattle.std.proofs.Common.pos 0; shape = []; cm = 0; class = 0; forward = 0; backward = 0; names = [] }; place = 0; forward = true }

numbered_more : {A : Type 0} (n : ℕ) (xs : List A) (x : A) → enumerate_from n (xs ++ x ∷ []) ≡ enumerate_from n xs ++ (n + length xs, x) ∷ []
numbered_more n [] x = ap (λ k. (k, x) ∷ []) {x = n} {y = n + 0} (omega arith)
numbered_more n (y ∷ ys) x = ap (λ es. (n, y) ∷ es) (numbered_more (n + 1) ys x ∙ ap (λ k. enumerate_from (n + 1) ys ++ (k, x) ∷ []) {x = n + 1 + length ys} {y = n + suc (length ys)} (omega arith))

-- the rows of the edges at the first so many of these places
abbrev pub edges_so_far : List Junction → List Piece → List ℕ → ℕ → List WorkEdge
edges_so_far js ps places i = map (base_edge js) (enumerate_from 0 (map (λ p. get_or (directed_rows ps) p no_row) (take i places)))

pub edges_more : (js : List Junction) (ps : List Piece) (places : List ℕ) (i d : ℕ) → i < length places → edges_so_far js ps places i ++ base_edge js (i, get_or (directed_rows ps) (get_or places i d) no_row) ∷ [] ≡ edges_so_far js ps places (i + 1)
edges_more js ps places i d h =
    let row : ℕ → DirectedRow = λ p. get_or (directed_rows ps) p no_row in
    let long : length (map row (take i places)) ≡ i = length-map (take i places) row ∙ (length-take i places ∙ omega (arith, h)) in
    sym (map-append (base_edge js) (enumerate_from 0 (map row (take i places))) ((i, row (get_or places i d)) ∷ []))
    ∙ (ap (λ k. map (base_edge js) (enumerate_from 0 (map row (take i places)) ++ (k, row (get_or places i d)) ∷ [])) {x = i} {y = 0 + length (map row (take i places))} (omega (arith, long))
    ∙ (ap (map (base_edge js)) (sym (numbered_more 0 (map row (take i places)) (row (get_or places i d))))
    ∙ (ap (λ es. map (base_edge js) (enumerate_from 0 es)) (sym (map-append row (take i places) (get_or places i d ∷ [])))
    ∙ ap (λ ks. map (base_edge js) (enumerate_from 0 (map row ks))) (sym (take-suc places i d h) ∙ ap (λ k. take k places) (sym (add-one i))))))

pub edges_whole : (js : List Junction) (ps : List Piece) (tiles starts places : List ℕ) (p i : ℕ) (d : Junction) → IsPlanned js ps tiles starts → p < length js → places ≡ places_of p starts → length places ≤ i → work_node_with (get_or js p d) (edges_so_far js ps places i) ≡ base_node js ps (get_or js p d)
edges_whole js ps tiles starts places p i d planned h are long =
    ap (λ es. work_node_with (get_or js p d) (map (base_edge js) (enumerate_from 0 es)))
    (ap (map (λ k. get_or (directed_rows ps) k no_row)) (take_all i places long ∙ (are ∙ ap (places_of p) planned.starts_are))
    ∙ edges_there js ps p d no_row planned.roads.rise h)

-- a place of a start is that of an edge
pub place_inside : (js : List Junction) (ps : List Piece) (tiles starts places : List ℕ) (p i d : ℕ) → IsPlanned js ps tiles starts → places ≡ places_of p starts → i < length places → get_or places i d < 2 * length ps
place_inside js ps tiles starts places p i d planned are h =
    let lengths = planned_lengths js ps tiles starts planned in
    let low = stops_inside (λ m. Rattle.std.proofs.Common.nat_eq m p) 0 starts i d (subst (λ ks. i < length ks) are h) in
    let same : get_or places i d ≡ get_or (places_of p starts) i d = ap (λ ks. get_or ks i d) are in
    omega (arith, low, same, lengths.1)
