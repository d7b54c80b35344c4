-- Pieces made from places of nodes are the pieces of runs.
use Rattle.std.proofs.Common.{◌≡◌, ℕ, zero, suc, ◌+◌, ◌-◌, ◌<◌, ◌≤◌, refl, sym, ◌∙◌, ap, subst, List, [], ◌∷◌, ◌++◌, length, map, get_or, take, drop, ℤ, pos, Bool, true, false, cond, inl, inr, arith, append_assoc}
use Rattle.std.specs.Prelude.{All, slice_range, slice_get}
use Rattle.std.specs.Ordering.{int_eq}
use Rattle.std.specs.List.{enumerate_from}
use Rattle.std.proofs.lemmas.List.Elements.{All-head, All-tail, All-cons, All-nil}
use Rattle.std.specs.Option.{option_map_or}
use Rattle.std.proofs.lemmas.List.{take-map, length-drop, length-take, get_or-drop, get_or-take, get_or_default, drop_more, drop_all, nil_from_length, append-nil}
use Rattle.std.proofs.lemmas.List.Folds.{find_at}
use Rattle.std.proofs.lemmas.Option.{slice_get-get_or}
use Rattle.std.proofs.lemmas.Bool.{cond-true, cond-false, cases_lt}
use Rattle.osm_model.specs.declared.nodes.OsmNode.{OsmNode}
use Rattle.osm_model.specs.OsmNode.{IsPlaced}
use Rattle.fixed_geo.specs.Place.{IsPlace}
use Rattle.osm_model.specs.declared.ways.OsmWay.{OsmWay}
use Rattle.osm_model.specs.declared.extract.Extract.{Extract}
use Rattle.osm_model.specs.Extract.{NodesRise}
use Rattle.road_pieces.specs.declared.rows.Piece.{Piece}
use Rattle.road_pieces.specs.Runs.{is_junction}
use Rattle.road_pieces.specs.Rules.{class_of, forward_access, backward_access, names_of}
use Rattle.road_pieces.specs.Lengths.{point_of, point}
use Rattle.road_pieces.specs.Rows.{stops, spans, spans_from, course, course_cm, piece_row, run_rows}
use Rattle.road_pieces.specs.Lines.{Line, no_node, id_at, IsSound}
use Rattle.road_pieces.specs.Parts.{point_at, part_row, line_rows, no_way}
use Rattle.road_pieces.specs.PieceRows.{Drafted}
use Rattle.road_pieces.proofs.NodePlaces.{place_is}

place_of_placed : (n : OsmNode) → IsPlaced n → IsPlace (point_of n)
place_of_placed n h =
    record { from_south = h.from_south; to_north = h.to_north; from_west = h.from_west; to_east = h.to_east }

pub course_placed : (nodes : List OsmNode) (places : List ℕ) → All IsPlaced nodes → All (λ p. p < length nodes) places → All IsPlace (map (point_at nodes) places)
course_placed nodes [] placed inside = All-nil IsPlace
course_placed nodes (p ∷ places) placed inside =
    All-cons IsPlace (point_at nodes p) (map (point_at nodes) places)
    (place_of_placed (get_or nodes p no_node) (placed p no_node (All-head (λ q. q < length nodes) p places inside)))
    (course_placed nodes places placed (All-tail (λ q. q < length nodes) p places inside))

-- where the node with the id of a place is
point_is : (nodes : List OsmNode) (p : ℕ) → NodesRise nodes → p < length nodes → point nodes (id_at nodes p) ≡ point_at nodes p
point_is nodes p rise h =
    ap (λ o. option_map_or point_of o (record { lat = pos 0; lon = pos 0 }))
    (find_at (λ n. int_eq n.id (id_at nodes p)) nodes ∙ (ap (slice_get nodes) (place_is nodes p no_node (id_at nodes p) rise h refl) ∙ slice_get-get_or nodes p no_node h))

points_are : (nodes : List OsmNode) (places : List ℕ) → NodesRise nodes → All (λ p. p < length nodes) places → map (point nodes) (map (id_at nodes) places) ≡ map (point_at nodes) places
points_are nodes [] rise inside = refl
points_are nodes (p ∷ places) rise inside =
    ap (λ q. q ∷ map (point nodes) (map (id_at nodes) places)) (point_is nodes p rise (All-head (λ q. q < length nodes) p places inside)) ∙ ap (λ l. point_at nodes p ∷ l) (points_are nodes places rise (All-tail (λ q. q < length nodes) p places inside))

-- a part of a list
drop-map : {A B : Type 0} (f : A → B) (n : ℕ) (xs : List A) → drop n (map f xs) ≡ map f (drop n xs)
drop-map f zero xs = refl
drop-map f (suc n) [] = refl
drop-map f (suc n) (x ∷ xs) = drop-map f n xs

part-map : {A B : Type 0} (f : A → B) (xs : List A) (a b : ℕ) → slice_range (map f xs) a b ≡ map f (slice_range xs a b)
part-map f xs a b = ap (take (b - a)) (drop-map f a xs) ∙ take-map f (b - a) (drop a xs)

part_at : (xs : List ℕ) (a b k d : ℕ) → a + k < b → get_or (slice_range xs a b) k d ≡ get_or xs (a + k) d
part_at xs a b k d h = get_or-take (b - a) (drop a xs) k d (omega arith) ∙ get_or-drop a xs k d

pub flag_is : (f : OsmNode → Bool) (nodes : List OsmNode) (p : ℕ) (d : OsmNode) → p < length nodes → get_or (map f nodes) p false ≡ f (get_or nodes p d)
flag_is f [] p d h = absurd (omega arith)
flag_is f (n ∷ nodes) zero d h = refl
flag_is f (n ∷ nodes) (suc p) d h = flag_is f nodes p d (omega arith)

pub part_inside : (Is : ℕ → Type 0) (xs : List ℕ) (a b : ℕ) → b ≤ length xs → All Is xs → All Is (slice_range xs a b)
part_inside Is xs a b h all =
    λ k d l. subst Is (sym (part_at xs a b k d (omega (arith, length-take (b - a) (drop a xs), length-drop a xs)))) (all (a + k) d (omega (arith, length-take (b - a) (drop a xs), length-drop a xs)))

part_length : (xs : List ℕ) (a b : ℕ) → b ≤ length xs → length (slice_range xs a b) ≡ b - a
part_length xs a b h = omega (arith, length-take (b - a) (drop a xs), length-drop a xs)

get_or-map : (f : ℕ → ℤ) (xs : List ℕ) (i : ℕ) → i < length xs → get_or (map f xs) i (pos 0) ≡ f (get_or xs i 0)
get_or-map f [] i h = absurd (omega arith)
get_or-map f (x ∷ xs) zero h = refl
get_or-map f (x ∷ xs) (suc i) h = get_or-map f xs i (omega arith)

-- the piece between two places of a line, made of ids and of places
abbrev pub part : Extract → Line → OsmWay → ℕ × (ℕ × ℕ) → Piece
part x line way (piece, (from, to)) = part_row x.nodes way line.number piece (slice_range line.places from (to + 1))

abbrev row : Extract → Line → OsmWay → ℕ × (ℕ × ℕ) → Piece
row x line way (piece, (from, to)) = piece_row x way line.number (map (id_at x.nodes) line.places) piece from to

same_part : (x : Extract) (line : Line) (way : OsmWay) (piece from to : ℕ) → IsSound x line → from < to → to < length line.places → row x line way (piece, (from, to)) ≡ part x line way (piece, (from, to))
same_part x line way piece from to sound h l =
    let places : List ℕ = slice_range line.places from (to + 1) in
    let long : length places ≡ to + 1 - from = part_length line.places from (to + 1) (omega arith) in
    let start : get_or (map (id_at x.nodes) line.places) from (pos 0) ≡ id_at x.nodes (get_or places 0 0) =
    get_or-map (id_at x.nodes) line.places from (omega arith) ∙ ap (id_at x.nodes) (ap (λ k. get_or line.places k 0) {x = from} {y = from + 0} (omega arith) ∙ sym (part_at line.places from (to + 1) 0 0 (omega arith))) in
    let end : get_or (map (id_at x.nodes) line.places) to (pos 0) ≡ id_at x.nodes (get_or places (length places - 1) 0) =
    get_or-map (id_at x.nodes) line.places to l ∙ ap (id_at x.nodes) (ap (λ k. get_or line.places k 0) {x = to} {y = from + (length places - 1)} (omega arith) ∙ sym (part_at line.places from (to + 1) (length places - 1) 0 (omega arith))) in
    let shape : course x.nodes (map (id_at x.nodes) line.places) from to ≡ map (point_at x.nodes) places =
    ap (map (point x.nodes)) (part-map (id_at x.nodes) line.places from (to + 1)) ∙ points_are x.nodes places x.nodes_rise (part_inside (λ p. p < length x.nodes) line.places from (to + 1) (omega arith) sound.places) in
    λ i. record {
      key = record { way = way.id; run = line.number; piece = piece };
      start = start i;
      end = end i;
      shape = shape i;
      cm = course_cm (shape i);
      class = class_of way.tags;
      forward = forward_access way.tags;
      backward = backward_access way.tags;
      names = names_of way.tags;
    }

stops_map : {A B : Type 0} (f : A → B) (test : B → Bool) (k : ℕ) (xs : List A) → stops test k (map f xs) ≡ stops (λ a. test (f a)) k xs
stops_map f test k [] = refl
stops_map f test k (x ∷ xs) = ap (λ l. cond (test (f x)) (k ∷ l) l) (stops_map f test (k + 1) xs)

-- two ways to make a piece that agree between successive places give the same pieces
rows_alike : (f g : ℕ × (ℕ × ℕ) → Piece) (size : ℕ) → ((piece from to : ℕ) → from < to → to < size → f (piece, (from, to)) ≡ g (piece, (from, to))) → (test : ℕ → Bool) (xs : List ℕ) (piece from k : ℕ) → from < k → k + length xs ≡ size → map f (enumerate_from piece (spans_from from (stops test k xs))) ≡ map g (enumerate_from piece (spans_from from (stops test k xs)))
rows_alike f g size same test [] piece from k h e = refl
rows_alike f g size same test (x ∷ xs) piece from k h e =
    alike_by (test x) (rows_alike f g size same test xs (piece + 1) k (k + 1) (omega arith) (omega arith))
    (rows_alike f g size same test xs piece from (k + 1) (omega arith) (omega arith))
  where
    alike_by : (b : Bool) → map f (enumerate_from (piece + 1) (spans_from k (stops test (k + 1) xs))) ≡ map g (enumerate_from (piece + 1) (spans_from k (stops test (k + 1) xs))) → map f (enumerate_from piece (spans_from from (stops test (k + 1) xs))) ≡ map g (enumerate_from piece (spans_from from (stops test (k + 1) xs))) → map f (enumerate_from piece (spans_from from (cond b (k ∷ stops test (k + 1) xs) (stops test (k + 1) xs)))) ≡ map g (enumerate_from piece (spans_from from (cond b (k ∷ stops test (k + 1) xs) (stops test (k + 1) xs))))
    alike_by true goes stays =
        ap (λ p. p ∷ map f (enumerate_from (piece + 1) (spans_from k (stops test (k + 1) xs)))) (same piece from k h (omega arith)) ∙ ap (λ l. g (piece, (from, k)) ∷ l) goes
    alike_by false goes stays = stays

-- the test of a place
abbrev pub stops_at : Extract → ℕ → Bool
stops_at x p = is_junction x (id_at x.nodes p)

-- the pieces from a place of a line on, where the last junction stood at from
abbrev pub rest_rows : Extract → Line → OsmWay → ℕ → ℕ → ℕ → List Piece
rest_rows x line way piece from to =
    map (part x line way) (enumerate_from piece (spans_from from (stops (stops_at x) to (drop to line.places))))

spans_begin : (test : ℕ → Bool) (places : List ℕ) → (0 < length places → test (get_or places 0 0) ≡ true) → spans (stops test 0 places) ≡ spans_from 0 (stops test 1 (drop 1 places))
spans_begin test [] h = refl
spans_begin test (p ∷ places) h =
    ap spans (cond-true _ (0 ∷ stops test (0 + 1) places) (stops test (0 + 1) places) (h (omega arith))) ∙ ap (λ k. spans_from 0 (stops test k places)) {x = 0 + 1} {y = 1} (omega arith)

pub line_is : (x : Extract) (line : Line) (way : OsmWay) → IsSound x line → run_rows x way line.number (map (id_at x.nodes) line.places) ≡ rest_rows x line way 0 0 1
line_is x line way sound =
    ap (λ l. map (row x line way) (enumerate_from 0 l)) (ap spans (stops_map (id_at x.nodes) (is_junction x) 0 line.places) ∙ spans_begin (stops_at x) line.places sound.begins) ∙ elim (cases_lt 0 (length line.places)) [
      | inl some ↦ rows_alike (row x line way) (part x line way) (length line.places) (λ piece from to h l. same_part x line way piece from to sound h l) (stops_at x) (drop 1 line.places) 0 0 1 (omega arith) (omega (arith, length-drop 1 line.places))
      | inr none ↦ let e : line.places ≡ [] = nil_from_length line.places (omega arith) in
          ap (λ l. map (row x line way) (enumerate_from 0 (spans_from 0 (stops (stops_at x) 1 (drop 1 l))))) e ∙ sym (ap (λ l. map (part x line way) (enumerate_from 0 (spans_from 0 (stops (stops_at x) 1 (drop 1 l))))) e)
    ]

-- one place of a line more
rest_step : (x : Extract) (line : Line) (way : OsmWay) (piece from to : ℕ) → to < length line.places → rest_rows x line way piece from to ≡ cond (stops_at x (get_or line.places to 0)) (part x line way (piece, (from, to)) ∷ rest_rows x line way (piece + 1) to (to + 1)) (rest_rows x line way piece from (to + 1))
rest_step x line way piece from to h =
    ap (λ l. map (part x line way) (enumerate_from piece (spans_from from (stops (stops_at x) to l)))) (drop_more line.places to 0 h) ∙ step_by (stops_at x (get_or line.places to 0))
  where
    step_by : (b : Bool) → map (part x line way) (enumerate_from piece (spans_from from (cond b (to ∷ stops (stops_at x) (to + 1) (drop (to + 1) line.places)) (stops (stops_at x) (to + 1) (drop (to + 1) line.places))))) ≡ cond b (part x line way (piece, (from, to)) ∷ rest_rows x line way (piece + 1) to (to + 1)) (rest_rows x line way piece from (to + 1))
    step_by true = refl
    step_by false = refl

-- The draft so far: the pieces found, with those of the rest of the line, are those of the line behind those before.
-- Each place up to the last junction has given one point, and each piece one more; the names are those of the way.
pub record IsCut (x : Extract) (line : Line) (way : OsmWay) (before now : Drafted) (piece from to : ℕ) : Type 0 where
  pub done : now.done ++ rest_rows x line way piece from to ≡ before.done ++ rest_rows x line way 0 0 1
  pub low : from < to
  pub few : piece < to
  pub inside : from ≤ length line.places
  pub points : now.points ≤ before.points + (from + piece)
  pub pieces : piece ≤ from
  pub named : now.named ≡ before.named
  pub names : now.names ≡ names_of way.tags

pub cut_first : (x : Extract) (line : Line) (way : OsmWay) (before : Drafted) → before.names ≡ names_of way.tags → IsCut x line way before before 0 0 1
cut_first x line way before names = record {
  done = refl;
  low = omega arith;
  few = omega arith;
  inside = omega arith;
  points = omega arith;
  pieces = omega arith;
  named = refl;
  names = names;
}

pub cut_here : (x : Extract) (line : Line) (way : OsmWay) (before now new : Drafted) (piece from to : ℕ) → to < length line.places → stops_at x (get_or line.places to 0) ≡ true → new.done ≡ now.done ++ part x line way (piece, (from, to)) ∷ [] → new.points ≡ now.points + length (slice_range line.places from (to + 1)) → new.named ≡ now.named → new.names ≡ now.names → IsCut x line way before now piece from to → IsCut x line way before new (piece + 1) to (to + 1)
cut_here x line way before now new piece from to h here made points named names s = record {
  done = ap (λ l. l ++ rest_rows x line way (piece + 1) to (to + 1)) made ∙ (append_assoc now.done (part x line way (piece, (from, to)) ∷ []) (rest_rows x line way (piece + 1) to (to + 1)) ∙ (ap (λ l. now.done ++ l) (sym (rest_step x line way piece from to h ∙ cond-true _ _ _ here)) ∙ s.done));
  low = omega arith;
  few = omega (arith, s.few);
  inside = omega arith;
  points = omega (arith, points, s.points, s.low, part_length line.places from (to + 1) (omega arith));
  pieces = omega (arith, s.pieces, s.low);
  named = named ∙ s.named;
  names = names ∙ s.names;
}

pub cut_past : (x : Extract) (line : Line) (way : OsmWay) (before now : Drafted) (piece from to : ℕ) → to < length line.places → stops_at x (get_or line.places to 0) ≡ false → IsCut x line way before now piece from to → IsCut x line way before now piece from (to + 1)
cut_past x line way before now piece from to h here s = record {
  done = ap (λ l. now.done ++ l) (sym (rest_step x line way piece from to h ∙ cond-false _ _ _ here)) ∙ s.done;
  low = omega (arith, s.low);
  few = omega (arith, s.few);
  inside = s.inside;
  points = s.points;
  pieces = s.pieces;
  named = s.named;
  names = s.names;
}

pub cut_all : (x : Extract) (line : Line) (way : OsmWay) (before now : Drafted) (piece from to : ℕ) → length line.places ≤ to → IsSound x line → way ≡ get_or x.ways line.way way → IsCut x line way before now piece from to → now.done ≡ before.done ++ line_rows x line
cut_all x line way before now piece from to h sound is s =
    sym (append-nil now.done) ∙ (ap (λ l. now.done ++ map (part x line way) (enumerate_from piece (spans_from from (stops (stops_at x) to l)))) (sym (drop_all to line.places h)) ∙ (s.done ∙ ap (λ l. before.done ++ l) (sym (line_is x line way sound) ∙ ap (λ w. run_rows x w line.number (map (id_at x.nodes) line.places)) (is ∙ get_or_default x.ways line.way way no_way sound.way))))

-- after one more place, where the ways of an `if` join
pub cut_on : (x : Extract) (line : Line) (way : OsmWay) (before now joined : Drafted) (piece from n f to : ℕ) → joined ≡ now → n ≡ piece → f ≡ from → IsCut x line way before now piece from to → IsCut x line way before joined n f to
cut_on x line way before now joined piece from n f to d e g s =
    subst (λ j. IsCut x line way before j n f to) (sym d) (subst (λ k. IsCut x line way before now k f to) (sym e) (subst (λ k. IsCut x line way before now piece k to) (sym g) s))

-- what the test of a place says
pub stop_is : (x : Extract) (flags : List Bool) (p : ℕ) (b : Bool) → flags ≡ map (λ n. is_junction x n.id) x.nodes → p < length x.nodes → get_or flags p false ≡ b → stops_at x p ≡ b
stop_is x flags p b e h is = sym (ap (λ l. get_or l p false) e ∙ flag_is (λ n. is_junction x n.id) x.nodes p no_node h) ∙ is
