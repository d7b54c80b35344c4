-- The local index of a directed piece is how many before it start where it starts.
use Rattle.std.proofs.Common.{◌≡◌, ℕ, suc, ◌<◌, refl, sym, ◌∙◌, ap, subst, List, [], ◌∷◌, ◌++◌, length, get_or, map, filter, take, drop, Bool, false, nat_eq, arith}
use Rattle.std.specs.List.{count_by, position_or_len}
use Rattle.std.specs.Ordering.{int_eq}
use Rattle.std.specs.Cmp.{signed_Decides}
use Rattle.std.proofs.lemmas.Bool.{cond-true, eqb-true, eq-eqb, ne_eqb}
use Rattle.std.proofs.lemmas.List.{length-append, length-map, length-take-le, get_or-map, get_or-take, get_or_append_left, get_or_at, take-map, take-append-drop}
use Rattle.std.proofs.lemmas.List.Elements.{filter-append}
use Rattle.std.proofs.lemmas.List.Sums.{position_or_len_is, length-filter}
use Rattle.std.proofs.Math.Seq.{drop-cons}
use Rattle.osm_model.specs.declared.extract.Extract.{Extract}
use Rattle.road_pieces.specs.declared.rows.Junction.{Junction}
use Rattle.road_pieces.specs.DirectedPiece.{DirectedPiece}
use Rattle.road_pieces.specs.Pieces.{piece_start}
use Rattle.road_pieces.specs.Rows.{junction_rows, piece_rows}
use Rattle.road_pieces.proofs.Members.{IsIn, in_at, at_in, in_map}
use Rattle.road_walks.specs.BaseEdges.{directed_pieces, base_edges, is_same, local_index}
use Rattle.road_walks.proofs.Locals.{same_itself}
use Rattle.road_walks.proofs.Sorted.{of_filter}
use Rattle.edge_builder.specs.BaseRows.{row_start, junction_place}
use Rattle.edge_builder.proofs.JunctionLemmas.{no_junction, id_there, place_test}
use Rattle.edge_builder.proofs.RoadLemmas.{rise, joined}
use Rattle.edge_builder.proofs.RowJunctions.{start_inside}
use Rattle.edge_builder.proofs.StageRows.{row_of_extract, row_starts, directed_told}
use Rattle.complex_restr.specs.Locals.{code_local}
use Rattle.restr_laws.specs.AtCodes.{piece_at, no_piece}
use Rattle.restr_laws.specs.CodePlaces.{code_starts, LocalsAtCodes}
use Rattle.restr_laws.proofs.CodeLaws.{filter_named}
use Rattle.restr_laws.proofs.PieceCodes.{same_test, same_codes}

named_twice : {A B C : Type 0} (f : B → C) (g : A → B) (xs : List A) → map f (map g xs) ≡ map (λ a. f (g a)) xs
named_twice f g [] = refl
named_twice f g (a ∷ xs) = ap (λ l. f (g a) ∷ l) (named_twice f g xs)

module _ (x : Extract) where
  abbrev pieces : List DirectedPiece
  pieces = directed_pieces x

  abbrev js : List Junction
  js = junction_rows x

  -- where a directed piece starts, as the place of a junction
  abbrev start_at : DirectedPiece → ℕ
  start_at p = junction_place js (piece_start x p)

  starts_told : code_starts x ≡ map start_at pieces
  starts_told =
      ap (map (λ e. junction_place js (row_start e))) (directed_told x)
      ∙ (named_twice (λ e. junction_place js (row_start e)) (row_of_extract x) pieces ∙ (λ i. map (λ p. junction_place js (row_starts x p i)) pieces))

  -- of the same place are those that start at the same node
  same_start : (p q : DirectedPiece) → IsIn pieces p → nat_eq (start_at p) (start_at q) ≡ int_eq (piece_start x q) (piece_start x p)
  same_start p q there =
      let listed = subst (λ rs. IsIn rs (row_of_extract x p)) (sym (directed_told x)) (in_map (row_of_extract x) pieces p there) in
      let low : start_at p < length js = subst (λ n. junction_place js n < length js) (row_starts x p) (start_inside js (piece_rows x) (row_of_extract x p) (joined x) listed) in
      same_test (nat_eq (start_at p) (start_at q)) (nat_eq (start_at q) (start_at p)) (λ t. eq-eqb (start_at q) (start_at p) (sym (eqb-true (start_at p) (start_at q) t))) (λ t. eq-eqb (start_at p) (start_at q) (sym (eqb-true (start_at q) (start_at p) t)))
      ∙ (place_test js (start_at p) no_junction (rise x) low (piece_start x q) ∙ ap (int_eq (piece_start x q)) (id_there js (piece_start x p) no_junction low))

  module _ (c : ℕ) (h : c < length pieces) where
    abbrev here : DirectedPiece
    here = piece_at x c

    abbrev starts_here : DirectedPiece → Bool
    starts_here q = int_eq (piece_start x q) (piece_start x here)

    -- the base edges where it starts: those before it, it, and those behind it
    parted : base_edges x (piece_start x here) ≡ filter starts_here (take c pieces) ++ here ∷ filter starts_here (drop (suc c) pieces)
    parted =
        ap (filter starts_here) (sym (take-append-drop c pieces) ∙ ap (λ l. take c pieces ++ l) (drop-cons pieces c no_piece h))
        ∙ (filter-append starts_here (take c pieces) (here ∷ drop (suc c) pieces)
        ∙ ap (λ l. filter starts_here (take c pieces) ++ l) (cond-true (starts_here here) (here ∷ filter starts_here (drop (suc c) pieces)) (filter starts_here (drop (suc c) pieces)) ((signed_Decides (piece_start x here) (piece_start x here)).1 refl)))

    -- none before it is the same
    other_before : (q : DirectedPiece) → IsIn (filter starts_here (take c pieces)) q → is_same here q ≡ false
    other_before q there =
        let (i, (inside, is)) = at_in (take c pieces) q (of_filter starts_here (take c pieces) q there).0 in
        let before : i < c = omega (arith, inside, length-take-le c pieces (omega (arith, h))) in
        ap (is_same here) (sym (is no_piece) ∙ get_or-take c pieces i no_piece before) ∙ (same_codes x c i h (omega (arith, h, before)) ∙ ne_eqb c i (λ e. omega (arith, e, before)))

    place_here : local_index x here ≡ length (filter starts_here (take c pieces))
    place_here =
        let front : List DirectedPiece = filter starts_here (take c pieces) in
        let behind : List DirectedPiece = filter starts_here (drop (suc c) pieces) in
        ap (position_or_len (is_same here)) parted
        ∙ position_or_len_is (is_same here) (front ++ here ∷ behind) (length front) no_piece (omega (arith, length-append front (here ∷ behind)))
        (λ j l. ap (is_same here) (get_or_append_left front (here ∷ behind) no_piece j l) ∙ other_before (get_or front j no_piece) (in_at front j no_piece (get_or front j no_piece) l refl))
        (λ l. ap (is_same here) (get_or_at front here behind no_piece (length front) refl) ∙ same_itself here)

    counted_here : code_local (code_starts x) c ≡ length (filter starts_here (take c pieces))
    counted_here =
        let before : List DirectedPiece = take c pieces in
        ap (λ starts. code_local starts c) starts_told
        ∙ (ap (λ n. count_by (nat_eq n) (take c (map start_at pieces))) (get_or-map start_at pieces c no_piece 0 h)
        ∙ (ap (count_by (nat_eq (start_at here))) (take-map start_at c pieces)
        ∙ (sym (length-filter (nat_eq (start_at here)) (map start_at before))
        ∙ (ap length (filter_named start_at (nat_eq (start_at here)) starts_here before (λ q _. same_start here q (in_at pieces c no_piece here h refl)))
        ∙ length-map (filter starts_here before) start_at))))

  as_many : length (code_starts x) ≡ length pieces
  as_many = ap length starts_told ∙ length-map pieces start_at

pub locals_law : LocalsAtCodes
locals_law x locals are = record {
  all = are.all ∙ as_many x;
  each = λ c h. are.each c (omega (arith, h, as_many x)) ∙ (counted_here x c h ∙ sym (place_here x c h));
}
