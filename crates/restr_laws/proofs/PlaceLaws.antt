-- Of which piece each code is.
use Rattle.std.proofs.Common.{◌≡◌, ℕ, zero, suc, ◌+◌, ◌*◌, ◌/◌, ◌%◌, ◌<◌, refl, sym, ◌∙◌, ap, subst, List, [], ◌∷◌, length, get_or, filter, true, not, inl, inr, arith, map, false}
use Rattle.std.specs.List.{enumerate_from}
use Rattle.std.proofs.lemmas.Bool.{cond-true, cond-false, cases_eq, eq-eqb, ne_eqb}
use Rattle.std.proofs.lemmas.List.{length-map, get_or-map}
use Rattle.osm_model.specs.declared.extract.Extract.{Extract}
use Rattle.road_pieces.specs.DirectedPiece.{DirectedPiece}
use Rattle.road_pieces.specs.Rows.{piece_rows}
use Rattle.road_pieces.proofs.Members.{IsIn, in_at, in_numbered}
use Rattle.road_walks.specs.BaseEdges.{directed_pieces, reverse_of, tile_numbers}
use Rattle.edge_builder.specs.ExtractRows.{forward_pieces, piece_of_extract, piece_place}
use Rattle.edge_builder.proofs.ForwardRows.{told_forward}
use Rattle.edge_builder.proofs.PiecePlaces.{runs_forward, place_forward, place_backward}
use Rattle.folder_spec.specs.Rows.{keeps_piece}
use Rattle.complex_restr.specs.Codes.{coded_piece}
use Rattle.complex_restr.specs.KeptPieces.{is_kept_piece}
use Rattle.restr_laws.specs.AtCodes.{piece_at, no_piece}
use Rattle.restr_laws.specs.CodePlaces.{IsCoded, PiecesAtCodes, KeptAtCodes, ArePieceCodes}
use Rattle.restr_laws.proofs.Pairs.{ArePaired, paired, reverse_behind}

abbrev forward_in : List DirectedPiece → List DirectedPiece
forward_in ps = filter (λ p. p.forward) ps

-- of a pair the first stays
first_stays : (p q : DirectedPiece) (ps : List DirectedPiece) → ArePaired (p ∷ (q ∷ ps)) → forward_in (p ∷ (q ∷ ps)) ≡ p ∷ forward_in ps
first_stays p q ps h =
    cond-true p.forward (p ∷ forward_in (q ∷ ps)) (forward_in (q ∷ ps)) h.0
    ∙ ap (λ l. p ∷ l) (cond-false q.forward (q ∷ forward_in ps) (forward_in ps) (ap (λ r. r.forward) h.1.0 ∙ ap not h.0))

-- half of the pieces run forward, each at half its place
halves : (ps : List DirectedPiece) → ArePaired ps → length ps ≡ 2 * length (forward_in ps)
halves [] h = refl
halves (p ∷ []) h = absurd h
halves (p ∷ (q ∷ ps)) h = omega (arith, halves ps h.1.1, ap length (first_stays p q ps h))

half_place : (ps : List DirectedPiece) (k : ℕ) (d : DirectedPiece) → ArePaired ps → 2 * k < length ps → get_or ps (2 * k) d ≡ get_or (forward_in ps) k d
half_place [] k d h l = absurd (omega (arith, l))
half_place (p ∷ []) k d h l = absurd h
half_place (p ∷ (q ∷ ps)) zero d h l = sym (ap (λ fs. get_or fs 0 d) (first_stays p q ps h))
half_place (p ∷ (q ∷ ps)) (suc k) d h l =
    ap (λ n. get_or (p ∷ (q ∷ ps)) n d) {x = 2 * suc k} {y = suc (suc (2 * k))} (omega arith)
    ∙ (half_place ps k d h.1.1 (omega (arith, l)) ∙ sym (ap (λ fs. get_or fs (suc k) d) (first_stays p q ps h)))

module _ (x : Extract) where
  abbrev ones : List DirectedPiece
  ones = forward_pieces x

  one_coded : (c k : ℕ) → k < length ones → 2 * k < length (directed_pieces x) → coded_piece c ≡ k → IsCoded x c
  one_coded c k inside low half =
      let f : DirectedPiece = get_or ones k no_piece in
      let there : IsIn ones f = in_at ones k no_piece f inside refl in
      let numbered : IsIn (enumerate_from 0 ones) (k, f) = subst (λ n. IsIn (enumerate_from 0 ones) (n, f)) {x = 0 + k} {y = k} (omega arith) (in_numbered 0 ones k no_piece inside) in
      let ahead : f.forward ≡ true = runs_forward x f there in
      let at : piece_at x (2 * k) ≡ f = half_place (directed_pieces x) k no_piece (paired x) low in
      elim (cases_eq c (2 * k)) [
        | inl even ↦
            let is : piece_at x c ≡ f = ap (piece_at x) even ∙ at in
            record {
              place = ap (piece_place x) is ∙ (place_forward x k f numbered ahead ∙ sym half);
              direction = ap (λ p. p.forward) is ∙ (ahead ∙ sym (eq-eqb (c % 2) 0 (omega (arith, even))));
            }
        | inr odd ↦
            let one : c ≡ suc (2 * k) = omega (arith, odd, half) in
            let is : piece_at x c ≡ reverse_of f = ap (piece_at x) one ∙ ((reverse_behind (directed_pieces x) k no_piece (paired x) low).0 ∙ ap reverse_of at) in
            record {
              place = ap (piece_place x) is ∙ (place_backward x k f numbered ahead ∙ sym half);
              direction = ap (λ p. p.forward) is ∙ (ap not ahead ∙ sym (ne_eqb (c % 2) 0 (λ e. omega (arith, one, e))));
            }
      ]

pub places_law : PiecesAtCodes
places_law x =
    let half : length (directed_pieces x) ≡ 2 * length (forward_pieces x) = halves (directed_pieces x) (paired x) in
    let rows : length (piece_rows x) ≡ length (forward_pieces x) = ap length (told_forward x) ∙ length-map (forward_pieces x) (piece_of_extract x) in
    record {
      all = half ∙ ap (λ n. 2 * n) (sym rows);
      each = λ c h. one_coded x c (c / 2) (omega (arith, h, half)) (omega (arith, h)) refl;
    }

-- a piece of the roads has the accesses of its way
kept_told : (x : Extract) (asked k : ℕ) → k < length (forward_pieces x) → 2 * k < length (directed_pieces x) → get_or (map (is_kept_piece asked) (piece_rows x)) k false ≡ keeps_piece x asked tile_numbers [] (λ l n. 0) (piece_at x (2 * k))
kept_told x asked k inside low =
    let f : DirectedPiece = get_or (forward_pieces x) k no_piece in
    ap (λ rows. get_or (map (is_kept_piece asked) rows) k false) (told_forward x)
    ∙ (get_or-map (is_kept_piece asked) (map (piece_of_extract x) (forward_pieces x)) k (piece_of_extract x f) false (omega (arith, inside, length-map (forward_pieces x) (piece_of_extract x)))
    ∙ (ap (is_kept_piece asked) (get_or-map (piece_of_extract x) (forward_pieces x) k no_piece (piece_of_extract x f) inside)
    ∙ ap (keeps_piece x asked tile_numbers [] (λ l n. 0)) (sym (half_place (directed_pieces x) k no_piece (paired x) low))))

pub kept_law : KeptAtCodes
kept_law x asked =
    let codes : ArePieceCodes x = places_law x in
    let half : length (directed_pieces x) ≡ 2 * length (forward_pieces x) = halves (directed_pieces x) (paired x) in
    let flags : length (map (is_kept_piece asked) (piece_rows x)) ≡ length (piece_rows x) = length-map (piece_rows x) (is_kept_piece asked) in
    record {
      all = codes.all ∙ ap (λ n. 2 * n) (sym flags);
      each = λ k h. let inside : k < length (forward_pieces x) = omega (arith, h, flags, codes.all, half) in
          kept_told x asked k inside (omega (arith, inside, half));
    }
