-- Which directed pieces are equal, by their codes.
use Rattle.std.proofs.Common.{◌≡◌, ℕ, suc, zero, ◌*◌, ◌/◌, ◌<◌, refl, sym, ◌∙◌, ap, List, [], ◌∷◌, length, get_or, Bool, true, false, ◌||◌, nat_eq, inl, inr, arith}
use Rattle.std.specs.Prelude.{◌⊎◌}
use Rattle.std.proofs.lemmas.Bool.{eqb-true, eq-eqb, or_cases, or_left, or_right, cases_order, cases_eq}
use Rattle.osm_model.specs.declared.extract.Extract.{Extract}
use Rattle.road_pieces.specs.Among.{Once}
use Rattle.road_pieces.proofs.Members.{in_at, among_from_in}
use Rattle.road_walks.specs.BaseEdges.{directed_pieces, reverse_of, is_same}
use Rattle.road_walks.proofs.Locals.{same_itself, same_only}
use Rattle.road_walks.proofs.PiecesOnce.{pieces_once}
use Rattle.road_walks.proofs.Reverses.{turned_twice}
use Rattle.complex_restr.specs.Codes.{coded_piece}
use Rattle.restr_laws.specs.AtCodes.{piece_at, no_piece}
use Rattle.restr_laws.proofs.Pairs.{paired, reverse_behind}

-- an element that stands once has one place
once_apart : {E : Type 0} (es : List E) (i j : ℕ) (d : E) → Once es → i < j → j < length es → get_or es i d ≡ get_or es j d → ⊥
once_apart [] i j d once h l same = omega (arith, l)
once_apart (e ∷ es) i zero d once h l same = omega (arith, h)
once_apart (e ∷ es) zero (suc j) d once h l same = once.0 (among_from_in es e (in_at es j d e (omega (arith, l)) (sym same)))
once_apart (e ∷ es) (suc i) (suc j) d once h l same = once_apart es i j d once.1 (omega (arith, h)) (omega (arith, l)) same

one_place : {E : Type 0} (es : List E) (i j : ℕ) (d : E) → Once es → i < length es → j < length es → get_or es i d ≡ get_or es j d → i ≡ j
one_place es i j d once h l same =
    elim (cases_order i j) [
      | inl is ↦ is
      | inr (inl below) ↦ absurd (once_apart es i j d once below l same)
      | inr (inr above) ↦ absurd (once_apart es j i d once above h (sym same))
    ]

-- tests that pass together are equal
pub same_test : (a b : Bool) → (a ≡ true → b ≡ true) → (b ≡ true → a ≡ true) → a ≡ b
same_test true b h k = sym (h refl)
same_test false true h k = k refl
same_test false false h k = refl

module _ (x : Extract) where
  abbrev count : ℕ
  count = length (directed_pieces x)

  -- directed pieces are the same where their codes are
  pub same_codes : (i j : ℕ) → i < count → j < count → is_same (piece_at x i) (piece_at x j) ≡ nat_eq i j
  same_codes i j h l =
      same_test (is_same (piece_at x i) (piece_at x j)) (nat_eq i j)
      (λ t. eq-eqb i j (one_place (directed_pieces x) i j no_piece (pieces_once x) h l (same_only (piece_at x i) (piece_at x j) t)))
      (λ t. ap (λ k. is_same (piece_at x k) (piece_at x j)) (eqb-true i j t) ∙ same_itself (piece_at x j))

  -- the code of the same piece in the other direction
  pub record HasReverse (c : ℕ) : Type 0 where
    pub code : ℕ
    pub inside : code < count
    pub is : piece_at x code ≡ reverse_of (piece_at x c)
    pub other : (i : ℕ) → coded_piece i ≡ coded_piece c → (i ≡ c) ⊎ (i ≡ code)
    pub one : coded_piece code ≡ coded_piece c

  pub reverse_code : (c : ℕ) → c < count → HasReverse c
  reverse_code c h =
      let behind = reverse_behind (directed_pieces x) (c / 2) no_piece (paired x) (omega (arith, h)) in
      let further : suc (2 * (c / 2)) < count = behind.1 in
      elim (cases_eq c (2 * (c / 2))) [
        | inl even ↦ record {
          code = suc (2 * (c / 2));
          inside = further;
          is = behind.0 ∙ ap (λ n. reverse_of (piece_at x n)) (sym even);
          other = λ i e. elim (cases_eq i c) [ inl is ↦ inl is | inr differs ↦ inr (omega (arith, e, differs, even)) ];
          one = omega (arith, even);
        }
        | inr odd ↦
            let e : c ≡ suc (2 * (c / 2)) = omega (arith, odd) in
            record {
              code = 2 * (c / 2);
              inside = omega (arith, further);
              is = sym (ap reverse_of (ap (piece_at x) e ∙ behind.0) ∙ turned_twice (piece_at x (2 * (c / 2))));
              other = λ i same. elim (cases_eq i c) [ inl is ↦ inl is | inr differs ↦ inr (omega (arith, e, same, differs)) ];
              one = omega arith;
            }
      ]

  -- both directions of a piece are of one way
  pub same_way : (c : ℕ) → c < count → (piece_at x c).way ≡ (piece_at x (2 * coded_piece c)).way
  same_way c h =
      elim (cases_eq c (2 * (c / 2))) [
        | inl even ↦ ap (λ n. (piece_at x n).way) even
        | inr odd ↦
            let e : c ≡ suc (2 * (c / 2)) = omega (arith, odd) in
            ap (λ n. (piece_at x n).way) e ∙ ap (λ p. p.way) (reverse_behind (directed_pieces x) (c / 2) no_piece (paired x) (omega (arith, h))).0
      ]

  -- directed pieces are of the same piece where their codes are
  pub same_pieces : (i c : ℕ) → i < count → c < count → (is_same (piece_at x i) (piece_at x c) || is_same (piece_at x i) (reverse_of (piece_at x c))) ≡ nat_eq (coded_piece i) (coded_piece c)
  same_pieces i c h l =
      let back = reverse_code c l in
      same_test (is_same (piece_at x i) (piece_at x c) || is_same (piece_at x i) (reverse_of (piece_at x c))) (nat_eq (coded_piece i) (coded_piece c))
      (λ t. eq-eqb (coded_piece i) (coded_piece c)
      (elim (or_cases (is_same (piece_at x i) (piece_at x c)) (is_same (piece_at x i) (reverse_of (piece_at x c))) t) [
        | inl there ↦ ap coded_piece (eqb-true i c (sym (same_codes i c h l) ∙ there))
        | inr turned ↦ ap coded_piece (eqb-true i back.code (sym (same_codes i back.code h back.inside) ∙ (ap (is_same (piece_at x i)) back.is ∙ turned))) ∙ back.one
      ]))
      (λ t. elim (back.other i (eqb-true (coded_piece i) (coded_piece c) t)) [
        | inl there ↦ or_left (is_same (piece_at x i) (piece_at x c)) (is_same (piece_at x i) (reverse_of (piece_at x c))) (same_codes i c h l ∙ eq-eqb i c there)
        | inr turned ↦ or_right (is_same (piece_at x i) (piece_at x c)) (is_same (piece_at x i) (reverse_of (piece_at x c))) (sym (ap (is_same (piece_at x i)) back.is) ∙ (same_codes i back.code h back.inside ∙ eq-eqb i back.code turned))
      ])
