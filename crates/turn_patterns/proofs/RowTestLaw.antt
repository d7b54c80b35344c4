-- The tests of a search decide what a turn restriction with via ways asks.
use Rattle.std.proofs.Common.{◌≡◌, refl, sym, ◌∙◌, ap, subst, List, [], ◌∷◌, ℕ, ℤ, zero, suc, ◌<◌, Bool, true, false, cond, length, get_or, inl, inr, arith, eqb-true, eq-eqb, nat_eq}
use Rattle.std.specs.Prelude.{◌↔◌, ◌&&◌, not}
use Rattle.std.specs.Cmp.{signed_Decides}
use Rattle.std.specs.List.{Contains, list_any}
use Rattle.std.specs.Ordering.{int_eq}
use Rattle.osm_model.specs.declared.extract.Extract.{Extract}
use Rattle.road_pieces.specs.Among.{Among}
use Rattle.road_pieces.specs.DirectedPiece.{DirectedPiece}
use Rattle.road_pieces.specs.Pieces.{piece_start, piece_end}
use Rattle.road_walks.specs.BaseEdges.{directed_pieces}
use Rattle.road_walks.specs.Listed.{PiecesListed}
use Rattle.road_walks.specs.PieceMatches.{PieceGoesOn, MeetsAt}
use Rattle.road_walks.specs.Readings.{Joins}
use Rattle.pattern_search.specs.Words.{Includes}
use Rattle.pattern_search.proofs.Inclusion.{among_filter, among_unfilter}
use Rattle.pattern_search.proofs.MemberLaw.{and_both, and_left, and_right, differ}
use Rattle.pattern_search.proofs.NumberLaw.{any_of, any_is}
use Rattle.turn_patterns.specs.RowWords.{EndsPattern}
use Rattle.turn_patterns.specs.RowTests.{is_among, stands_there, goes_on_from, pieces_after, may_end_with, RowTestsDecide}
use Rattle.turn_patterns.proofs.FoundLaw.{contains, includes}

pub from_among : {E : Type 0} (xs : List E) (e : E) → Among xs e → Includes xs e
from_among [] e h = absurd h
from_among (x ∷ xs) e (inl is) = inl is
from_among (x ∷ xs) e (inr h) = inr (from_among xs e h)

pub to_among : {E : Type 0} (xs : List E) (e : E) → Includes xs e → Among xs e
to_among [] e h = absurd h
to_among (x ∷ xs) e (inl is) = inl is
to_among (x ∷ xs) e (inr h) = inr (to_among xs e h)

-- ways
pub among_is : (ways : List ℤ) (way : ℤ) → (is_among ways way ≡ true) ↔ Contains ways way
among_is ways way = (
  λ h. let found : (w : ℤ) × (Includes ways w × (int_eq w way ≡ true)) = any_is (λ w. int_eq w way) ways h in
      subst (Contains ways) ((signed_Decides found.0 way).0 found.1.1) (contains ways found.0 found.1.0),
  λ h. any_of (λ w. int_eq w way) ways way (includes ways way h.0 h.1 h.2) ((signed_Decides way way).1 refl),
)

stands_is : (ways : List ℤ) (i : ℕ) (way none : ℤ) → (stands_there ways i way ≡ true) ↔ ((i < length ways) × (way ≡ get_or ways i none))
stands_is [] i way none = (λ h. absurd (differ h), λ both. absurd (omega (arith, both.0)))
stands_is (w ∷ ws) zero way none = (λ h. (omega arith, (signed_Decides way w).0 h), λ both. (signed_Decides way w).1 both.1)
stands_is (w ∷ ws) (suc i) way none =
    (λ h. let rest = (stands_is ws i way none).0 h in (omega (arith, rest.0), rest.1), λ both. (stands_is ws i way none).1 (omega (arith, both.0), both.1))

-- one piece after another
goes_parts : (p q : DirectedPiece) (b : Bool) → p.forward ≡ b → (cond b (q.forward && nat_eq q.from p.to) (not q.forward && nat_eq p.from q.to) ≡ true) ↔ ((p.forward ≡ q.forward) × MeetsAt b p q)
goes_parts p q true is = (
  λ h. (is ∙ sym (and_left q.forward (nat_eq q.from p.to) h), eqb-true q.from p.to (and_right q.forward (nat_eq q.from p.to) h)),
  λ both. and_both q.forward (nat_eq q.from p.to) (sym both.0 ∙ is) (eq-eqb q.from p.to both.1),
)
goes_parts p q false is = (
  λ h. (is ∙ sym (not_true q.forward (and_left (not q.forward) (nat_eq p.from q.to) h)), eqb-true p.from q.to (and_right (not q.forward) (nat_eq p.from q.to) h)),
  λ both. and_both (not q.forward) (nat_eq p.from q.to) (ap not (sym both.0 ∙ is)) (eq-eqb p.from q.to both.1),
)
  where
    not_true : (b : Bool) → not b ≡ true → b ≡ false
    not_true true h = absurd (differ h)
    not_true false h = refl

goes_is : (p q : DirectedPiece) → (goes_on_from p q ≡ true) ↔ PieceGoesOn p q
goes_is p q = (to, back)
  where
    on : Bool
    on = cond p.forward (q.forward && nat_eq q.from p.to) (not q.forward && nat_eq p.from q.to)

    to : goes_on_from p q ≡ true → PieceGoesOn p q
    to h =
        let rest : (nat_eq p.run q.run && on) ≡ true = and_right (int_eq p.way q.way) (nat_eq p.run q.run && on) h in
        let parts : (p.forward ≡ q.forward) × MeetsAt p.forward p q = (goes_parts p q p.forward refl).0 (and_right (nat_eq p.run q.run) on rest) in
        record {
          same_way = (signed_Decides p.way q.way).0 (and_left (int_eq p.way q.way) (nat_eq p.run q.run && on) h);
          same_run = eqb-true p.run q.run (and_left (nat_eq p.run q.run) on rest);
          same_direction = parts.0;
          next = parts.1;
        }

    back : PieceGoesOn p q → goes_on_from p q ≡ true
    back g =
        and_both (int_eq p.way q.way) (nat_eq p.run q.run && on) ((signed_Decides p.way q.way).1 g.same_way)
        (and_both (nat_eq p.run q.run) on (eq-eqb p.run q.run g.same_run) ((goes_parts p q p.forward refl).1 (g.same_direction, g.next)))

module _ (listed : PiecesListed) (x : Extract) where
  joins_are : (p q : DirectedPiece) → Includes (pieces_after x p) q ↔ Joins x p q
  joins_are p q = (
    λ h. let found : Includes (directed_pieces x) q × (int_eq (piece_start x q) (piece_end x p) ≡ true) = among_unfilter (λ r. int_eq (piece_start x r) (piece_end x p)) (directed_pieces x) q h in
        record { exists = ((listed x).0 q).0 (to_among (directed_pieces x) q found.0); begins = (signed_Decides (piece_start x q) (piece_end x p)).0 found.1 },
    λ j. among_filter (λ r. int_eq (piece_start x r) (piece_end x p)) (directed_pieces x) q (from_among (directed_pieces x) q (((listed x).0 q).1 j.exists)) ((signed_Decides (piece_start x q) (piece_end x p)).1 j.begins),
  )

  ends_are : (only : Bool) (tos : List ℤ) (p q : DirectedPiece) → (may_end_with x only tos p q ≡ true) ↔ EndsPattern x only tos p q
  ends_are false tos p q = among_is tos q.way
  ends_are true tos p q = (
    λ h.
        let found : (o : DirectedPiece) × (Includes (pieces_after x p) o × (is_among tos o.way ≡ true)) = any_is (λ o. is_among tos o.way) (pieces_after x p) (and_right (not (is_among tos q.way)) (list_any (λ o. is_among tos o.way) (pieces_after x p)) h) in
        (λ to. never (is_among tos q.way) (and_left (not (is_among tos q.way)) (list_any (λ o. is_among tos o.way) (pieces_after x p)) h) ((among_is tos q.way).1 to), (found.0, ((joins_are p found.0).0 found.1.0, (among_is tos found.0.way).0 found.1.1))),
    λ both. and_both (not (is_among tos q.way)) (list_any (λ o. is_among tos o.way) (pieces_after x p)) (true_not (is_among tos q.way) (λ t. both.0 ((among_is tos q.way).0 t))) (any_of (λ o. is_among tos o.way) (pieces_after x p) both.1.0 ((joins_are p both.1.0).1 both.1.1.0) ((among_is tos both.1.0.way).1 both.1.1.1)),
  )
    where
      never : (b : Bool) → not b ≡ true → b ≡ true → ⊥
      never true h k = absurd (differ h)
      never false h k = absurd (differ k)

      true_not : (b : Bool) → (b ≡ true → ⊥) → not b ≡ true
      true_not true h = absurd (h refl)
      true_not false h = refl

pub row_tests_decide : PiecesListed → RowTestsDecide
row_tests_decide listed x only tos vias none can = record {
  count = refl;
  letters = joins_are listed x;
  last = ends_are listed x only tos;
  goes_on = goes_is;
  of = λ q i. stands_is vias i q.way none;
}
