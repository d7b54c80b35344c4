-- The index of a piece among all pieces, and of an edge among those of its junction.
use Rattle.std.proofs.Common.{◌≡◌, ℕ, zero, suc, ◌<◌, refl, sym, ◌∙◌, ap, List, [], ◌∷◌, length, get_or, ℤ, Bool, true, not, inl, inr, arith}
use Rattle.std.specs.List.{enumerate_from, position_or_len}
use Rattle.std.specs.Ordering.{int_eq}
use Rattle.std.proofs.lemmas.Bool.{both_ways, false_from_ne_true, or_left, or_right, or_cases}
use Rattle.std.proofs.lemmas.List.Sums.{position_or_len_is}
use Rattle.osm_model.specs.declared.extract.Extract.{Extract}
use Rattle.road_pieces.specs.Among.{Once}
use Rattle.road_pieces.specs.DirectedPiece.{DirectedPiece}
use Rattle.road_pieces.specs.Pieces.{piece_start}
use Rattle.road_pieces.proofs.Members.{IsIn, IsAt, in_at, among_from_in, of_numbered}
use Rattle.road_walks.specs.BaseEdges.{directed_pieces, base_edges, is_same, local_index, reverse_of}
use Rattle.road_walks.proofs.Locals.{same_itself, same_only}
use Rattle.road_walks.proofs.PiecesOnce.{pieces_once}
use Rattle.road_walks.proofs.Reverses.{turned_twice}
use Rattle.road_walks.proofs.Sorted.{of_filter, once_filter}
use Rattle.edge_builder.specs.ExtractRows.{forward_pieces, is_of_piece, piece_place}

-- ---- lists with each element once

once_apart : {E : Type 0} (es : List E) (i j : ℕ) (d : E) → Once es → i < j → j < length es → get_or es i d ≡ get_or es j d → ⊥
once_apart [] i j d once h l same = omega (arith, l)
once_apart (e ∷ es) i zero d once h l same = omega (arith, h)
once_apart (e ∷ es) zero (suc j) d once h l same = once.0 (among_from_in es e (in_at es j d e (omega (arith, l)) (sym same)))
once_apart (e ∷ es) (suc i) (suc j) d once h l same = once_apart es i j d once.1 (omega (arith, h)) (omega (arith, l)) same

-- the place of the only element that passes a test is its number
only_place : {E : Type 0} (test : E → Bool) (es : List E) (k : ℕ) (e : E) → Once es → ((f : E) → IsIn es f → test f ≡ true → f ≡ e) → test e ≡ true → IsIn (enumerate_from 0 es) (k, e) → position_or_len test es ≡ k
only_place test es k e once only passes h =
    let at : IsAt 0 es k e = of_numbered 0 es (k, e) h in
    let number : at.place ≡ k = omega (arith, at.number_is) in
    position_or_len_is test es at.place e (omega (arith, at.inside))
    (λ j l. false_from_ne_true (test (get_or es j e)) (λ t. once_apart es j at.place e once l at.inside (only (get_or es j e) (in_at es j e (get_or es j e) (omega (arith, l, at.inside)) refl) t ∙ sym (at.is e))))
    (λ l. ap test (at.is e) ∙ passes)
    ∙ number

-- ---- pieces

module _ (x : Extract) where
  forward_once : Once (forward_pieces x)
  forward_once = once_filter (λ p. p.forward) (directed_pieces x) (pieces_once x)

  pub runs_forward : (p : DirectedPiece) → IsIn (forward_pieces x) p → p.forward ≡ true
  runs_forward p h = (of_filter (λ q. q.forward) (directed_pieces x) p h).1

  -- two pieces that run forward aren't each other's reverse
  not_reversed : (p q : DirectedPiece) → p.forward ≡ true → q.forward ≡ true → q ≡ reverse_of p → ⊥
  not_reversed p q h k same = both_ways (not p.forward) (ap not h) (ap (λ r. r.forward) (sym same) ∙ k)

  pub place_forward : (k : ℕ) (p : DirectedPiece) → IsIn (enumerate_from 0 (forward_pieces x)) (k, p) → p.forward ≡ true → piece_place x p ≡ k
  place_forward k p h f =
      only_place (is_of_piece p) (forward_pieces x) k p forward_once
      (λ q there t. elim (or_cases (is_same q p) (is_same q (reverse_of p)) t) [
        | inl same ↦ same_only q p same
        | inr back ↦ absurd (not_reversed p q f (runs_forward q there) (same_only q (reverse_of p) back))
      ])
      (or_left (is_same p p) (is_same p (reverse_of p)) (same_itself p)) h

  pub place_backward : (k : ℕ) (p : DirectedPiece) → IsIn (enumerate_from 0 (forward_pieces x)) (k, p) → p.forward ≡ true → piece_place x (reverse_of p) ≡ k
  place_backward k p h f =
      only_place (is_of_piece (reverse_of p)) (forward_pieces x) k p forward_once
      (λ q there t. elim (or_cases (is_same q (reverse_of p)) (is_same q (reverse_of (reverse_of p))) t) [
        | inl back ↦ absurd (not_reversed p q f (runs_forward q there) (same_only q (reverse_of p) back))
        | inr same ↦ same_only q (reverse_of (reverse_of p)) same ∙ turned_twice p
      ])
      (or_right (is_same p (reverse_of p)) (is_same p (reverse_of (reverse_of p))) (ap (is_same p) (turned_twice p) ∙ same_itself p)) h

  -- an edge's local index is its number among the base edges of the junction where it starts
  pub local_is : (n : ℤ) (k : ℕ) (p : DirectedPiece) → IsIn (enumerate_from 0 (base_edges x n)) (k, p) → piece_start x p ≡ n → local_index x p ≡ k
  local_is n k p h starts =
      ap (λ m. position_or_len (is_same p) (base_edges x m)) starts
      ∙ only_place (is_same p) (base_edges x n) k p (once_filter (λ q. int_eq (piece_start x q) n) (directed_pieces x) (pieces_once x)) (λ q there t. sym (same_only p q t)) (same_itself p) h
