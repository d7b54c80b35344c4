-- The patterns of a turn restriction with via ways are the words that a search goes over.
use Rattle.std.proofs.Common.{◌≡◌, refl, sym, ◌∙◌, ap, subst, List, [], ◌∷◌, ◌++◌, ℤ, Bool, true, false, length, arith}
use Rattle.std.specs.Prelude.{◌↔◌, suc}
use Rattle.std.specs.List.{flat_map, Contains}
use Rattle.osm_model.specs.declared.extract.Extract.{Extract}
use Rattle.road_pieces.specs.DirectedPiece.{DirectedPiece}
use Rattle.road_pieces.specs.Pieces.{IsPiece, piece_start}
use Rattle.road_pieces.specs.Matches.{via_ways, TurnRule}
use Rattle.road_walks.specs.PieceMatches.{PieceGoesOn, IsPieceMatch, IsPieceOther, PieceForbidden, PiecesTell}
use Rattle.road_walks.specs.Readings.{Joins, Completes, ends, goes, begins, IsMatchReading, SameReadings}
use Rattle.turn_patterns.specs.RowWords.{EndsPattern, IsRowWord, SameWords}
use Rattle.pattern_search.specs.ViaWays.{IsRest, comes_last, comes_next, comes_first}

abbrev flat : List (List DirectedPiece) → List DirectedPiece
flat parts = flat_map (λ part. part) parts

abbrev head_or : {E : Type 0} → E → List E → E
head_or d [] = d
head_or d (e ∷ es) = e

abbrev tail_of : {E : Type 0} → List E → List E
tail_of [] = []
tail_of (e ∷ es) = es

length_push : {E : Type 0} (u : List E) (e : E) → length (u ++ e ∷ []) ≡ suc (length u)
length_push [] e = refl
length_push (f ∷ u) e = ap suc (length_push u e)

not_empty : {E : Type 0} (u : List E) (e : E) → [] ≡ u ++ e ∷ [] → ⊥
not_empty u e is = let size : 0 ≡ suc (length u) = ap length is ∙ length_push u e in absurd (omega (arith, size))

same_front : {E : Type 0} (a b : List E) (p q : E) → a ++ p ∷ [] ≡ b ++ q ∷ [] → (a ≡ b) × (p ≡ q)
same_front [] [] p q is = (refl, ap (head_or p) is)
same_front [] (y ∷ b) p q is = absurd (not_empty b q (ap tail_of is))
same_front (z ∷ a) [] p q is = absurd (not_empty a p (sym (ap tail_of is)))
same_front (z ∷ a) (y ∷ b) p q is =
    let rest : (a ≡ b) × (p ≡ q) = same_front a b p q (ap tail_of is) in
    (ap (λ l. z ∷ l) rest.0 ∙ ap (λ e. e ∷ b) (ap (head_or z) is), rest.1)

module _ (x : Extract) (tos : List ℤ) where
  abbrev Rest : Bool → List ℤ → DirectedPiece → List DirectedPiece → Type 0
  Rest only ways p w = IsRest (Joins x) PieceGoesOn (EndsPattern x only tos) (λ p. p.way) ways p w

  rest_of : (ways : List ℤ) (p : DirectedPiece) (w : List DirectedPiece) → Completes x tos ways p w → Rest false ways p w
  rest_of _ _ _ (ends p q joins to) = comes_last p q joins to
  rest_of _ _ _ (goes ways p q rest joins go after) = comes_next ways p q rest joins go (rest_of ways q rest after)
  rest_of _ _ _ (begins via ways p q rest joins of after) = comes_first via ways p q rest joins of (rest_of ways q rest after)

  completes_of : (ways : List ℤ) (p : DirectedPiece) (w : List DirectedPiece) → Rest false ways p w → Completes x tos ways p w
  completes_of _ _ _ (comes_last p q joins to) = ends p q joins to
  completes_of _ _ _ (comes_next ways p q rest joins go after) = goes ways p q rest joins go (completes_of ways q rest after)
  completes_of _ _ _ (comes_first via ways p q rest joins of after) = begins via ways p q rest joins of (completes_of ways q rest after)

  some_left : (ways : List ℤ) (p : DirectedPiece) (w : List DirectedPiece) → Completes x tos ways p w → w ≡ [] → ⊥
  some_left _ _ _ (ends p q joins to) is = let size : 1 ≡ 0 = ap length is in absurd (omega (arith, size))
  some_left _ _ _ (goes ways p q rest joins go after) is = let size : suc (length rest) ≡ 0 = ap length is in absurd (omega (arith, size))
  some_left _ _ _ (begins via ways p q rest joins of after) is = let size : suc (length rest) ≡ 0 = ap length is in absurd (omega (arith, size))

  -- the last piece of a match is of a to way
  last_to : (ways : List ℤ) (p : DirectedPiece) (w : List DirectedPiece) → Completes x tos ways p w → (u : List DirectedPiece) (last : DirectedPiece) → w ≡ u ++ last ∷ [] → Contains tos last.way
  last_to _ _ _ (ends p q joins to) [] last is = subst (λ e. Contains tos e.way) (ap (head_or q) is) to
  last_to _ _ _ (ends p q joins to) (y ∷ u) last is = absurd (not_empty u last (ap tail_of is))
  last_to _ _ _ (goes ways p q rest joins go after) [] last is = absurd (some_left ways q rest after (ap tail_of is))
  last_to _ _ _ (goes ways p q rest joins go after) (y ∷ u) last is = last_to ways q rest after u last (ap tail_of is)
  last_to _ _ _ (begins via ways p q rest joins of after) [] last is = absurd (some_left ways q rest after (ap tail_of is))
  last_to _ _ _ (begins via ways p q rest joins of after) (y ∷ u) last is = last_to ways q rest after u last (ap tail_of is)

  -- another last piece
  module _ (only : Bool) (last other : DirectedPiece) (exists : IsPiece x other) (starts : piece_start x other ≡ piece_start x last) (gives : (p : DirectedPiece) → Joins x p last → Contains tos last.way → EndsPattern x only tos p other) where
    swapped : (ways : List ℤ) (p : DirectedPiece) (w : List DirectedPiece) → Completes x tos ways p w → (u : List DirectedPiece) → w ≡ u ++ last ∷ [] → Rest only ways p (u ++ other ∷ [])
    swapped _ _ _ (ends p q joins to) [] is =
        comes_last p other (record { exists = exists; begins = starts ∙ sym (ap (piece_start x) (ap (head_or q) is)) ∙ joins.begins }) (gives p (subst (Joins x p) (ap (head_or q) is) joins) (subst (λ e. Contains tos e.way) (ap (head_or q) is) to))
    swapped _ _ _ (ends p q joins to) (y ∷ u) is = absurd (not_empty u last (ap tail_of is))
    swapped _ _ _ (goes ways p q rest joins go after) [] is = absurd (some_left ways q rest after (ap tail_of is))
    swapped _ _ _ (goes ways p q rest joins go after) (y ∷ u) is =
        subst (λ z. Rest only ways p (z ∷ (u ++ other ∷ []))) (ap (head_or q) is) (comes_next ways p q (u ++ other ∷ []) joins go (swapped ways q rest after u (ap tail_of is)))
    swapped _ _ _ (begins via ways p q rest joins of after) [] is = absurd (some_left ways q rest after (ap tail_of is))
    swapped _ _ _ (begins via ways p q rest joins of after) (y ∷ u) is =
        subst (λ z. Rest only (via ∷ ways) p (z ∷ (u ++ other ∷ []))) (ap (head_or q) is) (comes_first via ways p q (u ++ other ∷ []) joins of (swapped ways q rest after u (ap tail_of is)))

  -- what ends with another piece comes from a match
  record Split (ways : List ℤ) (p : DirectedPiece) (w : List DirectedPiece) : Type 0 where
    front : List DirectedPiece
    other : DirectedPiece
    last : DirectedPiece
    is : w ≡ front ++ other ∷ []
    unmatched : Contains tos other.way → ⊥
    exists : IsPiece x other
    starts : piece_start x other ≡ piece_start x last
    matched : Completes x tos ways p (front ++ last ∷ [])

  split : (ways : List ℤ) (p : DirectedPiece) (w : List DirectedPiece) → Rest true ways p w → Split ways p w
  split _ _ _ (comes_last p q joins forbids) = record {
    front = [];
    other = q;
    last = forbids.1.0;
    is = refl;
    unmatched = forbids.0;
    exists = joins.exists;
    starts = joins.begins ∙ sym forbids.1.1.0.begins;
    matched = ends p forbids.1.0 forbids.1.1.0 forbids.1.1.1;
  }
  split _ _ _ (comes_next ways p q rest joins go after) =
      let found : Split ways q rest = split ways q rest after in
      record {
        front = q ∷ found.front;
        other = found.other;
        last = found.last;
        is = ap (λ l. q ∷ l) found.is;
        unmatched = found.unmatched;
        exists = found.exists;
        starts = found.starts;
        matched = goes ways p q (found.front ++ found.last ∷ []) joins go found.matched;
      }
  split _ _ _ (comes_first via ways p q rest joins of after) =
      let found : Split ways q rest = split ways q rest after in
      record {
        front = q ∷ found.front;
        other = found.other;
        last = found.last;
        is = ap (λ l. q ∷ l) found.is;
        unmatched = found.unmatched;
        exists = found.exists;
        starts = found.starts;
        matched = begins via ways p q (found.front ++ found.last ∷ []) joins of found.matched;
      }

module _ (same_readings : SameReadings) (x : Extract) (row : TurnRule) (way : ℤ) (ways : List ℤ) (via : row.via ≡ via_ways (way ∷ ways)) where
  reading : (pattern : List DirectedPiece) → IsPieceMatch x row pattern → IsMatchReading x row way ways pattern
  reading pattern = (same_readings x row way ways via pattern).0

  match_of : (pattern : List DirectedPiece) → IsMatchReading x row way ways pattern → IsPieceMatch x row pattern
  match_of pattern = (same_readings x row way ways via pattern).1

  match_to_word : (pattern : List DirectedPiece) → IsPieceMatch x row pattern → IsRowWord x false row way ways pattern
  match_to_word pattern m =
      let r : IsMatchReading x row way ways pattern = reading pattern m in
      record { first = r.first; second = r.second; rest = r.rest; is = r.is; exists = r.exists; from = r.from; joins = r.joins; same_way = r.same_way; completes = rest_of x row.to ways r.second r.rest r.completes }

  word_to_match : (pattern : List DirectedPiece) → IsRowWord x false row way ways pattern → IsPieceMatch x row pattern
  word_to_match pattern w =
      match_of pattern (record { first = w.first; second = w.second; rest = w.rest; is = w.is; exists = w.exists; from = w.from; joins = w.joins; same_way = w.same_way; completes = completes_of x row.to ways w.second w.rest w.completes })

  other_to_word : (pattern : List DirectedPiece) → IsPieceOther x row pattern → IsRowWord x true row way ways pattern
  other_to_word pattern o = by (flat o.match.parts) (sym r.is ∙ o.match.is) o.is
    where
      r : IsMatchReading x row way ways o.matched
      r = reading o.matched o.match

      by : (front : List DirectedPiece) → r.first ∷ (r.second ∷ r.rest) ≡ o.match.first ∷ (front ++ o.match.last ∷ []) → pattern ≡ o.match.first ∷ (front ++ o.other ∷ []) → IsRowWord x true row way ways pattern
      by [] same is = absurd (some_left x row.to ways r.second r.rest r.completes (ap tail_of (ap tail_of same)))
      by (s ∷ front) same is =
          let rest_is : r.rest ≡ front ++ o.match.last ∷ [] = ap tail_of (ap tail_of same) in
          let second_is : r.second ≡ s = ap (head_or r.second) (ap tail_of same) in
          let first_is : r.first ≡ o.match.first = ap (head_or r.first) same in
          let no : Contains row.to o.other.way → ⊥ = λ to. o.unmatched (match_of pattern (record {
            first = r.first;
            second = r.second;
            rest = front ++ o.other ∷ [];
            is = is ∙ ap (λ f. f ∷ (s ∷ (front ++ o.other ∷ []))) (sym first_is) ∙ ap (λ e. r.first ∷ (e ∷ (front ++ o.other ∷ []))) (sym second_is);
            exists = r.exists;
            from = r.from;
            joins = r.joins;
            same_way = r.same_way;
            completes = completes_of x row.to ways r.second (front ++ o.other ∷ []) (swapped x row.to false o.match.last o.other o.exists o.begins (λ p joins before. to) ways r.second r.rest r.completes front rest_is);
          })) in
          record {
            first = r.first;
            second = r.second;
            rest = front ++ o.other ∷ [];
            is = is ∙ ap (λ f. f ∷ (s ∷ (front ++ o.other ∷ []))) (sym first_is) ∙ ap (λ e. r.first ∷ (e ∷ (front ++ o.other ∷ []))) (sym second_is);
            exists = r.exists;
            from = r.from;
            joins = r.joins;
            same_way = r.same_way;
            completes = swapped x row.to true o.match.last o.other o.exists o.begins (λ p joins before. (no, (o.match.last, (joins, before)))) ways r.second r.rest r.completes front rest_is;
          }

  word_to_other : (pattern : List DirectedPiece) → IsRowWord x true row way ways pattern → IsPieceOther x row pattern
  word_to_other pattern w =
      let found : Split x row.to ways w.second w.rest = split x row.to ways w.second w.rest w.completes in
      let matched : List DirectedPiece = w.first ∷ (w.second ∷ (found.front ++ found.last ∷ [])) in
      let match : IsPieceMatch x row matched =
      match_of matched (record { first = w.first; second = w.second; rest = found.front ++ found.last ∷ []; is = refl; exists = w.exists; from = w.from; joins = w.joins; same_way = w.same_way; completes = found.matched }) in
      let same : (w.first ∷ (w.second ∷ found.front) ≡ match.first ∷ flat match.parts) × (found.last ≡ match.last) =
      same_front (w.first ∷ (w.second ∷ found.front)) (match.first ∷ flat match.parts) found.last match.last match.is in
      record {
        matched = matched;
        match = match;
        other = found.other;
        is = w.is ∙ ap (λ l. w.first ∷ (w.second ∷ l)) found.is ∙ ap (λ l. l ++ found.other ∷ []) same.0;
        exists = found.exists;
        begins = found.starts ∙ ap (piece_start x) same.1;
        unmatched = λ m.
            let r : IsMatchReading x row way ways pattern = reading pattern m in
            found.unmatched (last_to x row.to ways r.second r.rest r.completes found.front found.other (ap tail_of (ap tail_of (sym r.is ∙ w.is)) ∙ found.is));
      }

  tell_by : (only : Bool) (pattern : List DirectedPiece) → PieceForbidden x only row pattern ↔ IsRowWord x only row way ways pattern
  tell_by true pattern = (other_to_word pattern, word_to_other pattern)
  tell_by false pattern = (match_to_word pattern, word_to_match pattern)

pub same_words : PiecesTell → SameReadings → SameWords
same_words pieces_tell readings x row way ways via pattern =
    (λ is. (tell_by readings x row way ways via row.only pattern).0 ((pieces_tell x row pattern).0 is), λ w. (pieces_tell x row pattern).1 ((tell_by readings x row way ways via row.only pattern).1 w))
