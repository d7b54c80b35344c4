-- The search over the members of a turn restriction answers exactly its patterns that aren't too long, in order.
use Rattle.std.proofs.Common.{◌≡◌, refl, sym, ◌∙◌, ap, subst, List, [], ◌∷◌, ℕ, ℤ, ◌≤◌, length, inl, inr, arith}
use Rattle.std.specs.Prelude.{map}
use Rattle.std.specs.List.{Contains}
use Rattle.osm_model.specs.declared.extract.Extract.{Extract}
use Rattle.road_pieces.specs.DirectedPiece.{DirectedPiece}
use Rattle.road_pieces.specs.Matches.{via_ways, TurnRule, IsRowPattern}
use Rattle.road_walks.specs.PieceMatches.{PieceGoesOn}
use Rattle.road_pieces.specs.Pieces.{IsPiece}
use Rattle.road_walks.specs.Readings.{Joins}
use Rattle.turn_patterns.specs.RowWords.{EndsPattern, IsRowWord, SameWords}
use Rattle.turn_patterns.specs.RowSearch.{patterns_from, IsSearchOf, SearchAnswers, SearchRises}
use Rattle.turn_patterns.specs.Found.{ComesBefore}
use Rattle.pattern_search.specs.Words.{Includes, IsWord, Rising, Before, words_of}
use Rattle.pattern_search.specs.Members.{Members, IsRun, ReadState, by_sets}
use Rattle.pattern_search.proofs.Inclusion.{among_flat, among_unflat, among_map, among_unmap, rising_flat, rising_map}
use Rattle.pattern_search.proofs.WordLaw.{sound, short, complete, rises}
use Rattle.pattern_search.proofs.MemberLaw.{sets}
use Rattle.pattern_search.proofs.ViaLaw.{to_first, from_first}

module _ (same_words : SameWords) (x : Extract) (row : TurnRule) (way : ℤ) (ways : List ℤ) (via : row.via ≡ via_ways (way ∷ ways)) (none : ℤ) (m : Members DirectedPiece) (firsts : List DirectedPiece) (s : IsSearchOf x row way ways none m firsts) where
  abbrev begin : DirectedPiece → ReadState DirectedPiece
  begin p = record { letter = p; members = 0 ∷ [] }

  abbrev from_it : DirectedPiece → List (List DirectedPiece)
  from_it p = map (λ w. p ∷ w) (words_of (by_sets m) 32 (begin p))

  run_of : (p : DirectedPiece) (w : List DirectedPiece) → (i : ℕ) × (Includes (0 ∷ []) i × IsRun m i p w) → IsRun m 0 p w
  run_of p w (i, (inl is, run)) = subst (λ k. IsRun m k p w) (sym is) run
  run_of p w (i, (inr h, run)) = absurd h

  answered : (pattern : List DirectedPiece) → Includes (patterns_from m firsts) pattern → IsRowPattern x row pattern × (length pattern ≤ 33)
  answered pattern h =
      let found : (p : DirectedPiece) × (Includes firsts p × Includes (from_it p) pattern) = among_unflat from_it firsts pattern h in
      let p : DirectedPiece = found.0 in
      let word : (w : List DirectedPiece) × (Includes (words_of (by_sets m) 32 (begin p)) w × ((p ∷ w) ≡ pattern)) = among_unmap (λ w. p ∷ w) (words_of (by_sets m) 32 (begin p)) pattern found.1.1 in
      let w : List DirectedPiece = word.0 in
      let size : length w ≤ 32 = short (by_sets m) 32 (begin p) w word.1.0 in
      let run : IsRun m 0 p w = run_of p w ((sets m s.can (begin p) w).0 (sound (by_sets m) 32 (begin p) w word.1.0)) in
      let read = to_first (Joins x) PieceGoesOn (EndsPattern x row.only row.to) (λ p. p.way) (way ∷ ways) none m s.tests p w (omega arith) run in
      let first : IsPiece x p × Contains row.from p.way = s.begin p found.1.0 in
      let is : IsRowWord x row.only row way ways pattern =
      record {
        first = p;
        second = read.0;
        rest = read.1.0;
        is = sym word.1.1 ∙ ap (λ l. p ∷ l) read.1.1.0;
        exists = first.0;
        from = first.1;
        joins = read.1.1.1;
        same_way = read.1.1.2;
        completes = read.1.1.3;
      } in
      ((same_words x row way ways via pattern).1 is, subst (λ l. length l ≤ 33) word.1.1 (omega (arith, size)))

  found : (pattern : List DirectedPiece) → IsRowPattern x row pattern → length pattern ≤ 33 → Includes (patterns_from m firsts) pattern
  found pattern is size =
      let w : IsRowWord x row.only row way ways pattern = (same_words x row way ways via pattern).0 is in
      let run : IsRun m 0 w.first (w.second ∷ w.rest) =
      from_first (Joins x) PieceGoesOn (EndsPattern x row.only row.to) (λ p. p.way) (way ∷ ways) none m s.tests w.first w.second w.rest (omega arith) w.joins w.same_way w.completes in
      let word : IsWord (by_sets m) (begin w.first) (w.second ∷ w.rest) = (sets m s.can (begin w.first) (w.second ∷ w.rest)).1 (0, (inl refl, run)) in
      let length_is : length (w.first ∷ (w.second ∷ w.rest)) ≤ 33 = subst (λ l. length l ≤ 33) w.is size in
      let inside : Includes (words_of (by_sets m) 32 (begin w.first)) (w.second ∷ w.rest) = complete (by_sets m) 32 (begin w.first) (w.second ∷ w.rest) word (omega (arith, length_is)) in
      subst (Includes (patterns_from m firsts)) (sym w.is)
      (among_flat from_it firsts w.first (w.first ∷ (w.second ∷ w.rest)) (s.all_begin w.first (w.second ∷ w.rest) w.exists w.from run) (among_map (λ v. w.first ∷ v) (words_of (by_sets m) 32 (begin w.first)) (w.second ∷ w.rest) inside))

pub answers : SameWords → SearchAnswers
answers same_words x row way ways via none m firsts s pattern =
    (answered same_words x row way ways via none m firsts s pattern, λ both. found same_words x row way ways via none m firsts s pattern both.0 both.1)

module _ (m : Members DirectedPiece) where
  abbrev first_state : DirectedPiece → ReadState DirectedPiece
  first_state p = record { letter = p; members = 0 ∷ [] }

  abbrev with_first : DirectedPiece → List (List DirectedPiece)
  with_first p = map (λ w. p ∷ w) (words_of (by_sets m) 32 (first_state p))

  pub answer_rises : (Less : DirectedPiece → DirectedPiece → Type 0) (firsts : List DirectedPiece) → Rising Less firsts → ((p : DirectedPiece) → Rising Less (m.letters p)) → Rising (Before Less) (patterns_from m firsts)
  answer_rises Less firsts firsts_rise letters_rise =
      rising_flat Less (Before Less) with_first firsts firsts_rise (λ p. rising_map (Before Less) (Before Less) (λ w. p ∷ w) (words_of (by_sets m) 32 (first_state p)) (rises (by_sets m) Less (λ d. letters_rise d.letter) 32 (first_state p)) (λ v w low. inr (refl, low))) (λ p q low v w h k.
      let one = among_unmap (λ u. p ∷ u) (words_of (by_sets m) 32 (first_state p)) v h in
      let other = among_unmap (λ u. q ∷ u) (words_of (by_sets m) 32 (first_state q)) w k in
      subst (λ u. Before Less u w) one.1.1 (subst (Before Less (p ∷ one.0)) other.1.1 (inl low)))

pub search_rises : SearchRises
search_rises m firsts firsts_rise letters_rise = answer_rises m ComesBefore firsts firsts_rise letters_rise
