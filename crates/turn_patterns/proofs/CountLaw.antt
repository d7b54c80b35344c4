-- The numbers of a turn restriction with via ways tell its matches, and whether a pattern is too long.
use Rattle.std.proofs.Common.{◌≡◌, ap, List, ◌∷◌, ℕ, ℤ, suc, ◌≤◌, ◌<◌, length, arith}
use Rattle.std.specs.Prelude.{◌↔◌}
use Rattle.std.specs.List.{Contains}
use Rattle.osm_model.specs.declared.extract.Extract.{Extract}
use Rattle.road_pieces.specs.declared.steps.Step.{Step}
use Rattle.road_pieces.specs.DirectedPiece.{DirectedPiece}
use Rattle.road_pieces.specs.Pieces.{IsPiece}
use Rattle.road_pieces.specs.Turns.{Written}
use Rattle.road_pieces.specs.Matches.{via_ways, TurnRule, IsMatch, IsRowPattern}
use Rattle.road_pieces.proofs.TurnPatterns.{pattern_of_turn}
use Rattle.road_walks.specs.PieceMatches.{PieceGoesOn}
use Rattle.road_walks.specs.Readings.{Joins}
use Rattle.pattern_search.specs.Words.{Includes}
use Rattle.pattern_search.specs.Members.{Members, IsRun}
use Rattle.pattern_search.specs.Most.{IsMost}
use Rattle.pattern_search.specs.ViaSets.{ViaTests, via_members}
use Rattle.pattern_search.proofs.NumberLaw.{first_most}
use Rattle.pattern_search.proofs.ViaLaw.{to_first, from_first}
use Rattle.pattern_search.proofs.ViaTables.{long_word}
use Rattle.turn_patterns.specs.Counted.{forbidding, HasPattern, MatchesTell, AreRowTests, number_behind, HasBehind, RowNumbersTell}
use Rattle.turn_patterns.specs.Found.{HasLongPattern}
use Rattle.turn_patterns.specs.RowWords.{EndsPattern, IsRowWord, SameWords}

match_forbids : (x : Extract) (row : TurnRule) (list : List Step) → IsMatch x row list → IsMatch x (forbidding row) list
match_forbids x row list m = record { first = m.first; parts = m.parts; last = m.last; is = m.is; from = m.from; via = m.via; to = m.to; leads = m.leads; turns = m.turns; changes = m.changes }

forbids_match : (x : Extract) (row : TurnRule) (list : List Step) → IsMatch x (forbidding row) list → IsMatch x row list
forbids_match x row list m = record { first = m.first; parts = m.parts; last = m.last; is = m.is; from = m.from; via = m.via; to = m.to; leads = m.leads; turns = m.turns; changes = m.changes }

pub matches_tell : MatchesTell
matches_tell x row = (
  λ matched.
      let forbidden : IsMatch x (forbidding row) matched.0 = match_forbids x row matched.0 matched.1 in
      let found : (pattern : List DirectedPiece) × Written x matched.0 pattern = pattern_of_turn x (forbidding row) matched.0 forbidden in
      (found.0, record { list = matched.0; forbidden = forbidden; written = found.1 }),
  λ found. (found.1.list, forbids_match x row found.1.list found.1.forbidden),
)

module _ (same_words : SameWords) (x : Extract) (row : TurnRule) (way : ℤ) (ways : List ℤ) (via : row.via ≡ via_ways (way ∷ ways)) (none : ℤ) (t : ViaTests DirectedPiece) (line : DirectedPiece → List DirectedPiece) (firsts : List DirectedPiece) (r : AreRowTests x row way ways none t line firsts) where
  abbrev m : Members DirectedPiece
  m = via_members t

  -- a pattern is a piece of a from way with a run behind it
  record IsFirstRun (pattern : List DirectedPiece) : Type 0 where
    first : DirectedPiece
    rest : List DirectedPiece
    is : pattern ≡ first ∷ rest
    begins : Includes firsts first
    run : IsRun m 0 first rest

  to_run : (pattern : List DirectedPiece) → IsRowPattern x row pattern → IsFirstRun pattern
  to_run pattern is =
      let w : IsRowWord x row.only row way ways pattern = (same_words x row way ways via pattern).0 is in
      record {
        first = w.first;
        rest = w.second ∷ w.rest;
        is = w.is;
        begins = (r.begin w.first).1 (w.exists, w.from);
        run = from_first (Joins x) PieceGoesOn (EndsPattern x row.only row.to) (λ p. p.way) (way ∷ ways) none m r.tests w.first w.second w.rest (omega arith) w.joins w.same_way w.completes;
      }

  from_run : (p : DirectedPiece) (w : List DirectedPiece) → Includes firsts p → IsRun m 0 p w → IsRowPattern x row (p ∷ w)
  from_run p w there run =
      let read = to_first (Joins x) PieceGoesOn (EndsPattern x row.only row.to) (λ q. q.way) (way ∷ ways) none m r.tests p w (omega arith) run in
      let first : IsPiece x p × Contains row.from p.way = (r.begin p).0 there in
      (same_words x row way ways via (p ∷ w)).1 (record {
        first = p;
        second = read.0;
        rest = read.1.0;
        is = ap (λ l. p ∷ l) read.1.1.0;
        exists = first.0;
        from = first.1;
        joins = read.1.1.1;
        same_way = read.1.1.2;
        completes = read.1.1.3;
      })

  most : (p : DirectedPiece) → IsMost 34 (IsRun m 0 p) (number_behind t line p)
  most p = first_most (Joins x) PieceGoesOn (EndsPattern x row.only row.to) (λ q. q.way) (way ∷ ways) none t r.tests line r.lines 34 (omega arith) (omega (arith, r.tests.count)) p

  behind_first : (n : ℕ) → 0 < n → n < 34 → (p : DirectedPiece) → (n ≤ number_behind t line p) ↔ ((w : List DirectedPiece) × (IsRun m 0 p w × (n ≤ length w)))
  behind_first n more low p = long_word 34 (IsRun m 0 p) (number_behind t line p) n more low (most p)

  pub numbers : (HasPattern x row ↔ HasBehind t line firsts 1) × (HasLongPattern x row ↔ HasBehind t line firsts 33)
  numbers = ((to_some, from_some), (to_long, from_long))
    where
      to_some : HasPattern x row → HasBehind t line firsts 1
      to_some (pattern, is) =
          let found : IsFirstRun pattern = to_run pattern is in
          let long : 0 < length found.rest = (most found.first).long found.rest found.run in
          (found.first, (found.begins, (behind_first 1 (omega arith) (omega arith) found.first).1 (found.rest, (found.run, omega (arith, long)))))

      from_some : HasBehind t line firsts 1 → HasPattern x row
      from_some (p, (there, high)) =
          let found : (w : List DirectedPiece) × (IsRun m 0 p w × (1 ≤ length w)) = (behind_first 1 (omega arith) (omega arith) p).0 high in
          (p ∷ found.0, from_run p found.0 there found.1.0)

      to_long : HasLongPattern x row → HasBehind t line firsts 33
      to_long (pattern, (is, long)) =
          let found : IsFirstRun pattern = to_run pattern is in
          let size : length pattern ≡ suc (length found.rest) = ap length found.is in
          (found.first, (found.begins, (behind_first 33 (omega arith) (omega arith) found.first).1 (found.rest, (found.run, omega (arith, long, size)))))

      from_long : HasBehind t line firsts 33 → HasLongPattern x row
      from_long (p, (there, high)) =
          let found : (w : List DirectedPiece) × (IsRun m 0 p w × (33 ≤ length w)) = (behind_first 33 (omega arith) (omega arith) p).0 high in
          (p ∷ found.0, (from_run p found.0 there found.1.0, omega (arith, found.1.1)))

pub row_numbers : SameWords → RowNumbersTell
row_numbers same_words x row way ways via none t line firsts r = numbers same_words x row way ways via none t line firsts r
