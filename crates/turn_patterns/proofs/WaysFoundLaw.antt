-- What is found for a turn restriction with via ways.
use Rattle.std.proofs.Common.{◌≡◌, refl, sym, ◌∙◌, List, ◌∷◌, ℕ, ℤ, suc, ◌≤◌, ◌<◌, Bool, true, false, cond, length, take, arith, Err, ltb-true, ltb-false, lt-ltb}
use Rattle.std.specs.Prelude.{◌↔◌, not, nat_lt}
use Rattle.osm_model.specs.declared.extract.Extract.{Extract}
use Rattle.osm_restrictions.specs.declared.rows.SkipReason.TheVariants as skips
use Rattle.road_pieces.specs.DirectedPiece.{DirectedPiece}
use Rattle.road_pieces.specs.Matches.{via_ways, TurnRule, IsRowPattern}
use Rattle.pattern_search.specs.Words.{Includes, Rising, Before}
use Rattle.pattern_search.specs.ViaSets.{ViaTests, via_members}
use Rattle.pattern_search.proofs.MemberLaw.{differ}
use Rattle.pattern_search.proofs.NumberLaw.{any_of, any_is}
use Rattle.turn_patterns.specs.Counted.{forbidding, HasPattern, AreRowTests, number_behind, HasBehind}
use Rattle.turn_patterns.specs.Found.{ComesBefore, HasRuns, HasMatch, HasLongPattern, AreShort, IsFound}
use Rattle.turn_patterns.specs.RowSearch.{patterns_from, IsSearchOf}
use Rattle.turn_patterns.specs.RowWords.{SameWords}
use Rattle.turn_patterns.specs.WaysFound.{AreSearchTests, has_more, unless_many, ways_found, WaysFound}
use Rattle.turn_patterns.proofs.CountLaw.{matches_tell, row_numbers}
use Rattle.turn_patterns.proofs.UnlessLaw.{unless_found}
use Rattle.turn_patterns.proofs.RowAnswerLaw.{answers, search_rises}

to_behind : (n : ℕ) (t : ViaTests DirectedPiece) (line : DirectedPiece → List DirectedPiece) (firsts : List DirectedPiece) → has_more n t line firsts ≡ true → HasBehind t line firsts (suc n)
to_behind n t line firsts h =
    let found : (p : DirectedPiece) × (Includes firsts p × (nat_lt n (number_behind t line p) ≡ true)) = any_is (λ p. nat_lt n (number_behind t line p)) firsts h in
    let low : n < number_behind t line found.0 = ltb-true n (number_behind t line found.0) found.1.1 in
    (found.0, (found.1.0, omega (arith, low)))

from_behind : (n : ℕ) (t : ViaTests DirectedPiece) (line : DirectedPiece → List DirectedPiece) (firsts : List DirectedPiece) → HasBehind t line firsts (suc n) → has_more n t line firsts ≡ true
from_behind n t line firsts (p, (there, high)) = any_of (λ q. nat_lt n (number_behind t line q)) firsts p there (lt-ltb n (number_behind t line p) (omega (arith, high)))

module _ (same_words : SameWords) (x : Extract) (row : TurnRule) (way : ℤ) (ways : List ℤ) (via : row.via ≡ via_ways (way ∷ ways)) (runs : HasRuns x row) (none : ℤ) (matching t : ViaTests DirectedPiece) (line : DirectedPiece → List DirectedPiece) (firsts : List DirectedPiece) (its_matches : AreRowTests x (forbidding row) way ways none matching line firsts) (s : AreSearchTests x row way ways none t line firsts) where
  abbrev found : List (List DirectedPiece)
  found = patterns_from (via_members t) firsts

  no_match : has_more 0 matching line firsts ≡ false → HasMatch x row → ⊥
  no_match h matched =
      let pattern : HasPattern x (forbidding row) = (matches_tell x row).0 matched in
      let behind : HasBehind matching line firsts 1 = (row_numbers same_words x (forbidding row) way ways via none matching line firsts its_matches).0.0 pattern in
      differ (sym h ∙ from_behind 0 matching line firsts behind)

  matched : has_more 0 matching line firsts ≡ true → HasMatch x row
  matched h = (matches_tell x row).1 ((row_numbers same_words x (forbidding row) way ways via none matching line firsts its_matches).0.1 (to_behind 0 matching line firsts h))

  long : has_more 32 t line firsts ≡ true → HasLongPattern x row
  long h = (row_numbers same_words x row way ways via none t line firsts s.tests).1.1 (to_behind 32 t line firsts h)

  are_short : has_more 32 t line firsts ≡ false → AreShort x row
  are_short h pattern is = by (nat_lt 33 (length pattern)) refl
    where
      by : (b : Bool) → nat_lt 33 (length pattern) ≡ b → length pattern ≤ 33
      by true k =
          let high : 33 < length pattern = ltb-true 33 (length pattern) k in
          absurd (differ (sym h ∙ from_behind 32 t line firsts ((row_numbers same_words x row way ways via none t line firsts s.tests).1.0 (pattern, (is, high)))))
      by false k = ltb-false 33 (length pattern) k

  is_search : IsSearchOf x row way ways none (via_members t) firsts
  is_search = record {
    tests = s.tests.tests;
    can = s.can;
    begin = λ p there. (s.tests.begin p).0 there;
    all_begin = λ p w exists from run. (s.tests.begin p).1 (exists, from);
  }

  tell : (pattern : List DirectedPiece) → Includes found pattern ↔ (IsRowPattern x row pattern × (length pattern ≤ 33))
  tell pattern = answers same_words x row way ways via none (via_members t) firsts is_search pattern

  found_rises : Rising (Before ComesBefore) found
  found_rises = search_rises (via_members t) firsts s.firsts_rise s.letters_rise

  unless : HasMatch x row → AreShort x row → IsFound x row (unless_many (take 257 found))
  unless its short = unless_found x row found found_rises (λ pattern. (λ there. ((tell pattern).0 there).0, λ is. (tell pattern).1 (is, short pattern is))) runs its short

  pub is_found : IsFound x row (ways_found matching t line firsts)
  is_found = by (has_more 0 matching line firsts) refl (has_more 32 t line firsts) refl
    where
      by : (a : Bool) → has_more 0 matching line firsts ≡ a → (b : Bool) → has_more 32 t line firsts ≡ b → IsFound x row (cond (not a) (Err skips.NoMatch) (cond b (Err skips.TooLong) (unless_many (take 257 found))))
      by false p b q = (runs, no_match p)
      by true p true q = (runs, matched p, long q)
      by true p false q = unless (matched p) (are_short q)

pub ways_are_found : SameWords → WaysFound
ways_are_found same_words x row way ways via runs none matching t line firsts its_matches s = is_found same_words x row way ways via runs none matching t line firsts its_matches s
