-- The patterns of a turn restriction, unless they are too many.
use Rattle.std.proofs.Common.{◌≡◌, refl, sym, ap, subst, List, [], ◌∷◌, ℕ, zero, suc, ◌≤◌, ◌<◌, Bool, true, false, cond, length, take, arith, Ok, Err, ltb-true, ltb-false}
use Rattle.std.specs.Prelude.{◌↔◌, nat_lt}
use Rattle.osm_model.specs.declared.extract.Extract.{Extract}
use Rattle.osm_restrictions.specs.declared.rows.SkipReason.TheVariants as skips
use Rattle.road_pieces.specs.DirectedPiece.{DirectedPiece}
use Rattle.road_pieces.specs.Matches.{TurnRule, IsRowPattern, IsUsable}
use Rattle.pattern_search.specs.Words.{Includes, Rising, Before}
use Rattle.pattern_search.proofs.Counting.{no_longer}
use Rattle.turn_patterns.specs.Found.{ComesBefore, HasRuns, HasMatch, AreShort, AreFew, IsFound}
use Rattle.turn_patterns.specs.WaysFound.{unless_many}
use Rattle.turn_patterns.proofs.FoundLaw.{contains, never_both, never_before}

-- a list that is cut off only past its end is whole
take_whole : {E : Type 0} (n : ℕ) (l : List E) → length (take n l) < n → take n l ≡ l
take_whole zero l h = absurd (omega (arith, h))
take_whole (suc n) [] h = refl
take_whole (suc n) (e ∷ l) h = ap (λ r. e ∷ r) (take_whole n l (omega (arith, h)))

take_few : {E : Type 0} (n : ℕ) (l : List E) → length (take n l) ≤ length l
take_few zero l = omega arith
take_few (suc n) [] = omega arith
take_few (suc n) (e ∷ l) = let rest = take_few n l in omega (arith, rest)

module _ (x : Extract) (row : TurnRule) (found : List (List DirectedPiece)) (rises : Rising (Before ComesBefore) found) (tell : (pattern : List DirectedPiece) → Includes found pattern ↔ IsRowPattern x row pattern) (runs : HasRuns x row) (matched : HasMatch x row) (short : AreShort x row) where
  many : 256 < length found → AreFew x row → ⊥
  many high (all, (few, includes)) =
      let low : length found ≤ length all = no_longer (Before ComesBefore) (λ e once. never_before ComesBefore never_both e e once once) found all rises (λ e there. includes e ((tell e).0 there)) in
      absurd (omega (arith, high, low, few))

  usable : length found ≤ 256 → IsUsable x row
  usable few = record { roads = runs; matched = matched; short = short; few = (found, (few, λ pattern is. contains found pattern ((tell pattern).1 is))) }

  pub unless_found : IsFound x row (unless_many (take 257 found))
  unless_found = by (nat_lt 256 (length (take 257 found))) refl
    where
      by : (b : Bool) → nat_lt 256 (length (take 257 found)) ≡ b → IsFound x row (cond b (Err skips.TooManyMatches) (Ok (take 257 found)))
      by true h =
          let high : 256 < length (take 257 found) = ltb-true 256 (length (take 257 found)) h in
          let low : length (take 257 found) ≤ length found = take_few 257 found in
          (runs, matched, short, many (omega (arith, high, low)))
      by false h =
          let low : length (take 257 found) ≤ 256 = ltb-false 256 (length (take 257 found)) h in
          let whole : take 257 found ≡ found = take_whole 257 found (omega (arith, low)) in
          let few : length found ≤ 256 = subst (λ l. length l ≤ 256) whole low in
          subst (λ l. IsFound x row (Ok l)) (sym whole) (usable few, record { rise = rises; tell = tell })
