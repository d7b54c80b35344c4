-- What is found for a turn restriction says whether it is usable, and there is only one such thing.
use Rattle.std.proofs.Common.{◌≡◌, refl, sym, ◌∙◌, ap, subst, List, [], ◌∷◌, ℕ, zero, suc, ◌≤◌, ◌<◌, length, inl, inr, arith, Ok, Err, Bool, true, false}
use Rattle.std.specs.Prelude.{◌⊎◌, ⊤, ◌<ℤ◌}
use Rattle.std.proofs.lemmas.Int.{ints}
use Rattle.std.specs.List.{Contains, slice_index_or}
use Rattle.osm_model.specs.declared.extract.Extract.{Extract}
use Rattle.osm_restrictions.specs.declared.rows.SkipReason.{SkipReason}
use Rattle.osm_restrictions.specs.declared.rows.SkipReason.TheVariants as skips
use Rattle.road_pieces.specs.DirectedPiece.{DirectedPiece}
use Rattle.road_pieces.specs.Matches.{TurnRule, IsUsable}
use Rattle.pattern_search.specs.Words.{Includes, Rising, Before}
use Rattle.turn_patterns.specs.Found.{ComesBefore, HasRuns, HasMatch, HasLongPattern, AreShort, IsSkippedFor, FoundTells, OneFound}

pub contains : {E : Type 0} (xs : List E) (e : E) → Includes xs e → Contains xs e
contains [] e h = absurd h
contains (x ∷ xs) e (inl is) = (0, omega arith, is)
contains (x ∷ xs) e (inr h) = let found : Contains xs e = contains xs e h in (suc found.0, omega (arith, found.1), found.2)

pub includes : {E : Type 0} (xs : List E) (e : E) (k : ℕ) → k < length xs → slice_index_or xs k e ≡ e → Includes xs e
includes [] e k low is = absurd (omega (arith, low))
includes (x ∷ xs) e zero low is = inl is
includes (x ∷ xs) e (suc k) low is = inr (includes xs e k (omega (arith, low)) is)

skipped : (x : Extract) (row : TurnRule) (reason : SkipReason) → IsSkippedFor x row reason → IsUsable x row → ⊥
skipped x row skips.NoSuchWay none u = none u.roads
skipped x row skips.NoMatch h u = h.1 u.matched
skipped x row skips.TooLong (runs, matched, (pattern, (is, long))) u = let low : length pattern ≤ 33 = u.short pattern is in absurd (omega (arith, low, long))
skipped x row skips.TooManyMatches h u =
    h.3 (u.few.0, (u.few.1.0, λ pattern is. let found : Contains u.few.0 pattern = u.few.1.1 pattern is in includes u.few.0 pattern found.0 found.1 found.2))
skipped x row skips.Conditional h u = h
skipped x row skips.UnknownKind h u = h
skipped x row skips.NoModes h u = h
skipped x row skips.WrongFrom h u = h
skipped x row skips.WrongTo h u = h
skipped x row skips.BadVia h u = h

pub found_tells : FoundTells
found_tells x row (Ok list) found = found.0
found_tells x row (Err reason) found = λ u. skipped x row reason found u

abbrev Passes : Bool → Type 0
Passes true = ⊤
Passes false = ⊥

true_false : true ≡ false → ⊥
true_false is = subst Passes is tt

-- no piece comes both before and after another
pub never_both : (p q : DirectedPiece) → ComesBefore p q → ComesBefore q p → ⊥
never_both p q (inl low) (inl high) = absurd (omega (arith, ints, low, high))
never_both p q (inl low) (inr (same, high)) = let same_way : p.way <ℤ p.way = subst (λ w. p.way <ℤ w) same low in absurd (omega (arith, ints, same_way))
never_both p q (inr (same, low)) (inl high) = let same_way : q.way <ℤ q.way = subst (λ w. q.way <ℤ w) same high in absurd (omega (arith, ints, same_way))
never_both p q (inr (same, inl low)) (inr (back, inl high)) = absurd (omega (arith, low, high))
never_both p q (inr (same, inl low)) (inr (back, inr (run, high))) = absurd (omega (arith, low, run))
never_both p q (inr (same, inr (run, low))) (inr (back, inl high)) = absurd (omega (arith, run, high))
never_both p q (inr (same, inr (run, inl low))) (inr (back, inr (other, inl high))) = absurd (omega (arith, low, high))
never_both p q (inr (same, inr (run, inl low))) (inr (back, inr (other, inr (from, to, ahead, behind)))) = absurd (omega (arith, low, from))
never_both p q (inr (same, inr (run, inr (from, to, ahead, behind)))) (inr (back, inr (other, inl high))) = absurd (omega (arith, from, high))
never_both p q (inr (same, inr (run, inr (from, to, ahead, behind)))) (inr (back, inr (other, inr (from_back, to_back, ahead_back, behind_back)))) = true_false (sym ahead ∙ behind_back)

module _ {P : Type 0} (Less : P → P → Type 0) (never : (p q : P) → Less p q → Less q p → ⊥) where
  pub never_before : (v w : List P) → Before Less v w → Before Less w v → ⊥
  never_before [] [] low high = low
  never_before [] (q ∷ qs) low high = high
  never_before (p ∷ ps) [] low high = low
  never_before (p ∷ ps) (q ∷ qs) (inl low) (inl high) = never p q low high
  never_before (p ∷ ps) (q ∷ qs) (inl low) (inr (same, high)) = let once : Less p p = subst (Less p) same low in never p p once once
  never_before (p ∷ ps) (q ∷ qs) (inr (same, low)) (inl high) = let once : Less q q = subst (Less q) same high in never q q once once
  never_before (p ∷ ps) (q ∷ qs) (inr (same, low)) (inr (back, high)) = never_before ps qs low high

  -- a rising list is the only one with its elements
  pub one_rising : (es fs : List P) → Rising Less es → Rising Less fs → ((e : P) → Includes es e → Includes fs e) → ((e : P) → Includes fs e → Includes es e) → es ≡ fs
  one_rising [] [] rise others into back = refl
  one_rising [] (f ∷ fs) rise others into back = absurd (back f (inl refl))
  one_rising (e ∷ es) [] rise others into back = absurd (into e (inl refl))
  one_rising (e ∷ es) (f ∷ fs) rise others into back =
      let same : e ≡ f = first_same (into e (inl refl)) (back f (inl refl)) in
      ap (λ g. g ∷ es) same ∙ ap (λ gs. f ∷ gs) (one_rising es fs rise.1 others.1 (λ g h. elim (into g (inr h)) [
        | inl is ↦ (let once : Less e e = subst (Less e) (sym is ∙ sym same) (rise.0 g h) in absurd (never e e once once))
        | inr k ↦ k
      ]) (λ g h. elim (back g (inr h)) [
        | inl is ↦ (let once : Less f f = subst (Less f) (sym is ∙ same) (others.0 g h) in absurd (never f f once once))
        | inr k ↦ k
      ]))
    where
      first_same : (f ≡ e) ⊎ Includes fs e → (e ≡ f) ⊎ Includes es f → e ≡ f
      first_same (inl is) other = sym is
      first_same (inr h) (inl is) = is
      first_same (inr h) (inr k) = absurd (never e f (rise.0 f k) (others.0 e h))

-- why a restriction is skipped: one of four reasons, each with what stands before it
data IsDue (x : Extract) (row : TurnRule) : SkipReason → Type 0 where
  no_way : (HasRuns x row → ⊥) → IsDue x row skips.NoSuchWay
  unmatched : HasRuns x row → (HasMatch x row → ⊥) → IsDue x row skips.NoMatch
  long : HasRuns x row → HasMatch x row → HasLongPattern x row → IsDue x row skips.TooLong
  many : HasRuns x row → HasMatch x row → AreShort x row → IsDue x row skips.TooManyMatches

due : (x : Extract) (row : TurnRule) (reason : SkipReason) → IsSkippedFor x row reason → IsDue x row reason
due x row skips.NoSuchWay none = no_way none
due x row skips.NoMatch h = unmatched h.0 h.1
due x row skips.TooLong h = long h.0 h.1 h.2
due x row skips.TooManyMatches h = many h.0 h.1 h.2
due x row skips.Conditional h = absurd h
due x row skips.UnknownKind h = absurd h
due x row skips.NoModes h = absurd h
due x row skips.WrongFrom h = absurd h
due x row skips.WrongTo h = absurd h
due x row skips.BadVia h = absurd h

not_short : (x : Extract) (row : TurnRule) → HasLongPattern x row → AreShort x row → ⊥
not_short x row (pattern, (is, high)) short = let low : length pattern ≤ 33 = short pattern is in absurd (omega (arith, low, high))

same_reason : (x : Extract) (row : TurnRule) (one other : SkipReason) → IsDue x row one → IsDue x row other → one ≡ other
same_reason x row _ _ (no_way none) (no_way also) = refl
same_reason x row _ _ (no_way none) (unmatched runs no_match) = absurd (none runs)
same_reason x row _ _ (no_way none) (long runs matched pattern) = absurd (none runs)
same_reason x row _ _ (no_way none) (many runs matched short) = absurd (none runs)
same_reason x row _ _ (unmatched runs no_match) (no_way none) = absurd (none runs)
same_reason x row _ _ (unmatched runs no_match) (unmatched also no_more) = refl
same_reason x row _ _ (unmatched runs no_match) (long also matched pattern) = absurd (no_match matched)
same_reason x row _ _ (unmatched runs no_match) (many also matched short) = absurd (no_match matched)
same_reason x row _ _ (long runs matched pattern) (no_way none) = absurd (none runs)
same_reason x row _ _ (long runs matched pattern) (unmatched also no_match) = absurd (no_match matched)
same_reason x row _ _ (long runs matched pattern) (long also again another) = refl
same_reason x row _ _ (long runs matched pattern) (many also again short) = absurd (not_short x row pattern short)
same_reason x row _ _ (many runs matched short) (no_way none) = absurd (none runs)
same_reason x row _ _ (many runs matched short) (unmatched also no_match) = absurd (no_match matched)
same_reason x row _ _ (many runs matched short) (long also again pattern) = absurd (not_short x row pattern short)
same_reason x row _ _ (many runs matched short) (many also again brief) = refl

pub one_found : OneFound
one_found x row (Ok list) (Ok others) one other =
    ap (λ l. Ok l) (one_rising (Before ComesBefore) (never_before ComesBefore never_both) list others one.1.rise other.1.rise (λ e h. (other.1.tell e).1 ((one.1.tell e).0 h)) (λ e h. (one.1.tell e).1 ((other.1.tell e).0 h)))
one_found x row (Ok list) (Err reason) one other = absurd (skipped x row reason other one.0)
one_found x row (Err reason) (Ok list) one other = absurd (skipped x row reason one other.0)
one_found x row (Err reason) (Err again) one other = ap (λ r. Err r) (same_reason x row reason again (due x row reason one) (due x row again other))
