-- The first cause of each rank of an object.
use Rattle.std.proofs.Common.{◌≡◌, ◌≢◌, ◌⊎◌, inl, inr, ℕ, zero, suc, ◌+◌, ◌<◌, ◌≤◌, ℤ, List, [], ◌∷◌, ◌++◌, length, Option, Some, None, Result, Ok, Err, refl, sym, ap, ◌∙◌, subst, arith}
use Rattle.std.specs.Prelude.{slice_get}
use Rattle.std.specs.List.{AllByRecursion}
use Rattle.osm_messages.specs.declared.kind.ObjectKind.{ObjectKind}
use Rattle.osm_messages.specs.declared.kind.ObjectKind.TheVariants as kinds
use Rattle.osm_objects.specs.declared.fault.ObjectFault.{ObjectFault}
use Rattle.osm_objects.specs.declared.fault.ObjectFault.TheVariants as faults
use Rattle.osm_objects.specs.declared.scale.Scale.{Scale}
use Rattle.osm_objects.specs.Means.{HeldNumbers}
use Rattle.osm_objects.specs.Causes.{ObjectCause, Lacks, IsOdd, IsPast, NoText, NoPlace, rank_of, IsUpTo, fault_of, IsNeeded, IsUneven, IsBadNumber, NamedText, index_of, IsBadName, AreNames, HasBadName, IsMisplaced, IsCauseIn}
use Rattle.osm_objects.proofs.LawNames.{NoneBad, FirstBad}
use Rattle.osm_objects.proofs.LawRanks.{FirstFrom, at_part, not_before, none_at}

module _ (table : List (List ℕ)) (scale : Scale) (kind : ObjectKind) (held : HeldNumbers) (at : ℕ) where
  abbrev pub In : ObjectCause → Type 0
  In cause = IsCauseIn table scale kind held cause

  -- ---- fields

  pub lacks_first : (f : ObjectFault) (number : ℕ) → f ≡ faults.MissingField at number → IsNeeded kind number → held number ≡ [] → ((n : ℕ) → IsNeeded kind n → held n ≡ [] → number ≤ n) → FirstFrom In at (0, 0) f
  lacks_first f number is needed none least = record { cause = Lacks number; stands = (needed, none); fault_is = is; first = first }
    where
      first : (other : ObjectCause) → In other → IsUpTo (0, 0) (rank_of other) → IsUpTo (0, number) (rank_of other)
      first (Lacks n) stands from = inr (refl, least n stands.0 stands.1)
      first IsOdd stands from = inl (omega arith)
      first IsPast stands from = inl (omega arith)
      first (NoText place index) stands from = inl (omega arith)
      first (NoPlace place id) stands from = inl (omega arith)

  pub over_lacks : ((n : ℕ) → IsNeeded kind n → held n ≡ [] → ⊥) → (cause : ObjectCause) → In cause → IsUpTo (0, 0) (rank_of cause) → IsUpTo (1, 0) (rank_of cause)
  over_lacks none (Lacks n) stands from = absurd (none n stands.0 stands.1)
  over_lacks none IsOdd stands from = inr (refl, omega arith)
  over_lacks none IsPast stands from = inl (omega arith)
  over_lacks none (NoText place index) stands from = inl (omega arith)
  over_lacks none (NoPlace place id) stands from = inl (omega arith)

  -- ---- lists that belong together

  pub odd_first : (f : ObjectFault) → f ≡ faults.Uneven at → IsUneven kind held → FirstFrom In at (1, 0) f
  odd_first f is uneven = record { cause = IsOdd; stands = uneven; fault_is = is; first = λ other stands from. from }

  pub over_odd : (IsUneven kind held → ⊥) → (cause : ObjectCause) → In cause → IsUpTo (1, 0) (rank_of cause) → IsUpTo (2, 0) (rank_of cause)
  over_odd none (Lacks n) stands (inl h) = absurd (omega arith)
  over_odd none (Lacks n) stands (inr h) = absurd (omega (arith, h.0))
  over_odd none IsOdd stands from = absurd (none stands)
  over_odd none IsPast stands from = inr (refl, omega arith)
  over_odd none (NoText place index) stands from = inl (omega arith)
  over_odd none (NoPlace place id) stands from = inl (omega arith)

  -- ---- sums

  pub past_first : (f : ObjectFault) → f ≡ faults.BadNumber at → IsBadNumber kind held → FirstFrom In at (2, 0) f
  past_first f is bad = record { cause = IsPast; stands = bad; fault_is = is; first = λ other stands from. from }

  pub over_past : (IsBadNumber kind held → ⊥) → (cause : ObjectCause) → In cause → IsUpTo (2, 0) (rank_of cause) → IsUpTo (3, 0) (rank_of cause)
  over_past none (Lacks n) stands (inl h) = absurd (omega arith)
  over_past none (Lacks n) stands (inr h) = absurd (omega (arith, h.0))
  over_past none IsOdd stands (inl h) = absurd (omega arith)
  over_past none IsOdd stands (inr h) = absurd (omega (arith, h.0))
  over_past none IsPast stands from = absurd (none stands)
  over_past none (NoText place index) stands from = inr (refl, omega arith)
  over_past none (NoPlace place id) stands from = inl (omega arith)

  -- ---- names

  pub name_first : (f : ObjectFault) (names : List NamedText) → AreNames kind held names → ((others : List NamedText) → AreNames kind held others → others ≡ names) → FirstBad table at names f → FirstFrom In at (3, 0) f
  name_first f names are one bad = record {
    cause = NoText (length bad.before) (index_of bad.name);
    stands = record {
      names = names;
      are_names = are;
      name = bad.name;
      stands = ap (λ l. slice_get l (length bad.before)) bad.parts ∙ at_part bad.before bad.name bad.after;
      index_is = refl;
      bad = bad.bad;
    };
    fault_is = bad.fault_is;
    first = first;
  }
    where
      first : (other : ObjectCause) → In other → IsUpTo (3, 0) (rank_of other) → IsUpTo (3, length bad.before) (rank_of other)
      first (Lacks n) stands (inl h) = absurd (omega arith)
      first (Lacks n) stands (inr h) = absurd (omega (arith, h.0))
      first IsOdd stands (inl h) = absurd (omega arith)
      first IsOdd stands (inr h) = absurd (omega (arith, h.0))
      first IsPast stands (inl h) = absurd (omega arith)
      first IsPast stands (inr h) = absurd (omega (arith, h.0))
      first (NoText place index) stands from =
          inr (refl, not_before (IsBadName table) bad.before bad.after bad.name stands.name place bad.good (ap (λ l. slice_get l place) (sym (one stands.names stands.are_names ∙ bad.parts)) ∙ stands.stands) stands.bad)
      first (NoPlace place id) stands from = inl (omega arith)

  pub over_names : (names : List NamedText) → ((others : List NamedText) → AreNames kind held others → others ≡ names) → NoneBad table names → (cause : ObjectCause) → In cause → IsUpTo (3, 0) (rank_of cause) → IsUpTo (4, 0) (rank_of cause)
  over_names names one none (Lacks n) stands (inl h) = absurd (omega arith)
  over_names names one none (Lacks n) stands (inr h) = absurd (omega (arith, h.0))
  over_names names one none IsOdd stands (inl h) = absurd (omega arith)
  over_names names one none IsOdd stands (inr h) = absurd (omega (arith, h.0))
  over_names names one none IsPast stands (inl h) = absurd (omega arith)
  over_names names one none IsPast stands (inr h) = absurd (omega (arith, h.0))
  over_names names one none (NoText place index) stands from =
      absurd (none_at (IsBadName table) names stands.name place none (ap (λ l. slice_get l place) (sym (one stands.names stands.are_names)) ∙ stands.stands) stands.bad)
  over_names names one none (NoPlace place id) stands from = inr (refl, omega arith)

  -- ---- places

  pub place_first : (f : ObjectFault) (place : ℕ) (id : ℤ) → f ≡ faults.BadCoordinate id → IsMisplaced kind scale held place id → ((p : ℕ) (i : ℤ) → IsMisplaced kind scale held p i → place ≤ p) → FirstFrom In at (4, 0) f
  place_first f place id is off least = record { cause = NoPlace place id; stands = off; fault_is = is; first = first }
    where
      first : (other : ObjectCause) → In other → IsUpTo (4, 0) (rank_of other) → IsUpTo (4, place) (rank_of other)
      first (Lacks n) stands (inl h) = absurd (omega arith)
      first (Lacks n) stands (inr h) = absurd (omega (arith, h.0))
      first IsOdd stands (inl h) = absurd (omega arith)
      first IsOdd stands (inr h) = absurd (omega (arith, h.0))
      first IsPast stands (inl h) = absurd (omega arith)
      first IsPast stands (inr h) = absurd (omega (arith, h.0))
      first (NoText p index) stands (inl h) = absurd (omega arith)
      first (NoText p index) stands (inr h) = absurd (omega (arith, h.0))
      first (NoPlace p i) stands from = inr (refl, least p i stands)

  pub no_place : ((p : ℕ) (i : ℤ) → IsMisplaced kind scale held p i → ⊥) → (cause : ObjectCause) → In cause → IsUpTo (4, 0) (rank_of cause) → ⊥
  no_place none (Lacks n) stands (inl h) = omega arith
  no_place none (Lacks n) stands (inr h) = omega (arith, h.0)
  no_place none IsOdd stands (inl h) = omega arith
  no_place none IsOdd stands (inr h) = omega (arith, h.0)
  no_place none IsPast stands (inl h) = omega arith
  no_place none IsPast stands (inr h) = omega (arith, h.0)
  no_place none (NoText p index) stands (inl h) = omega arith
  no_place none (NoText p index) stands (inr h) = omega (arith, h.0)
  no_place none (NoPlace p i) stands from = none p i stands
