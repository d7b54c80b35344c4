-- The first cause of a fault: what a chain of steps gives, where each step decides the causes of its rank.
use Rattle.std.proofs.Common.{◌≡◌, ◌⊎◌, inl, inr, ℕ, zero, suc, ◌+◌, ◌<◌, ◌≤◌, List, [], ◌∷◌, ◌++◌, length, Option, Some, None, Result, Ok, Err, refl, sym, ap, ◌∙◌, subst, arith}
use Rattle.std.specs.Prelude.{slice_get}
use Rattle.std.specs.List.{AllByRecursion}
use Rattle.osm_objects.specs.declared.fault.ObjectFault.{ObjectFault}
use Rattle.osm_objects.specs.Steps.{◌>>=◌}
use Rattle.osm_objects.specs.Causes.{ObjectCause, rank_of, IsUpTo, fault_of}
use Rattle.osm_objects.proofs.LawParts.{ok_one, err_one, ok_not_err, both_parts, which_part}

-- of the causes from this rank on, the first that stands, and its fault
pub record FirstFrom (IsIn : ObjectCause → Type 0) (at : ℕ) (rank : ℕ × ℕ) (f : ObjectFault) : Type 0 where
  pub cause : ObjectCause
  pub stands : IsIn cause
  pub fault_is : f ≡ fault_of at cause
  pub first : (other : ObjectCause) → IsIn other → IsUpTo rank (rank_of other) → IsUpTo (rank_of cause) (rank_of other)

-- a value is given where none stands from this rank on; else the fault of the first
pub record DecidesFrom {A : Type 0} (IsIn : ObjectCause → Type 0) (at : ℕ) (rank : ℕ × ℕ) (r : Result A ObjectFault) : Type 0 where
  pub good : (x : A) → r ≡ Ok x → (cause : ObjectCause) → IsIn cause → IsUpTo rank (rank_of cause) → ⊥
  pub bad : (f : ObjectFault) → r ≡ Err f → FirstFrom IsIn at rank f

-- a step whose fault is that of the first cause
pub step_first : {A B : Type 0} (IsIn : ObjectCause → Type 0) (at : ℕ) (rank : ℕ × ℕ) (r : Result A ObjectFault) (f : A → Result B ObjectFault) → ((d : ObjectFault) → r ≡ Err d → FirstFrom IsIn at rank d)
    → ((x : A) → r ≡ Ok x → DecidesFrom IsIn at rank (f x)) → DecidesFrom IsIn at rank (r >>= f)
step_first IsIn at rank r f stops rest = record {
  good = λ y e. let p = both_parts r f y e in (rest p.0 p.1).good y p.2;
  bad = λ d e. elim (which_part r f d e) [
    | inl h ↦ stops d h
    | inr h ↦ (rest h.0 h.1).bad d h.2
  ];
}

-- nothing stands between this rank and a later one
pub step_over : {A : Type 0} (IsIn : ObjectCause → Type 0) (at : ℕ) (rank later : ℕ × ℕ) (r : Result A ObjectFault) → ((cause : ObjectCause) → IsIn cause → IsUpTo rank (rank_of cause) → IsUpTo later (rank_of cause)) → DecidesFrom IsIn at later r → DecidesFrom IsIn at rank r
step_over IsIn at rank later r over decides = record {
  good = λ x e cause stands from. decides.good x e cause stands (over cause stands from);
  bad = λ f e.
      let b = decides.bad f e in
      record { cause = b.cause; stands = b.stands; fault_is = b.fault_is; first = λ other stands from. b.first other stands (over other stands from) };
}

-- nothing stands from this rank on
pub step_end : {A : Type 0} (IsIn : ObjectCause → Type 0) (at : ℕ) (rank : ℕ × ℕ) (x : A) → ((cause : ObjectCause) → IsIn cause → IsUpTo rank (rank_of cause) → ⊥) → DecidesFrom IsIn at rank (Ok x)
step_end IsIn at rank x none = record { good = λ y e. none; bad = λ f e. absurd (ok_not_err x f e) }

-- the same for what a value is made of
pub step_value : {A B : Type 0} (IsIn : ObjectCause → Type 0) (at : ℕ) (rank : ℕ × ℕ) (r : Result A ObjectFault) (g : A → B) → DecidesFrom IsIn at rank r → DecidesFrom IsIn at rank (r >>= λ x. Ok (g x))
step_value IsIn at rank r g decides = record {
  good = λ y e. let p = both_parts r (λ x. Ok (g x)) y e in decides.good p.0 p.1;
  bad = λ f e. elim (which_part r (λ x. Ok (g x)) f e) [
    | inl h ↦ decides.bad f h
    | inr h ↦ absurd (ok_not_err (g h.0) f h.2)
  ];
}

-- one rank is the least
pub same_rank : (a b : ℕ × ℕ) → IsUpTo a b → IsUpTo b a → (a.0 ≡ b.0) × (a.1 ≡ b.1)
same_rank a b (inl h) (inl k) = (omega arith, omega arith)
same_rank a b (inl h) (inr k) = (omega (arith, k.0, k.1), omega (arith, k.0, k.1))
same_rank a b (inr h) (inl k) = (omega (arith, h.0, h.1), omega (arith, h.0, h.1))
same_rank a b (inr h) (inr k) = (h.0, omega (arith, h.1, k.1))

pub from_zero : (rank : ℕ × ℕ) → IsUpTo (0, 0) rank
from_zero (zero, b) = inr (refl, omega arith)
from_zero (suc a, b) = inl (omega arith)

-- ---- indexes of lists in parts

pub at_part : {A : Type 0} (before : List A) (x : A) (after : List A) → slice_get (before ++ x ∷ after) (length before) ≡ Some x
at_part [] x after = refl
at_part (y ∷ before) x after = at_part before x after

some_one : {A : Type 0} (x y : A) → ◌≡◌ {A = Option A} (Some x) (Some y) → x ≡ y
some_one x y e = cc

-- what holds of none of those before doesn't hold at an index below their number
pub not_before : {A : Type 0} (P : A → Type 0) (before after : List A) (x y : A) (q : ℕ) → AllByRecursion (λ (z : A). P z → ⊥) before → slice_get (before ++ x ∷ after) q ≡ Some y → P y → length before ≤ q
not_before P [] after x y q all e p = omega arith
not_before P (z ∷ before) after x y zero all e p = absurd (all.0 (subst P (sym (some_one z y e)) p))
not_before P (z ∷ before) after x y (suc q) all e p =
    let more = not_before P before after x y q all.1 e p in
    omega arith

pub none_at : {A : Type 0} (P : A → Type 0) (xs : List A) (y : A) (q : ℕ) → AllByRecursion (λ (z : A). P z → ⊥) xs → slice_get xs q ≡ Some y → P y → ⊥
none_at P [] y q all e p = nothing e
  where
    nothing : ◌≡◌ {A = Option _} None (Some y) → ⊥
    nothing h = cc
none_at P (z ∷ xs) y zero all e p = all.0 (subst P (sym (some_one z y e)) p)
none_at P (z ∷ xs) y (suc q) all e p = none_at P xs y q all.1 e p
