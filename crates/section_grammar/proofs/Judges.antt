-- A reading that answers the first of several checks that fails.
use Rattle.std.proofs.Common.{◌≡◌, ℕ, suc, ◌<◌, ◌≤◌, Bool, true, false, cond, Result, Ok, Err, refl, sym, ap, subst, ◌∙◌, inl, inr, arith}
use Rattle.std.proofs.lemmas.Bool.{cases_lt}
use Rattle.section_grammar.specs.Reads.{◌>>=◌}
use Rattle.section_grammar.specs.Answers.{FailedCheck, Check}
use Rattle.section_grammar.specs.FirstFailing.{IsFirstToFail}
use Rattle.section_grammar.proofs.Tells.{Tells, none_at_ok, place_is, passed}

-- of the checks whose numbers are from one on and below another: which of them the failure is of
pub record FirstOf {C : Type 0} (number : C → ℕ) (fails : C → ℕ → Type 0) (from to : ℕ) (d : FailedCheck) : Type 0 where
  pub check : C
  pub at : ℕ
  pub not_below : from ≤ number check
  pub below : number check < to
  pub it_fails : fails check at
  pub none_before : (other : C) (place : ℕ) → from ≤ number other → number other < number check → fails other place → ⊥
  pub no_place : (place : ℕ) → place < at → fails check place → ⊥
  pub said : d ≡ Check (number check) at

-- what is read passes these checks, and a failure is that of the first of them
pub record Judges {C : Type 0} (number : C → ℕ) (fails : C → ℕ → Type 0) (from to : ℕ) {A : Type 0} (r : Result A FailedCheck) : Type 0 where
  pub passes : (x : A) → r ≡ Ok x → (check : C) (at : ℕ) → from ≤ number check → number check < to → fails check at → ⊥
  pub first : (d : FailedCheck) → r ≡ Err d → FirstOf number fails from to d

err_is : {A : Type 0} (d d' : FailedCheck) → ◌≡◌ {A = Result A FailedCheck} (Err d) (Err d') → d ≡ d'
err_is d d' e = cc

module _ {C : Type 0} (number : C → ℕ) (fails : C → ℕ → Type 0) where
  -- nothing more to check
  pub judges_none : {A : Type 0} (n : ℕ) (x : A) → Judges number fails n n {A = A} (Ok x)
  judges_none n x = record { passes = λ y e check at le lt f. omega (arith, le, lt); first = λ d e. absurd cc }

  -- one check
  pub judges_one : {A : Type 0} (check : C) (r : Result A FailedCheck) → ((other : C) → number other ≡ number check → other ≡ check) → Tells (number check) (fails check) r → Judges number fails (number check) (suc (number check)) r
  judges_one {A = A} check r one tells = record {
    passes = λ x e other at le lt f.
        let same : number other ≡ number check = omega (arith, le, lt) in
        none_at_ok (number check) (fails check) r x tells e at (subst (λ (c : C). fails c at) (one other same) f);
    first = λ d e.
        let t = tells.told d e in
        record {
          check = check;
          at = t.0;
          not_below = omega arith;
          below = omega arith;
          it_fails = t.1;
          none_before = λ other place le lt f. omega (arith, le, lt);
          no_place = λ place lt f.
              let same : Check (number check) place ≡ Check (number check) t.0 = err_is {A = A} (Check (number check) place) (Check (number check) t.0) (sym (tells.so place f) ∙ e ∙ ap (λ x. Err x) t.2) in
              omega (arith, place_is (number check) place t.0 same, lt);
          said = t.2;
        };
  }

  -- the checks of a step, and those of what follows it
  pub judges_bind : {A B : Type 0} (from mid to : ℕ) (r : Result A FailedCheck) (f : A → Result B FailedCheck) → from ≤ mid → mid ≤ to → Judges number fails from mid r → ((x : A) → r ≡ Ok x → Judges number fails mid to (f x))
      → Judges number fails from to (r >>= f)
  judges_bind {A = A} {B = B} from mid to r f le1 le2 one two = record {
    passes = λ y e.
        (elim r as (λ s. r ≡ s → (s >>= f) ≡ Ok y → (check : C) (at : ℕ) → from ≤ number check → number check < to → fails check at → ⊥) [
          | Err d ↦ λ h k. absurd cc
          | Ok x ↦ λ h k check at le lt g. elim (cases_lt (number check) mid) [
            | inl low ↦ one.passes x h check at le low g
            | inr high ↦ (two x h).passes y k check at high lt g
          ]
        ]) refl e;
    first = λ d e.
        (elim r as (λ s. r ≡ s → (s >>= f) ≡ Err d → FirstOf number fails from to d) [
          | Err d' ↦ λ h k.
              (let same : d' ≡ d = err_is {A = B} d' d k in
              let t = one.first d' h in
              let low = t.below in
              record { check = t.check; at = t.at; not_below = t.not_below; below = omega (arith, low, le2); it_fails = t.it_fails; none_before = t.none_before; no_place = t.no_place; said = sym same ∙ t.said })
          | Ok x ↦ λ h k.
              (let t = (two x h).first d k in
              let high = t.not_below in
              record {
                check = t.check;
                at = t.at;
                not_below = omega (arith, high, le1);
                below = t.below;
                it_fails = t.it_fails;
                none_before = λ other place le lt g. elim (cases_lt (number other) mid) [
                  | inl low ↦ one.passes x h other place le low g
                  | inr up ↦ t.none_before other place up lt g
                ];
                no_place = t.no_place;
                said = t.said;
              })
        ]) refl e;
  }

  -- what is made of what was read
  pub judges_made : {A B : Type 0} (from to : ℕ) (r : Result A FailedCheck) (f : A → B) → from ≤ to → Judges number fails from to r → Judges number fails from to (r >>= λ x. Ok (f x))
  judges_made from to r f le one = judges_bind from to to r (λ x. Ok (f x)) le (omega arith) one (λ x e. judges_none to (f x))

  -- a test that fails at one place
  pub judges_test : {A : Type 0} (check : C) (place to : ℕ) (pass : Bool) (rest : Result A FailedCheck) → ((other : C) → number other ≡ number check → other ≡ check) → number check < to
      → Tells (number check) (fails check) (passed pass (Check (number check) place)) → Judges number fails (suc (number check)) to rest
      → Judges number fails (number check) to (cond pass rest (Err (Check (number check) place)))
  judges_test {A = A} check place to pass rest one lt tells more =
      let bad = Check (number check) place in
      let step : cond pass rest (Err bad) ≡ (passed pass bad >>= λ _. rest) = elim pass as (λ b. cond b rest (Err bad) ≡ (passed b bad >>= λ _. rest)) [ true ↦ refl | false ↦ refl ] in
      subst (λ (r : Result A FailedCheck). Judges number fails (number check) to r) (sym step)
      (judges_bind (number check) (suc (number check)) to (passed pass bad) (λ _. rest) (omega arith) lt (judges_one check (passed pass bad) one tells) (λ x e. more))

  -- all checks: a failure is that of the first, and the first is the failure
  pub first_is : {A : Type 0} (from to : ℕ) (r : Result A FailedCheck) → ((check : C) → (from ≤ number check) × (number check < to)) → Judges number fails from to r → (d : FailedCheck) → r ≡ Err d
      → (check : C) × (at : ℕ) × IsFirstToFail number fails check at × (d ≡ Check (number check) at)
  first_is from to r all judges d e =
      let t = judges.first d e in
      (t.check, t.at, record { fails_here = t.it_fails; no_check_before = λ other place lt f. t.none_before other place (all other).0 lt f; no_place_before = t.no_place }, t.said)

  pub first_said : {A : Type 0} (from to : ℕ) (r : Result A FailedCheck) → ((check : C) → (from ≤ number check) × (number check < to)) → ((a b : C) → number a ≡ number b → a ≡ b) → Judges number fails from to r
      → (check : C) (at : ℕ) → IsFirstToFail number fails check at → r ≡ Err (Check (number check) at)
  first_said from to r all one judges check at first =
      (elim r as (λ s. r ≡ s → s ≡ Err (Check (number check) at)) [
        | Ok x ↦ λ h. absurd (judges.passes x h check at (all check).0 (all check).1 first.fails_here)
        | Err d ↦ λ h.
            (let t = first_is from to r all judges d h in
            let other = t.0 in
            let place = t.1 in
            let it = t.2 in
            let not_less : number other < number check → ⊥ = λ lt. first.no_check_before other place lt it.fails_here in
            let not_more : number check < number other → ⊥ = λ lt. it.no_check_before check at lt first.fails_here in
            let same : other ≡ check = one other check (omega (arith, not_less, not_more)) in
            let fails_there : fails check place = subst (λ (c : C). fails c place) same it.fails_here in
            let fails_at : fails other at = subst (λ (c : C). fails c at) (sym same) first.fails_here in
            let not_before : place < at → ⊥ = λ lt. first.no_place_before place lt fails_there in
            let not_behind : at < place → ⊥ = λ lt. it.no_place_before at lt fails_at in
            let places : place ≡ at = omega (arith, not_before, not_behind) in
            ap (λ x. Err x) (t.3 ∙ ap (λ (c : C). Check (number c) place) same ∙ ap (λ n. Check (number check) n) places))
      ]) refl
