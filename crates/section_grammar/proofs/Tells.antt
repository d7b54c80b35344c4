-- Readings that fail exactly where a check does, with its number and its place.
use Rattle.std.proofs.Common.{◌≡◌, ℕ, ◌+◌, ◌-◌, ◌<◌, ◌≤◌, Bool, true, false, cond, eqb, List, [], ◌∷◌, ◌++◌, length, take, drop, Result, Ok, Err, refl, sym, ap, subst, ◌∙◌, ◌⊎◌, inl, inr, arith}
use Rattle.std.specs.List.{flat_map}
use Rattle.std.proofs.lemmas.Bool.{eqb-false, eq-eqb, ne_eqb, eqb-true}
use Rattle.std.proofs.lemmas.List.{length-append, length-take, length-drop}
use Rattle.section_grammar.specs.WordBytes.{IsByteList}
use Rattle.section_grammar.specs.Reads.{◌>>=◌, read_many, read_all, AllGood}
use Rattle.section_grammar.specs.Answers.{FailedCheck, Check, place_of, ended}
use Rattle.section_grammar.specs.Sections.{IsReader}
use Rattle.section_grammar.specs.FirstFailing.{IsFewerThan, HasMore, NoneBegins, ItemFails, IsOverfull, FailsFrom}
use Rattle.section_grammar.proofs.ByteLists.{IsByteList-rest}
use Rattle.section_grammar.proofs.Failing.{OnlyFails, says, many_fails, many_fails_again, all_fails, all_fails_again}
use Rattle.section_grammar.proofs.Sections.{section_of}

-- what was read fails exactly where the check of this number fails
pub record Tells {A : Type 0} (number : ℕ) (fails : ℕ → Type 0) (r : Result A FailedCheck) : Type 0 where
  pub told : (d : FailedCheck) → r ≡ Err d → (at : ℕ) × fails at × (d ≡ Check number at)
  pub so : (at : ℕ) → fails at → r ≡ Err (Check number at)

-- nothing fails where something was read
pub none_at_ok : {A : Type 0} (number : ℕ) (fails : ℕ → Type 0) (r : Result A FailedCheck) (x : A) → Tells number fails r → r ≡ Ok x → (at : ℕ) → fails at → ⊥
none_at_ok number fails r x tells e at f = (let clash : Err (Check number at) ≡ Ok x = sym (tells.so at f) ∙ e in cc)

err_is : {A : Type 0} (d d' : FailedCheck) → ◌≡◌ {A = Result A FailedCheck} (Err d) (Err d') → d ≡ d'
err_is d d' e = cc

pub place_is : (number at place : ℕ) → Check number at ≡ Check number place → at ≡ place
place_is number at place e = cc

-- ---- steps

-- a step that fails at its own place, and one behind it that fails only where the first doesn't
pub tells_either : {A B : Type 0} (number : ℕ) (one two : ℕ → Type 0) (r : Result A FailedCheck) (f : A → Result B FailedCheck) → Tells number one r → ((x : A) → r ≡ Ok x → Tells number two (f x))
    → ((at : ℕ) → two at → (x : A) × (r ≡ Ok x)) → Tells number (λ at. one at ⊎ two at) (r >>= f)
tells_either {A = A} {B = B} number one two r f first second reached = record {
  told = λ d e.
      (elim r as (λ s. r ≡ s → (s >>= f) ≡ Err d → (at : ℕ) × (one at ⊎ two at) × (d ≡ Check number at)) [
        | Ok x ↦ λ h k. (let t = (second x h).told d k in (t.0, inr t.1, t.2))
        | Err d' ↦ λ h k. (let same : d' ≡ d = err_is {A = B} d' d k in let t = first.told d' h in (t.0, inl t.1, sym same ∙ t.2))
      ]) refl e;
  so = λ at h. elim h [
    | inl a ↦ ap (λ s. s >>= f) (first.so at a)
    | inr b ↦ (let x = reached at b in ap (λ s. s >>= f) x.1 ∙ (second x.0 x.1).so at b)
  ];
}

-- a test that fails at one place
abbrev pub passed : Bool → FailedCheck → Result (Unit {0}) FailedCheck
passed b d = cond b (Ok tt) (Err d)

pub tells_test : (number place : ℕ) (passes : Bool) → Tells number (λ at. (passes ≡ false) × (at ≡ place)) (passed passes (Check number place))
tells_test number place true = record { told = λ d e. absurd cc; so = λ at h. absurd cc }
tells_test number place false = record { told = λ d e. (place, (refl, refl), sym (err_is {A = Unit {0}} (Check number place) d e)); so = λ at h. ap (λ n. Err (Check number n)) (sym h.1) }

-- the same of another test and another value
pub tells_as : {A : Type 0} (number : ℕ) (one two : ℕ → Type 0) (r : Result A FailedCheck) → ((at : ℕ) → one at → two at) → ((at : ℕ) → two at → one at) → Tells number one r → Tells number two r
tells_as number one two r there back tells = record {
  told = λ d e. (let t = tells.told d e in (t.0, there t.0 t.1, t.2));
  so = λ at h. tells.so at (back at h);
}

pub tells_bind : {A B : Type 0} (number : ℕ) (fails : ℕ → Type 0) (r : Result A FailedCheck) (f : A → B) → Tells number fails r → Tells number fails (r >>= λ x. Ok (f x))
tells_bind {B = B} number fails r f tells = record {
  told = λ d e.
      (elim r as (λ s. r ≡ s → (s >>= λ x. Ok (f x)) ≡ Err d → (at : ℕ) × fails at × (d ≡ Check number at)) [
        | Ok x ↦ λ h k. absurd cc
        | Err d' ↦ λ h k. tells.told d (h ∙ ap (λ x. Err x) (err_is {A = B} d' d k))
      ]) refl e;
  so = λ at h. ap (λ s. s >>= λ x. Ok (f x)) (tells.so at h);
}

-- a test that fails at one place, before a step
pub tells_guarded : {A : Type 0} (number place : ℕ) (b : Bool) (r : Result A FailedCheck) (whole left : ℕ → Type 0) → (b ≡ true → whole place) → (b ≡ true → (at : ℕ) → whole at → at ≡ place)
    → (b ≡ false → (at : ℕ) → whole at → left at) → (b ≡ false → (at : ℕ) → left at → whole at) → (b ≡ false → Tells number left r) → Tells number whole (cond b (Err (Check number place)) r)
tells_guarded {A = A} number place true r whole left fails_so only there back tells = record {
  told = λ d e. (place, fails_so refl, sym (err_is {A = A} (Check number place) d e));
  so = λ at h. ap (λ n. Err (Check number n)) (sym (only refl at h));
}
tells_guarded number place false r whole left fails_so only there back tells = tells_as number left whole r (back refl) (there refl) (tells refl)

pub tells_allowed : {A : Type 0} (number place : ℕ) (b : Bool) (r : Result A FailedCheck) (whole left : ℕ → Type 0) → (b ≡ false → whole place) → (b ≡ false → (at : ℕ) → whole at → at ≡ place)
    → (b ≡ true → (at : ℕ) → whole at → left at) → (b ≡ true → (at : ℕ) → left at → whole at) → (b ≡ true → Tells number left r) → Tells number whole (cond b r (Err (Check number place)))
tells_allowed {A = A} number place false r whole left fails_so only there back tells = record {
  told = λ d e. (place, fails_so refl, sym (err_is {A = A} (Check number place) d e));
  so = λ at h. ap (λ n. Err (Check number n)) (sym (only refl at h));
}
tells_allowed number place true r whole left fails_so only there back tells = tells_as number left whole r (back refl) (there refl) (tells refl)

-- a reading whose places are said from the end of its section
pub tells_within : {A : Type 0} (number end : ℕ) (section : List ℕ) (fails : ℕ → Type 0) (r : Result A FailedCheck) → length section ≤ end → ((at : ℕ) → fails at → at ≤ length section)
    → ((d : FailedCheck) → r ≡ Err d → (at : ℕ) × fails at × (d ≡ Check number (end - (length section - at)))) → ((at : ℕ) → fails at → r ≡ Err (Check number (end - (length section - at))))
    → Tells number (FailsFrom (place_of end section) fails) r
tells_within number end section fails r le within told first = record {
  told = λ d e.
      (let t = told d e in
      let inside = within t.0 t.1 in
      (place_of end section + t.0, record { offset = t.0; fails_so = t.1; here = refl }, t.2 ∙ ap (λ n. Check number n) (from_end end (length section) t.0 inside le)));
  so = λ at f.
      (let inside = within f.offset f.fails_so in
      first f.offset f.fails_so ∙ ap (λ n. Err (Check number n)) (from_end end (length section) f.offset inside le ∙ sym f.here));
}
  where
    from_end : (end all at : ℕ) → at ≤ all → all ≤ end → end - (all - at) ≡ end - all + at
    from_end end all at inside le = omega (arith, inside, le)

-- the part of a file up to where it is cut: where it begins, and that it lies in the file
pub cut_place : (end k : ℕ) (rest : List ℕ) → length rest ≤ end → (place_of (place_of end (drop k rest)) (take k rest) ≡ place_of end rest) × (length (take k rest) ≤ place_of end (drop k rest))
cut_place end k rest le = (omega (arith, length-take k rest, length-drop k rest, le), omega (arith, length-take k rest, length-drop k rest, le))

-- ---- items

-- an item that is read by a reader, and where there is none fails at its own first byte
module _ {A : Type 0} (item : List A → List ℕ → Result (A × List ℕ) FailedCheck) (spell : A → List ℕ) (good : List A → A → Type 0) (reader : IsReader item spell good) (number end : ℕ)
    (one : (before : List A) (rest : List ℕ) → OnlyFails (Check number (place_of end rest)) (item before rest)) where
  pub none_tells : (before : List A) (rest : List ℕ) → IsByteList rest → Tells number (FailsFrom (place_of end rest) (NoneBegins spell good before rest)) (item before rest)
  none_tells before rest fits = record {
    told = λ d e.
        let none : (x : A) (after : List ℕ) → good before x → rest ≡ spell x ++ after → ⊥ = λ x after is same.
        (let clash : ◌≡◌ {A = Result (A × List ℕ) FailedCheck} (Err d) (Ok (x, after)) = sym e ∙ ap (item before) same ∙ reader.again before x after is in cc) in
        (place_of end rest, record { offset = 0; fails_so = record { first = refl; none = none }; here = omega arith }, says (Check number (place_of end rest)) d (item before rest) (one before rest) e);
    so = λ at f.
        (elim (item before rest) as (λ r. item before rest ≡ r → r ≡ Err (Check number at)) [
          | Ok x ↦ λ h. (let t = reader.takes before rest x.0 x.1 fits h in absurd (f.fails_so.none x.0 x.1 t.0 t.1))
          | Err d ↦ λ h.
              (let place : place_of end rest ≡ at = omega (arith, f.here, f.fails_so.first) in
              ap (λ x. Err x) (says (Check number (place_of end rest)) d (item before rest) (one before rest) h ∙ ap (λ n. Check number n) place))
        ]) refl;
  }

-- sections of items, each of which fails at an offset of what is left
module _ {A : Type 0} (item : List A → List ℕ → Result (A × List ℕ) FailedCheck) (spell : A → List ℕ) (good : List A → A → Type 0) (reader : IsReader item spell good) (number end : ℕ)
    (fails : List A → List ℕ → ℕ → Type 0)
    (item_tells : (before : List A) (rest : List ℕ) → IsByteList rest → length rest ≤ end → Tells number (FailsFrom (place_of end rest) (fails before rest)) (item before rest)) where
  placed : (front left section : List ℕ) (from at offset : ℕ) → section ≡ front ++ left → length section ≤ end → at ≡ place_of end left + offset → at ≡ place_of end section + (length front + offset)
  placed front left section from at offset e le h = omega (arith, ap length e, length-append front left, le, h)

  fewer : (front left section : List ℕ) → section ≡ front ++ left → length section ≤ end → length left ≤ end
  fewer front left section e le = omega (arith, ap length e, length-append front left, le)

  pub many_tells : (n : ℕ) (rest : List ℕ) → IsByteList rest → length rest ≤ end → Tells number (FailsFrom (place_of end rest) (ItemFails spell good (IsFewerThan n) fails rest)) (read_many item n [] rest)
  many_tells n rest fits le = record {
    told = λ d e.
        let f = many_fails item spell good reader n [] rest d fits e in
        let front = flat_map spell f.0.new in
        let fits_left = IsByteList-rest rest front f.0.left fits f.0.spelled_so in
        let t = (item_tells f.0.new f.0.left fits_left (fewer front f.0.left rest f.0.spelled_so le)).told d f.0.fails in (
          t.0,
          record {
            offset = length front + t.1.offset;
            fails_so = record { front = f.0.new; left = f.0.left; each_good = f.0.each_good; spelled = f.0.spelled_so; goes_on = f.1; offset = t.1.offset; fails_so = t.1.fails_so; here = refl };
            here = placed front f.0.left rest 0 t.0 t.1.offset f.0.spelled_so le t.1.here;
          },
          t.2,
        );
    so = λ at g.
        let f = g.fails_so in
        let front = flat_map spell f.front in
        let fits_left = IsByteList-rest rest front f.left fits f.spelled in
        let there : at ≡ place_of end f.left + f.offset = omega (arith, ap length f.spelled, length-append front f.left, le, f.here, g.here) in
        let e = (item_tells f.front f.left fits_left (fewer front f.left rest f.spelled le)).so at (record { offset = f.offset; fails_so = f.fails_so; here = there }) in
        ap (read_many item n []) f.spelled ∙ many_fails_again item spell good reader f.front n [] f.left (Check number at) f.each_good f.goes_on e;
  }

  pub all_tells : ((before : List A) (x : A) → good before x → 0 < length (spell x)) → (rest : List ℕ) → IsByteList rest → length rest ≤ end
      → Tells number (FailsFrom (place_of end rest) (ItemFails spell good HasMore fails rest)) (read_all item (length rest) [] rest)
  all_tells some rest fits le = record {
    told = λ d e.
        let f = all_fails item spell good reader some (length rest) [] rest d fits (omega arith) e in
        let front = flat_map spell f.0.new in
        let fits_left = IsByteList-rest rest front f.0.left fits f.0.spelled_so in
        let t = (item_tells f.0.new f.0.left fits_left (fewer front f.0.left rest f.0.spelled_so le)).told d f.0.fails in (
          t.0,
          record {
            offset = length front + t.1.offset;
            fails_so = record { front = f.0.new; left = f.0.left; each_good = f.0.each_good; spelled = f.0.spelled_so; goes_on = f.1; offset = t.1.offset; fails_so = t.1.fails_so; here = refl };
            here = placed front f.0.left rest 0 t.0 t.1.offset f.0.spelled_so le t.1.here;
          },
          t.2,
        );
    so = λ at g.
        let f = g.fails_so in
        let front = flat_map spell f.front in
        let fits_left = IsByteList-rest rest front f.left fits f.spelled in
        let there : at ≡ place_of end f.left + f.offset = omega (arith, ap length f.spelled, length-append front f.left, le, f.here, g.here) in
        let e = (item_tells f.front f.left fits_left (fewer front f.left rest f.spelled le)).so at (record { offset = f.offset; fails_so = f.fails_so; here = there }) in
        let enough : length (front ++ f.left) ≤ length rest = omega (arith, ap length f.spelled) in
        ap (read_all item (length rest) []) f.spelled ∙ all_fails_again item spell good reader some (length rest) f.front [] f.left (Check number at) f.each_good f.goes_on enough e;
  }

  -- so many items that fill the section
  pub filled_tells : (n : ℕ) (rest : List ℕ) → IsByteList rest → length rest ≤ end
      → Tells number (λ at. FailsFrom (place_of end rest) (ItemFails spell good (IsFewerThan n) fails rest) at ⊎ FailsFrom (place_of end rest) (IsOverfull spell good n rest) at) (read_many item n [] rest >>= λ x. ended number end x.0 x.1)
  filled_tells n rest fits le =
      let section = section_of item spell good reader in
      tells_either number (FailsFrom (place_of end rest) (ItemFails spell good (IsFewerThan n) fails rest)) (FailsFrom (place_of end rest) (IsOverfull spell good n rest)) (read_many item n [] rest) (λ x. ended number end x.0 x.1)
      (many_tells n rest fits le)
      (λ x e. record {
        told = λ d k.
            let f = section.found n rest x.0 x.1 fits e in
            (elim (eqb (length x.1) 0) as (λ b. eqb (length x.1) 0 ≡ b → cond b (Ok x.0) (Err (Check number (place_of end x.1))) ≡ Err d → (at : ℕ) × FailsFrom (place_of end rest) (IsOverfull spell good n rest) at × (d ≡ Check number at)) [
              | true ↦ λ t m. absurd cc
              | false ↦ λ t m.
                  (let some = eqb-false _ _ t in (
                    place_of end x.1,
                    record {
                      offset = length (flat_map spell x.0);
                      fails_so = record { front = x.0; left = x.1; each_good = f.0; spelled = f.1; all = f.2; some = omega (arith, some); here = refl };
                      here = omega (arith, ap length f.1, length-append (flat_map spell x.0) x.1, le);
                    },
                    sym (err_is {A = List A} (Check number (place_of end x.1)) d m),
                  ))
            ]) refl k;
        so = λ at g.
            let f = g.fails_so in
            let again : read_many item n [] rest ≡ Ok (f.front, f.left) = ap (λ k. read_many item k [] rest) (sym f.all) ∙ ap (read_many item (length f.front) []) f.spelled ∙ section.spelled f.front f.left f.each_good in
            let same : ◌≡◌ {A = Result (List A × List ℕ) FailedCheck} (Ok x) (Ok (f.front, f.left)) = sym e ∙ again in
            let pair : x ≡ (f.front, f.left) = cc in
            let place : place_of end f.left ≡ at = omega (arith, ap length f.spelled, length-append (flat_map spell f.front) f.left, le, f.here, g.here) in
            let at_left : ended number end f.front f.left ≡ Err (Check number (place_of end f.left)) = ap (λ b. cond b (Ok f.front) (Err (Check number (place_of end f.left)))) (ne_eqb (length f.left) 0 (λ z. omega (arith, z, f.some))) in
            ap (λ (p : List A × List ℕ). ended number end p.0 p.1) pair ∙ at_left ∙ ap (λ k. Err (Check number k)) place;
      })
      (λ at g.
      let f = g.fails_so in
      ((f.front, f.left), ap (λ k. read_many item k [] rest) (sym f.all) ∙ ap (read_many item (length f.front) []) f.spelled ∙ section.spelled f.front f.left f.each_good))
