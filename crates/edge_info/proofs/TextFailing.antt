-- The first text that fails.
use Rattle.std.proofs.Common.{◌≡◌, ℕ, zero, suc, ◌+◌, ◌-◌, ◌<◌, ◌≤◌, true, false, cond, eqb, ltb, ◌&&◌, not, List, [], ◌++◌, length, Result, Ok, Err, refl, sym, ap, subst, ◌∙◌, arith, inl, inr}
use Rattle.std.proofs.lemmas.Bool.{cases_lt, eq-eqb, ne_eqb, eqb-true, eqb-false, lt-ltb, le-ltb, ltb-true, ltb-false}
use Rattle.std.proofs.lemmas.List.{nil_from_length, length-append}
use Rattle.section_grammar.specs.WordBytes.{IsByteList}
use Rattle.section_grammar.specs.Reads.{◌>>=◌, read_many, AllGood}
use Rattle.section_grammar.specs.Answers.{FailedCheck, Check, place_of, ended}
use Rattle.section_grammar.proofs.ByteLists.{IsByteList-rest}
use Rattle.edge_info.specs.Texts.{text_bytes, texts_bytes, first_place, TextGood}
use Rattle.edge_info.specs.TextReading.{has_text, text_in, after_text, texts_there, any_below, out_of_order, is_new_text, bad_text, text_at, all_named, texts_at}
use Rattle.edge_info.specs.Checks.{IsInPlace, TextFails}
use Rattle.section_grammar.proofs.Failing.{OnlyFails, only_test, says, many_fails, many_fails_again}
use Rattle.edge_info.proofs.TextLaws.{InOrder, text_reader, text_section, none_below, all_above, second_of, all_good, orders, with_orders}

text_says : (end : ℕ) (names : List ℕ) (there : ℕ) (before : List (List ℕ)) (rest : List ℕ) → OnlyFails (bad_text end rest) (text_at end names there before rest)
unfolding text_at
text_says end names there before rest =
    let test = is_new_text before (text_in rest) && not (out_of_order names there (length before)) in
    only_test (bad_text end rest) (has_text rest) (cond test (Ok (text_in rest, after_text rest)) (Err (bad_text end rest))) (Err (bad_text end rest))
    (only_test (bad_text end rest) test (Ok (text_in rest, after_text rest)) (Err (bad_text end rest)) tt refl) refl

in_place_of : (names : List ℕ) (there i : ℕ) → out_of_order names there i ≡ false → IsInPlace names there i
unfolding out_of_order
in_place_of names there i e = record {
  behind = λ j lt below named.
      let none = second_of (ltb (first_place i names) (length names)) (any_below (λ j. first_place j names) (first_place i names) (suc i) (there - suc i)) (lt-ltb _ _ named) e in
      none_below (λ j. first_place j names) (first_place i names) (suc i) (there - suc i) none j (omega (arith, lt)) (omega (arith, lt, below));
}

order_of : (names : List ℕ) (there i : ℕ) → IsInPlace names there i → out_of_order names there i ≡ false
unfolding out_of_order
order_of names there i place =
    let any = any_below (λ j. first_place j names) (first_place i names) (suc i) (there - suc i) in
    (elim (ltb (first_place i names) (length names)) as (λ t. ltb (first_place i names) (length names) ≡ t → (t && any) ≡ false) [
      | true ↦ λ t. all_above (λ j. first_place j names) (first_place i names) (suc i) (there - suc i) (λ j le lt. place.behind j (omega (arith, le)) (omega (arith, le, lt)) (ltb-true _ _ t))
      | false ↦ λ t. refl
    ]) refl

places_of : (names : List ℕ) (there : ℕ) (front : List (List ℕ)) → AllGood (InOrder names there) [] front → (i : ℕ) → i < length front → IsInPlace names there i
places_of names there front h i lt = let k : 0 + i ≡ i = omega arith in in_place_of names there i (ap (out_of_order names there) (sym k) ∙ orders names there [] front h i lt)

one_unnamed : (names : List ℕ) (from n : ℕ) → all_named names from n ≡ false → (i : ℕ) × (i < from + n) × (length names ≤ first_place i names)
one_unnamed names from zero e = absurd cc
one_unnamed names from (suc n) e =
    (elim (ltb (first_place from names) (length names)) as (λ t. ltb (first_place from names) (length names) ≡ t → (t && all_named names (suc from) n) ≡ false → (i : ℕ) × (i < from + suc n) × (length names ≤ first_place i names)) [
      | true ↦ λ t k. (let more = one_unnamed names (suc from) n k in (more.0, omega (arith, more.1), more.2))
      | false ↦ λ t k. (from, omega arith, ltb-false _ _ t)
    ]) refl e

err_is : (d d' : FailedCheck) → ◌≡◌ {A = Result (List (List ℕ)) FailedCheck} (Err d) (Err d') → d ≡ d'
err_is d d' e = cc

-- where an offset is said from the end
said_at : (end : ℕ) (section front left : List ℕ) (failure : FailedCheck) → section ≡ front ++ left → failure ≡ Check 15 (end - length left) → failure ≡ Check 15 (end - (length section - length front))
said_at end section front left failure spelled e =
    let size : length left ≡ length section - length front = omega (arith, ap length spelled, length-append front left) in
    e ∙ ap (λ n. Check 15 (end - n)) size

abbrev Fault : ℕ → List ℕ → ℕ → List ℕ → FailedCheck → Type 0
Fault end names count section failure = (at : ℕ) × TextFails names count section at × (failure ≡ Check 15 (end - (length section - at)))

module _ (end : ℕ) (names : List ℕ) (count : ℕ) (section : List ℕ) (failure : FailedCheck) (fits : IsByteList section) where
  not_read : (d : FailedCheck) → read_many (text_at end names (texts_there count section)) count [] section ≡ Err d → d ≡ failure → Fault end names count section failure
  not_read d e same =
      let there = texts_there count section in
      let f = many_fails (text_at end names there) text_bytes (InOrder names there) (text_reader end names there) count [] section d fits e in
      let front = f.0.new in
      let left = f.0.left in
      let said = says (bad_text end left) d (text_at end names there front left) (text_says end names there front left) f.0.fails in
      let clash : (text after : List ℕ) → TextGood front text → IsInPlace names there (length front) → left ≡ text_bytes text ++ after → ⊥ = λ text after good place spelled.
      let again : text_at end names there front left ≡ Ok (text, after) = ap (text_at end names there front) spelled ∙ (text_reader end names there).again front text after (record { good = good; order = order_of names there (length front) place }) in
      let no_end : Err d ≡ Ok (text, after) = sym f.0.fails ∙ again in cc in (
        length (texts_bytes front),
        record { front = front; left = left; good = all_good names there [] front f.0.each_good; in_place = places_of names there front f.0.each_good; spelled = f.0.spelled_so; here = refl; why = inl (record { few = f.1; bad = clash }) },
        said_at end section (texts_bytes front) left failure f.0.spelled_so (sym same ∙ said),
      )

  goes_on : (x : List (List ℕ) × List ℕ) → read_many (text_at end names (texts_there count section)) count [] section ≡ Ok x → (length x.1 ≡ 0 → ⊥) → failure ≡ Check 15 (place_of end x.1) → Fault end names count section failure
  goes_on x e some said =
      let there = texts_there count section in
      let f = (text_section end names there).found count section x.0 x.1 fits e in (
        length (texts_bytes x.0),
        record { front = x.0; left = x.1; good = all_good names there [] x.0 f.0; in_place = places_of names there x.0 f.0; spelled = f.1; here = refl; why = inr (inl (record { all = f.2; some = omega (arith, some) })) },
        said_at end section (texts_bytes x.0) x.1 failure f.1 said,
      )

  unnamed : (x : List (List ℕ) × List ℕ) → read_many (text_at end names (texts_there count section)) count [] section ≡ Ok x → length x.1 ≡ 0 → all_named names 0 count ≡ false → failure ≡ Check 15 end → Fault end names count section failure
  unnamed x e none named said =
      let there = texts_there count section in
      let f = (text_section end names there).found count section x.0 x.1 fits e in
      let one = one_unnamed names 0 count named in
      let at_end : end ≡ end - length x.1 = omega (arith, none) in (
        length (texts_bytes x.0),
        record {
          front = x.0;
          left = x.1;
          good = all_good names there [] x.0 f.0;
          in_place = places_of names there x.0 f.0;
          spelled = f.1;
          here = refl;
          why = inr (inr (record { all = f.2; none = nil_from_length x.1 none; number = one.0; one = omega (arith, one.1); unnamed = one.2 }));
        },
        said_at end section (texts_bytes x.0) x.1 failure f.1 (said ∙ ap (λ n. Check 15 n) at_end),
      )

  pub texts_fail : texts_at end names count section ≡ Err failure → Fault end names count section failure
  unfolding texts_at
  texts_fail e =
      (elim (read_many (text_at end names (texts_there count section)) count [] section) as (λ r. read_many (text_at end names (texts_there count section)) count [] section ≡ r
      → (r >>= λ ts. ended 15 end ts.0 ts.1 >>= λ all. cond (all_named names 0 count) (Ok all) (Err (Check 15 end))) ≡ Err failure → Fault end names count section failure) [
        | Err d ↦ λ h k. not_read d h (err_is d failure k)
        | Ok x ↦ λ h k.
            (elim (eqb (length x.1) 0) as (λ t. eqb (length x.1) 0 ≡ t → (cond t (Ok x.0) (Err (Check 15 (place_of end x.1))) >>= λ all. cond (all_named names 0 count) (Ok all) (Err (Check 15 end))) ≡ Err failure → Fault end names count section failure) [
              | false ↦ λ t m. goes_on x h (eqb-false _ _ t) (sym (err_is (Check 15 (place_of end x.1)) failure m))
              | true ↦ λ t m.
                  (elim (all_named names 0 count) as (λ n. all_named names 0 count ≡ n → cond n (Ok x.0) (Err (Check 15 end)) ≡ Err failure → Fault end names count section failure) [
                    | true ↦ λ n o. absurd cc
                    | false ↦ λ n o. unnamed x h (eqb-true _ _ t) n (sym (err_is (Check 15 end) failure o))
                  ]) refl m
            ]) refl k
      ]) refl e

-- ---- and again

no_text : (end : ℕ) (names : List ℕ) (there : ℕ) (front : List (List ℕ)) (left : List ℕ) → IsByteList left
    → ((text after : List ℕ) → TextGood front text → IsInPlace names there (length front) → left ≡ text_bytes text ++ after → ⊥) → text_at end names there front left ≡ Err (bad_text end left)
no_text end names there front left fits bad =
    (elim (text_at end names there front left) as (λ r. text_at end names there front left ≡ r → r ≡ Err (bad_text end left)) [
      | Ok x ↦ λ h. (let t = (text_reader end names there).takes front left x.0 x.1 fits h in absurd (bad x.0 x.1 t.0.good (in_place_of names there (length front) t.0.order) t.1))
      | Err d ↦ λ h. ap (λ f. Err f) (says (bad_text end left) d (text_at end names there front left) (text_says end names there front left) h)
    ]) refl

not_all : (names : List ℕ) (from n i : ℕ) → from ≤ i → i < from + n → length names ≤ first_place i names → all_named names from n ≡ false
not_all names from zero i le lt un = absurd (omega (arith, le, lt))
not_all names from (suc n) i le lt un =
    elim (cases_lt from i) [
      | inl above ↦ (let more = not_all names (suc from) n i (omega (arith, above)) (omega (arith, lt)) un in rw more (elim (ltb (first_place from names) (length names)) as (λ b. (b && false) ≡ false) [ true ↦ refl | false ↦ refl ]))
      | inr at ↦ (
          let same : i ≡ from = omega (arith, le, at) in
          let t : ltb (first_place from names) (length names) ≡ false = le-ltb _ _ (subst (λ j. length names ≤ first_place j names) same un) in
          rw t refl)
    ]

err_many : (end : ℕ) (names : List ℕ) (count : ℕ) (section : List ℕ) (d : FailedCheck) → read_many (text_at end names (texts_there count section)) count [] section ≡ Err d → texts_at end names count section ≡ Err d
unfolding texts_at
err_many end names count section d e = rw e refl

err_left : (end : ℕ) (names : List ℕ) (count : ℕ) (section : List ℕ) (front : List (List ℕ)) (left : List ℕ) → read_many (text_at end names (texts_there count section)) count [] section ≡ Ok (front, left) → eqb (length left) 0 ≡ false → texts_at end names count section ≡ Err (Check 15 (place_of end left))
unfolding texts_at
err_left end names count section front left e t = rw (e, t) refl

err_named : (end : ℕ) (names : List ℕ) (count : ℕ) (section : List ℕ) (front : List (List ℕ)) (left : List ℕ) → read_many (text_at end names (texts_there count section)) count [] section ≡ Ok (front, left) → eqb (length left) 0 ≡ true → all_named names 0 count ≡ false → texts_at end names count section ≡ Err (Check 15 end)
unfolding texts_at
err_named end names count section front left e t n = rw (e, t, n) refl

pub texts_fail_again : (end : ℕ) (names : List ℕ) (count : ℕ) (section : List ℕ) (at : ℕ) → IsByteList section → TextFails names count section at → texts_at end names count section ≡ Err (Check 15 (end - (length section - at)))
texts_fail_again end names count section at fits f =
    let there = texts_there count section in
    let size : length f.left ≡ length section - at = omega (arith, ap length f.spelled, length-append (texts_bytes f.front) f.left, f.here) in
    let each : AllGood (InOrder names there) [] f.front = with_orders names there [] f.front f.good (λ i lt. let k : 0 + i ≡ i = omega arith in ap (out_of_order names there) k ∙ order_of names there i (f.in_place i lt)) in
    let read : length f.front ≡ count → read_many (text_at end names there) count [] section ≡ Ok (f.front, f.left) = λ all.
    ap (λ n. read_many (text_at end names there) n [] section) (sym all) ∙ ap (read_many (text_at end names there) (length f.front) []) f.spelled ∙ (text_section end names there).spelled f.front f.left each in
    elim f.why [
      | inl w ↦ (
          let here = no_text end names there f.front f.left (IsByteList-rest section (texts_bytes f.front) f.left fits f.spelled) w.bad in
          let many : read_many (text_at end names there) count [] section ≡ Err (bad_text end f.left) = ap (read_many (text_at end names there) count []) f.spelled ∙ many_fails_again (text_at end names there) text_bytes (InOrder names there) (text_reader end names there) f.front count [] f.left (bad_text end f.left) each w.few here in
          err_many end names count section (bad_text end f.left) many ∙ ap (λ n. Err (Check 15 (end - n))) size)
      | inr v ↦ elim v [
        | inl w ↦ err_left end names count section f.front f.left (read w.all) (ne_eqb (length f.left) 0 (λ z. omega (arith, z, w.some))) ∙ ap (λ n. Err (Check 15 (end - n))) size
        | inr w ↦ (
            let none : length f.left ≡ 0 = ap length w.none in
            let at_end : end ≡ end - (length section - at) = omega (arith, none, size) in
            err_named end names count section f.front f.left (read w.all) (eq-eqb (length f.left) 0 none) (not_all names 0 count w.number (omega arith) (omega (arith, w.one)) w.unnamed) ∙ ap (λ n. Err (Check 15 n)) at_end)
      ]
    ]
