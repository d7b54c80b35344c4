-- Texts that are read are those that were written, and again.
use Rattle.std.proofs.Common.{◌≡◌, ℕ, zero, suc, ◌+◌, ◌-◌, ◌^◌, ◌<◌, ◌≤◌, Bool, true, false, cond, ltb, leb, eqb, ◌&&◌, not, List, [], ◌∷◌, ◌++◌, length, All, get_or, drop, Ok, Err, refl, sym, ap, subst, ◌∙◌, append_assoc, arith, inl, inr}
use Rattle.std.specs.Str.{is_utf8, bytes_eq}
use Rattle.std.specs.List.{list_any}
use Rattle.std.proofs.lemmas.Bool.{and_parts, cases_lt, ltb-true, ltb-false, lt-ltb, le-ltb, leb-true, le-leb, eqb-true}
use Rattle.std.proofs.lemmas.List.{append-nil, nil_from_length, take_at, drop_at, take-append-drop, length-append, length-take}
use Rattle.std.proofs.lemmas.List.Concat.{flat_map-cons}
use Rattle.section_grammar.specs.WordBytes.{IsByteList, half_in, half_bytes}
use Rattle.section_grammar.specs.Reads.{◌>>=◌, read_many, AllGood}
use Rattle.section_grammar.specs.Sections.{IsReader, IsSection}
use Rattle.section_grammar.specs.Answers.{FailedCheck, Check, place_of, ended}
use Rattle.section_grammar.proofs.WordLaws.{half_takes, half_below, half_again, half_after, half_length}
use Rattle.section_grammar.proofs.Steps.{bind_ok, passed_ok, ok_is}
use Rattle.section_grammar.proofs.Sections.{section_of}
use Rattle.edge_info.specs.Texts.{text_bytes, texts_bytes, first_place, TextGood, AreTexts}
use Rattle.edge_info.specs.TextReading.{has_text, text_in, after_text, texts_there, any_below, out_of_order, is_new_text, bad_text, text_at, all_named, texts_at}
use Rattle.edge_info.proofs.TextParts.{is_fine, there_all}

-- a text that is good and in order
pub record InOrder (names : List ℕ) (there : ℕ) (before : List (List ℕ)) (text : List ℕ) : Type 0 where
  pub good : TextGood before text
  pub order : out_of_order names there (length before) ≡ false

not_true : (b : Bool) → not b ≡ true → b ≡ false
not_true true e = absurd cc
not_true false e = refl

text_takes : (end : ℕ) (names : List ℕ) (there : ℕ) (before : List (List ℕ)) (rest : List ℕ) (x : List ℕ) (after : List ℕ) → IsByteList rest → text_at end names there before rest ≡ Ok (x, after) → InOrder names there before x × (rest ≡ text_bytes x ++ after)
unfolding text_at text_bytes
text_takes end names there before rest x after fits e =
    let n = half_in rest in
    let t = text_in rest in
    let new = is_new_text before t in
    let late = out_of_order names there (length before) in
    let a = passed_ok (has_text rest) (bad_text end rest) (cond (new && not late) (Ok (t, after_text rest)) (Err (bad_text end rest))) (x, after) e in
    let b = passed_ok (new && not late) (bad_text end rest) (Ok (t, after_text rest)) (x, after) a.1 in
    let whole = and_parts (leb 4 (length rest)) (leb n (length (drop 4 rest))) a.0 in
    let long : 4 ≤ length rest = leb-true _ _ whole.0 in
    let room : n ≤ length (drop 4 rest) = leb-true _ _ whole.1 in
    let tests = and_parts new (not late) b.0 in
    let fresh = and_parts (ltb 0 (length t) && is_utf8 t) (not (list_any (λ s. bytes_eq s t) before)) tests.0 in
    let spelled = and_parts (ltb 0 (length t)) (is_utf8 t) fresh.0 in
    let len : length t ≡ n = omega (arith, length-take n (drop 4 rest), room) in
    let back : rest ≡ (half_bytes (length t) ++ t) ++ after_text rest =
    sym (half_takes rest fits long)
    ∙ ap (λ k. half_bytes k ++ drop 4 rest) (sym len)
    ∙ ap (λ u. half_bytes (length t) ++ u) (sym (take-append-drop n (drop 4 rest)))
    ∙ sym (append_assoc (half_bytes (length t)) t (after_text rest)) in
    let good : InOrder names there before t = record {
      good = record { passes = record { some = ltb-true _ _ spelled.0; utf8 = spelled.1; new = not_true (list_any (λ s. bytes_eq s t) before) fresh.1 }; short = omega (arith, len, half_below rest fits) };
      order = not_true late tests.1;
    } in
    subst (λ (p : List ℕ × List ℕ). InOrder names there before p.0 × (rest ≡ (half_bytes (length p.0) ++ p.0) ++ p.1)) (ok_is {F = FailedCheck} (t, after_text rest) (x, after) b.1) (good, back)

-- a text stands whole at the front of its bytes
text_front : (x rest : List ℕ) → length x < 2 ^ 32 → (has_text (text_bytes x ++ rest) ≡ true) × (text_in (text_bytes x ++ rest) ≡ x) × (after_text (text_bytes x ++ rest) ≡ rest)
unfolding text_bytes
text_front x rest short =
    let n = half_bytes (length x) in
    let bytes = (n ++ x) ++ rest in
    let grouped : bytes ≡ n ++ (x ++ rest) = append_assoc n x rest in
    let num : half_in bytes ≡ length x = ap half_in grouped ∙ half_again (length x) (x ++ rest) short in
    let more : drop 4 bytes ≡ x ++ rest = ap (drop 4) grouped ∙ half_after (length x) (x ++ rest) in
    let long : leb 4 (length bytes) ≡ true = le-leb _ _ (omega (arith, ap length grouped, length-append n (x ++ rest), half_length (length x))) in
    let room : leb (length x) (length (x ++ rest)) ≡ true = le-leb _ _ (omega (arith, length-append x rest)) in
    (rw (long, num, more, room) refl, rw (num, more) (take_at x rest (length x) refl), rw (num, more) (drop_at x rest (length x) refl))

text_again : (end : ℕ) (names : List ℕ) (there : ℕ) (before : List (List ℕ)) (x : List ℕ) (rest : List ℕ) → InOrder names there before x → text_at end names there before (text_bytes x ++ rest) ≡ Ok (x, rest)
text_again end names there before x rest good =
    let f = text_front x rest good.good.short in
    let bytes = text_bytes x ++ rest in
    let one = is_fine end names there before bytes f.0 (subst (λ t. 0 < length t) (sym f.1) good.good.passes.some) (ap is_utf8 f.1 ∙ good.good.passes.utf8) (ap (λ t. list_any (λ s. bytes_eq s t) before) f.1 ∙ good.good.passes.new) good.order in
    one ∙ rw (f.1, f.2) refl

pub text_reader : (end : ℕ) (names : List ℕ) (there : ℕ) → IsReader (text_at end names there) text_bytes (InOrder names there)
text_reader end names there = record { takes = text_takes end names there; again = text_again end names there }

pub text_section : (end : ℕ) (names : List ℕ) (there : ℕ) → IsSection (text_at end names there) text_bytes (InOrder names there)
text_section end names there = section_of (text_at end names there) text_bytes (InOrder names there) (text_reader end names there)

-- ---- the order

-- the number that stands first at its place
stands_there : (i : ℕ) (names : List ℕ) → first_place i names < length names → get_or names (first_place i names) 0 ≡ i
stands_there i [] lt = absurd (omega arith)
stands_there i (n ∷ ns) lt = by_test (stands_there i ns) (eqb n i) refl
  where
    by_test : (first_place i ns < length ns → get_or ns (first_place i ns) 0 ≡ i) → (b : Bool) → eqb n i ≡ b → get_or (n ∷ ns) (cond b 0 (suc (first_place i ns))) 0 ≡ i
    by_test more true e = eqb-true _ _ e
    by_test more false e =
        let k : first_place i (n ∷ ns) ≡ suc (first_place i ns) = ap (λ b. cond b 0 (suc (first_place i ns))) e in
        more (omega (arith, k, lt))

-- two numbers that stand first at one place are one
one_place : (i j : ℕ) (names : List ℕ) → first_place i names < length names → first_place i names ≡ first_place j names → i ≡ j
one_place i j names lt e = sym (stands_there i names lt) ∙ ap (λ k. get_or names k 0) e ∙ stands_there j names (omega (arith, e, lt))

pub none_below : (place : ℕ → ℕ) (limit from n : ℕ) → any_below place limit from n ≡ false → (j : ℕ) → from ≤ j → j < from + n → limit ≤ place j
none_below place limit from zero e j le lt = absurd (omega (arith, le, lt))
none_below place limit from (suc n) e j le lt = by_test (λ t above. none_below place limit (suc from) n t j (omega (arith, above)) (omega (arith, lt))) (ltb (place from) limit) refl
  where
    by_test : (any_below place limit (suc from) n ≡ false → from < j → limit ≤ place j) → (b : Bool) → ltb (place from) limit ≡ b → limit ≤ place j
    by_test more true t = absurd (let k : any_below place limit from (suc n) ≡ true = ap (λ b. cond b true (any_below place limit (suc from) n)) t in cc)
    by_test more false t =
        let k : any_below place limit from (suc n) ≡ any_below place limit (suc from) n = ap (λ b. cond b true (any_below place limit (suc from) n)) t in
        elim (cases_lt from j) [
          | inl above ↦ more (sym k ∙ e) above
          | inr at ↦ (let same : from ≡ j = omega (arith, le, at) in subst (λ i. limit ≤ place i) same (ltb-false _ _ t))
        ]

pub all_above : (place : ℕ → ℕ) (limit from n : ℕ) → ((j : ℕ) → from ≤ j → j < from + n → limit ≤ place j) → any_below place limit from n ≡ false
all_above place limit from zero h = refl
all_above place limit from (suc n) h =
    let t : ltb (place from) limit ≡ false = le-ltb _ _ (h from (omega arith) (omega arith)) in
    rw t (all_above place limit (suc from) n (λ j le lt. h j (omega (arith, le)) (omega (arith, lt))))

pub second_of : (a b : Bool) → a ≡ true → (a && b) ≡ false → b ≡ false
second_of true b t e = e
second_of false b t e = absurd cc

-- a named text that is not out of order is named before those behind it
ordered_at : (names : List ℕ) (there i : ℕ) → first_place i names < length names → out_of_order names there i ≡ false → (j : ℕ) → i < j → j < there → first_place i names < first_place j names
unfolding out_of_order
ordered_at names there i named e j lt below =
    let none = second_of (ltb (first_place i names) (length names)) (any_below (λ j. first_place j names) (first_place i names) (suc i) (there - suc i)) (lt-ltb _ _ named) e in
    let le = none_below (λ j. first_place j names) (first_place i names) (suc i) (there - suc i) none j (omega (arith, lt)) (omega (arith, lt, below)) in
    elim (cases_lt (first_place i names) (first_place j names)) [
      | inl above ↦ above
      | inr at ↦ absurd (let same = one_place i j names named (omega (arith, le, at)) in omega (arith, same, lt))
    ]

in_order : (names : List ℕ) (there i : ℕ) → ((j : ℕ) → i < j → j < there → first_place i names < first_place j names) → out_of_order names there i ≡ false
unfolding out_of_order
in_order names there i h =
    let none : any_below (λ j. first_place j names) (first_place i names) (suc i) (there - suc i) ≡ false =
    all_above (λ j. first_place j names) (first_place i names) (suc i) (there - suc i) (λ j le lt. let b = h j (omega (arith, le)) (omega (arith, lt)) in omega (arith, b)) in
    rw none (elim (ltb (first_place i names) (length names)) as (λ b. (b && false) ≡ false) [ true ↦ refl | false ↦ refl ])

-- ---- each of the texts

pub all_good : (names : List ℕ) (there : ℕ) (before texts : List (List ℕ)) → AllGood (InOrder names there) before texts → AllGood TextGood before texts
all_good names there before [] h = tt
all_good names there before (x ∷ xs) h = (h.0.good, all_good names there (before ++ x ∷ []) xs h.1)

pushed : (before : List (List ℕ)) (x : List ℕ) (i : ℕ) → length before + suc i ≡ length (before ++ x ∷ []) + i
pushed before x i = omega (arith, length-append before (x ∷ []))

pub orders : (names : List ℕ) (there : ℕ) (before texts : List (List ℕ)) → AllGood (InOrder names there) before texts → (i : ℕ) → i < length texts → out_of_order names there (length before + i) ≡ false
orders names there before [] h i lt = absurd (omega arith)
orders names there before (x ∷ xs) h zero lt = let k : length before + 0 ≡ length before = omega arith in rw k h.0.order
orders names there before (x ∷ xs) h (suc i) lt = rw (pushed before x i) (orders names there (before ++ x ∷ []) xs h.1 i (omega (arith, lt)))

pub with_orders : (names : List ℕ) (there : ℕ) (before texts : List (List ℕ)) → AllGood TextGood before texts → ((i : ℕ) → i < length texts → out_of_order names there (length before + i) ≡ false) → AllGood (InOrder names there) before texts
with_orders names there before [] h o = tt
with_orders names there before (x ∷ xs) h o =
    let k : length before + 0 ≡ length before = omega arith in (
      record { good = h.0; order = ap (out_of_order names there) (sym k) ∙ o 0 (omega arith) },
      with_orders names there (before ++ x ∷ []) xs h.1 (λ i lt. ap (out_of_order names there) (sym (pushed before x i)) ∙ o (suc i) (omega (arith, lt))),
    )

each_named : (names : List ℕ) (from n : ℕ) → all_named names from n ≡ true → (i : ℕ) → from ≤ i → i < from + n → first_place i names < length names
each_named names from zero e i le lt = absurd (omega (arith, le, lt))
each_named names from (suc n) e i le lt =
    let a = and_parts (ltb (first_place from names) (length names)) (all_named names (suc from) n) e in
    elim (cases_lt from i) [
      | inl above ↦ each_named names (suc from) n a.1 i (omega (arith, above)) (omega (arith, lt))
      | inr at ↦ (let same : from ≡ i = omega (arith, le, at) in subst (λ j. first_place j names < length names) same (ltb-true _ _ a.0))
    ]

all_named_so : (names : List ℕ) (from n : ℕ) → ((i : ℕ) → from ≤ i → i < from + n → first_place i names < length names) → all_named names from n ≡ true
all_named_so names from zero h = refl
all_named_so names from (suc n) h =
    let a : ltb (first_place from names) (length names) ≡ true = lt-ltb _ _ (h from (omega arith) (omega arith)) in
    rw a (all_named_so names (suc from) n (λ i le lt. h i (omega (arith, le)) (omega (arith, lt))))

-- ---- the section

pub texts_found : (end : ℕ) (names : List ℕ) (count : ℕ) (section : List ℕ) (texts : List (List ℕ)) → IsByteList section → texts_at end names count section ≡ Ok texts
    → AreTexts names texts × (section ≡ texts_bytes texts) × (length texts ≡ count)
unfolding texts_at
texts_found end names count section texts fits e =
    let there = texts_there count section in
    let a = bind_ok (read_many (text_at end names there) count [] section) (λ ts. ended 15 end ts.0 ts.1 >>= λ all. cond (all_named names 0 count) (Ok all) (Err (Check 15 end))) texts e in
    let b = bind_ok (ended 15 end a.0.0 a.0.1) (λ all. cond (all_named names 0 count) (Ok all) (Err (Check 15 end))) texts a.2 in
    let g = passed_ok (eqb (length a.0.1) 0) (Check 15 (place_of end a.0.1)) (Ok a.0.0) b.0 b.1 in
    let n = passed_ok (all_named names 0 count) (Check 15 end) (Ok b.0) texts b.2 in
    let same : a.0.0 ≡ texts = ok_is {F = FailedCheck} a.0.0 b.0 g.1 ∙ ok_is {F = FailedCheck} b.0 texts n.1 in
    let found = (text_section end names there).found count section a.0.0 a.0.1 fits a.1 in
    let whole : there ≡ count = there_all end names there count [] section a.0 a.1 in
    let none : a.0.1 ≡ [] = nil_from_length a.0.1 (eqb-true _ _ g.0) in
    let named : (i : ℕ) → i < length a.0.0 → first_place i names < length names = λ i lt. each_named names 0 count n.0 i (omega arith) (omega (arith, lt, found.2)) in
    let are : AreTexts names a.0.0 = record {
      each = all_good names there [] a.0.0 found.0;
      order = record {
        named = named;
        ordered = λ i j lt below.
            let o : out_of_order names there i ≡ false = (let k : 0 + i ≡ i = omega arith in ap (out_of_order names there) (sym k) ∙ orders names there [] a.0.0 found.0 i (omega (arith, lt, below))) in
            ordered_at names there i (named i (omega (arith, lt, below))) o j lt (omega (arith, below, found.2, whole));
      };
    } in
    let back : section ≡ texts_bytes a.0.0 = found.1 ∙ ap (λ t. texts_bytes a.0.0 ++ t) none ∙ append-nil (texts_bytes a.0.0) in
    subst (λ (ts : List (List ℕ)). AreTexts names ts × (section ≡ texts_bytes ts) × (length ts ≡ count)) same (are, back, found.2)

read_so : (end : ℕ) (names : List ℕ) (count there : ℕ) (section : List ℕ) (texts : List (List ℕ)) → texts_there count section ≡ there → read_many (text_at end names there) count [] section ≡ Ok (texts, []) → all_named names 0 count ≡ true → texts_at end names count section ≡ Ok texts
unfolding texts_at
read_so end names count there section texts t e h = rw (t, e, h) refl

-- good texts stand there whole
all_there : (before texts : List (List ℕ)) (rest : List ℕ) → AllGood TextGood before texts → texts_there (length texts) (texts_bytes texts ++ rest) ≡ length texts
unfolding texts_there
all_there before [] rest h = refl
all_there before (x ∷ xs) rest h =
    let grouped : texts_bytes (x ∷ xs) ++ rest ≡ text_bytes x ++ (texts_bytes xs ++ rest) = ap (λ t. t ++ rest) (flat_map-cons text_bytes x xs) ∙ append_assoc (text_bytes x) (texts_bytes xs) rest in
    let f = text_front x (texts_bytes xs ++ rest) h.0.short in
    ap (texts_there (suc (length xs))) grouped ∙ rw (f.0, f.2) (ap suc (all_there (before ++ x ∷ []) xs rest h.1))

pub texts_again : (end : ℕ) (names : List ℕ) (texts : List (List ℕ)) → AreTexts names texts → texts_at end names (length texts) (texts_bytes texts) ≡ Ok texts
texts_again end names texts are =
    let n = length texts in
    let bytes = texts_bytes texts in
    let nil : bytes ++ [] ≡ bytes = append-nil bytes in
    let there : texts_there n bytes ≡ n = ap (texts_there n) (sym nil) ∙ all_there [] texts [] are.each in
    let each : AllGood (InOrder names n) [] texts = with_orders names n [] texts are.each (λ i lt. let k : 0 + i ≡ i = omega arith in ap (out_of_order names n) k ∙ in_order names n i (λ j l b. are.order.ordered i j l b)) in
    let many : read_many (text_at end names n) n [] bytes ≡ Ok (texts, []) = ap (λ t. read_many (text_at end names n) n [] t) (sym nil) ∙ (text_section end names n).spelled texts [] each in
    read_so end names n n bytes texts there many (all_named_so names 0 n (λ i le lt. are.order.named i (omega (arith, lt))))
