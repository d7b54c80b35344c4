-- A record of four words that is read is the one that was written, and again.
use Rattle.std.proofs.Common.{◌≡◌, ℕ, ◌≤◌, Bool, true, false, cond, ltb, List, ◌++◌, length, drop, Option, Some, None, Ok, Err, refl, sym, ap, subst, ◌∙◌, arith}
use Rattle.std.proofs.lemmas.Bool.{ltb-false, le-ltb}
use Rattle.std.proofs.lemmas.List.{length-append, drop_at}
use Rattle.tile_records.specs.Layout.{AreWords}
use Rattle.section_grammar.specs.WordBytes.{IsByteList, words_in, words_bytes}
use Rattle.section_grammar.specs.Answers.{FailedCheck, Check, place_of}
use Rattle.section_grammar.specs.Sections.{IsReader, IsSection}
use Rattle.section_grammar.proofs.WordLaws.{words_take, words_below, words_again, words_bytes-length}
use Rattle.section_grammar.proofs.Steps.{guard_ok, passed_ok, ok_is}
use Rattle.section_grammar.proofs.Sections.{section_of}
use Rattle.tile_bytes.specs.Items.{IsNext, record_at, record_found}

module _ {R : Type 0} (passes : List R → R → Bool) (check end : ℕ) (before : List R) (rest : List ℕ) where
  found_ok : (o : Option R) (x : R) (after : List ℕ) → record_found passes check end before rest o ≡ Ok (x, after) → (o ≡ Some x) × (passes before x ≡ true) × (drop 32 rest ≡ after)
  unfolding record_found
  found_ok None x after e = absurd cc
  found_ok (Some r) x after e =
      let a = passed_ok (passes before r) (Check check (place_of end rest)) (Ok (r, drop 32 rest)) (x, after) e in
      let same = ok_is {F = FailedCheck} (r, drop 32 rest) (x, after) a.1 in
      let r-is : r ≡ x = ap (λ (p : R × List ℕ). p.0) same in
      (ap (λ (y : R). Some y) r-is, subst (λ (y : R). passes before y ≡ true) r-is a.0, ap (λ (p : R × List ℕ). p.1) same)

module _ {R : Type 0} (read : List ℕ → Option R) (words : R → List ℕ) (fits : R → Type 0) (passes : List R → R → Bool) (check : ℕ)
    (read_is : (ws : List ℕ) (r : R) → AreWords ws → read ws ≡ Some r → fits r × (words r ≡ ws))
    (read_again : (r : R) → fits r → AreWords (words r) × (read (words r) ≡ Some r)) where
  record_takes : (end : ℕ) (before : List R) (rest : List ℕ) (x : R) (after : List ℕ) → IsByteList rest → record_at read passes check end before rest ≡ Ok (x, after) → IsNext fits passes before x × (rest ≡ words_bytes (words x) ++ after)
  unfolding record_at
  record_takes end before rest x after are e =
      let a = guard_ok (ltb (length rest) 32) (Check check (place_of end rest)) (record_found passes check end before rest (read (words_in 4 rest))) (x, after) e in
      let f = found_ok passes check end before rest (read (words_in 4 rest)) x after a.1 in
      let long : 32 ≤ length rest = ltb-false _ _ a.0 in
      let four : AreWords (words_in 4 rest) = record { four = refl; fit = words_below 4 rest are } in
      let is = read_is (words_in 4 rest) x four f.0 in (
        record { fits_so = is.0; passes_so = f.1 },
        sym (words_take 4 rest are long) ∙ ap (λ t. words_bytes (words_in 4 rest) ++ t) f.2 ∙ ap (λ ws. words_bytes ws ++ after) (sym is.1),
      )

  record_again : (end : ℕ) (before : List R) (x : R) (rest : List ℕ) → IsNext fits passes before x → record_at read passes check end before (words_bytes (words x) ++ rest) ≡ Ok (x, rest)
  unfolding record_at record_found
  record_again end before x rest is =
      let a = read_again x is.fits_so in
      let bytes = words_bytes (words x) ++ rest in
      let four : length (words x) ≡ 4 = a.0.four in
      let ws : words_in 4 bytes ≡ words x = ap (λ n. words_in n bytes) (sym four) ∙ words_again (words x) rest a.0.fit in
      let len : length (words_bytes (words x)) ≡ 32 = omega (arith, words_bytes-length (words x)) in
      let long : ltb (length bytes) 32 ≡ false = le-ltb _ _ (omega (arith, length-append (words_bytes (words x)) rest)) in
      let one : record_at read passes check end before bytes ≡ record_found passes check end before bytes (read (words_in 4 bytes)) =
      ap (λ b. cond b (Err (Check check (place_of end bytes))) (record_found passes check end before bytes (read (words_in 4 bytes)))) long in
      let two : record_found passes check end before bytes (read (words_in 4 bytes)) ≡ record_found passes check end before bytes (Some x) =
      ap (λ o. record_found passes check end before bytes o) (ap read ws ∙ a.1) in
      let three : record_found passes check end before bytes (Some x) ≡ Ok (x, drop 32 bytes) =
      ap (λ b. cond b (Ok (x, drop 32 bytes)) (Err (Check check (place_of end bytes)))) is.passes_so in
      one ∙ two ∙ three ∙ ap (λ t. Ok (x, t)) (drop_at (words_bytes (words x)) rest 32 len)

  pub records_reader : (end : ℕ) → IsReader (record_at read passes check end) (λ (r : R). words_bytes (words r)) (IsNext fits passes)
  records_reader end = record { takes = record_takes end; again = record_again end }

  pub records_section : (end : ℕ) → IsSection (record_at read passes check end) (λ (r : R). words_bytes (words r)) (IsNext fits passes)
  records_section end = section_of (record_at read passes check end) (λ (r : R). words_bytes (words r)) (IsNext fits passes) (records_reader end)
