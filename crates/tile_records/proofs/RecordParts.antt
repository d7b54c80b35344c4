-- Numbers in the spans of four words: they fit, and the words are theirs.
use Rattle.std.proofs.Common.{◌≡◌, ℕ, ◌+◌, ◌^◌, ◌<◌, ◌≤◌, Bool, true, false, cond, eqb, List, [], ◌∷◌, get_or, refl, sym, ap, subst, ◌∙◌, arith, lit≤}
use Rattle.bit_words.specs.Bits.{word_of, FieldsFit, widths_of, total_width, fields_from}
use Rattle.tile_records.specs.Layout.{BitSpan, AreWords, fields_of_word, words_with, used_bits, HasNoSpare}
use Rattle.tile_records.proofs.Flags.{widths_in, below_each, below_wide}

-- the numbers of each word fit their fields
pub record PartsFit (parts : List (BitSpan × ℕ)) : Type 0 where
  pub first : FieldsFit (fields_of_word 0 parts)
  pub second : FieldsFit (fields_of_word 1 parts)
  pub third : FieldsFit (fields_of_word 2 parts)
  pub fourth : FieldsFit (fields_of_word 3 parts)

abbrev pub spans_of : List (BitSpan × ℕ) → List BitSpan
spans_of [] = []
spans_of (p ∷ ps) = p.0 ∷ spans_of ps

-- no span goes past the end of its word
abbrev pub FitWords : List BitSpan → Type 0
FitWords spans = (used_bits 0 spans ≤ 64) × (used_bits 1 spans ≤ 64) × (used_bits 2 spans ≤ 64) × (used_bits 3 spans ≤ 64)

width_step : (b : Bool) (p : BitSpan × ℕ) (fields : List (ℕ × ℕ)) (used : ℕ) → total_width (widths_of fields) ≡ used → total_width (widths_of (cond b ((p.0.width, p.1) ∷ fields) fields)) ≡ cond b (p.0.width + used) used
width_step true p fields used e = ap (λ n. p.0.width + n) e
width_step false p fields used e = e

widths_are : (word : ℕ) (parts : List (BitSpan × ℕ)) → total_width (widths_of (fields_of_word word parts)) ≡ used_bits word (spans_of parts)
widths_are word [] = refl
widths_are word (p ∷ ps) = width_step (eqb p.0.word word) p (fields_of_word word ps) (used_bits word (spans_of ps)) (widths_are word ps)

-- words of numbers that fit are words, and have no bit that no span has
pub parts_spelled : ((fields : List (ℕ × ℕ)) → FieldsFit fields → word_of fields < 2 ^ total_width (widths_of fields))
    → (parts : List (BitSpan × ℕ)) → FitWords (spans_of parts) → PartsFit parts → AreWords (words_with parts) × HasNoSpare (spans_of parts) (words_with parts)
parts_spelled law_below parts room fits =
    let below : (word : ℕ) → FieldsFit (fields_of_word word parts) → word_of (fields_of_word word parts) < 2 ^ used_bits word (spans_of parts) = λ word f.
    subst (λ (n : ℕ). word_of (fields_of_word word parts) < 2 ^ n) (widths_are word parts) (law_below (fields_of_word word parts) f) in
    let b0 = below 0 fits.first in
    let b1 = below 1 fits.second in
    let b2 = below 2 fits.third in
    let b3 = below 3 fits.fourth in
    let spans = spans_of parts in (
      record {
        four = refl;
        fit = below_each (word_of (fields_of_word 0 parts)) (word_of (fields_of_word 1 parts)) (word_of (fields_of_word 2 parts)) (word_of (fields_of_word 3 parts))
            (below_wide (word_of (fields_of_word 0 parts)) (used_bits 0 spans) b0 room.0)
            (below_wide (word_of (fields_of_word 1 parts)) (used_bits 1 spans) b1 room.1)
            (below_wide (word_of (fields_of_word 2 parts)) (used_bits 2 spans) b2 room.2)
            (below_wide (word_of (fields_of_word 3 parts)) (used_bits 3 spans) b3 room.3);
      },
      record { first = b0; second = b1; third = b2; fourth = b3 },
    )

-- each word that has no bit that no span has is that of its own fields
pub record AreOwnWords (spans : List BitSpan) (words : List ℕ) : Type 0 where
  pub first : word_of (fields_from 0 (widths_in 0 spans) (get_or words 0 0)) ≡ get_or words 0 0
  pub second : word_of (fields_from 0 (widths_in 1 spans) (get_or words 1 0)) ≡ get_or words 1 0
  pub third : word_of (fields_from 0 (widths_in 2 spans) (get_or words 2 0)) ≡ get_or words 2 0
  pub fourth : word_of (fields_from 0 (widths_in 3 spans) (get_or words 3 0)) ≡ get_or words 3 0

width_in_step : (b : Bool) (s : BitSpan) (widths : List ℕ) (used : ℕ) → total_width widths ≡ used → total_width (cond b (s.width ∷ widths) widths) ≡ cond b (s.width + used) used
width_in_step true s widths used e = ap (λ n. s.width + n) e
width_in_step false s widths used e = e

widths_in_are : (word : ℕ) (spans : List BitSpan) → total_width (widths_in word spans) ≡ used_bits word spans
widths_in_are word [] = refl
widths_in_are word (s ∷ ss) = width_in_step (eqb s.word word) s (widths_in word ss) (used_bits word ss) (widths_in_are word ss)

pub own_words : ((widths : List ℕ) (word : ℕ) → word < 2 ^ total_width widths → word_of (fields_from 0 widths word) ≡ word) → (spans : List BitSpan) (words : List ℕ) → HasNoSpare spans words → AreOwnWords spans words
own_words law_whole spans words h =
    let own : (i : ℕ) → get_or words i 0 < 2 ^ used_bits i spans → word_of (fields_from 0 (widths_in i spans) (get_or words i 0)) ≡ get_or words i 0 = λ i lt.
    law_whole (widths_in i spans) (get_or words i 0) (subst (λ (n : ℕ). get_or words i 0 < 2 ^ n) (sym (widths_in_are i spans)) lt) in
    record { first = own 0 h.first; second = own 1 h.second; third = own 2 h.third; fourth = own 3 h.fourth }
