-- A word and its fields determine each other.
use Rattle.std.proofs.Common.{◌≡◌, ℕ, ◌+◌, ◌*◌, ◌/◌, ◌%◌, ◌^◌, ◌<◌, List, [], ◌∷◌, refl, sym, ap, ◌∙◌, arith}
use Rattle.std.proofs.lemmas.Nat.{pow_pos, pow-add, shr-shr, mod_below, shr_high, mod_low, mod-pow-add}
use Rattle.std.proofs.Math.Nat.{mul-le-mul_left}
use Rattle.bit_words.specs.Bits.{bits_of, word_of, FieldsFit, widths_of, total_width, fields_from}

-- the fields above the first one, in a word whose lowest field has this number
module _ (b f rest : ℕ) (fits : f < 2 ^ b) where
  shifted : (f + 2 ^ b * rest) / 2 ^ b ≡ rest
  shifted = let e : f + 2 ^ b * rest ≡ rest * 2 ^ b + f = omega arith in rw e (shr_high rest b f fits)

  lowest : bits_of (f + 2 ^ b * rest) 0 b ≡ f
  lowest =
      let e : f + 2 ^ b * rest ≡ rest * 2 ^ b + f = omega arith in
      let one : (f + 2 ^ b * rest) / 2 ^ 0 ≡ f + 2 ^ b * rest = omega arith in
      rw one (rw e (mod_low rest b f fits))

  higher : (at width : ℕ) → bits_of (f + 2 ^ b * rest) (b + at) width ≡ bits_of rest at width
  higher at width = ap (λ x. x % 2 ^ width) (sym (shr-shr (f + 2 ^ b * rest) b at) ∙ ap (λ x. x / 2 ^ at) shifted)

  all_higher : (at : ℕ) (widths : List ℕ) → fields_from (b + at) widths (f + 2 ^ b * rest) ≡ fields_from at widths rest
  all_higher at [] = refl
  all_higher at (w ∷ ws) =
      let k : (b + at) + w ≡ b + (at + w) = omega arith in
      rw (higher at w, k, all_higher (at + w) ws) refl

pub back : (fields : List (ℕ × ℕ)) → FieldsFit fields → fields_from 0 (widths_of fields) (word_of fields) ≡ fields
back [] fits = refl
back (f ∷ fs) fits =
    let k : 0 + f.0 ≡ f.0 + 0 = omega arith in
    let low = lowest f.0 f.1 (word_of fs) fits.0 in
    let high = all_higher f.0 f.1 (word_of fs) fits.0 0 (widths_of fs) in
    rw (low, k, high, back fs fits.1) refl

part : (at : ℕ) (widths : List ℕ) (word : ℕ) → word_of (fields_from at widths word) ≡ word / 2 ^ at % 2 ^ total_width widths
part at [] word = omega arith
part at (b ∷ bs) word =
    let more = part (at + b) bs word in
    let cut = mod-pow-add (word / 2 ^ at) (total_width bs) b in
    let k : b + total_width bs ≡ total_width bs + b = omega arith in
    let s = shr-shr word at b in
    rw (more, k, cut, s) (omega arith)

pub whole : (widths : List ℕ) (word : ℕ) → word < 2 ^ total_width widths → word_of (fields_from 0 widths word) ≡ word
whole widths word lt =
    let one : word / 2 ^ 0 ≡ word = omega arith in
    let z : word ≡ 0 * 2 ^ total_width widths + word = omega arith in
    part 0 widths word ∙ rw one (ap (λ x. x % 2 ^ total_width widths) z ∙ mod_low 0 (total_width widths) word lt)

room_for : (r m p f : ℕ) → r < m → f < p → f + p * r < p * m
room_for r m p f lt small = let a = mul-le-mul_left p lt in omega (arith, a)

pub below : (fields : List (ℕ × ℕ)) → FieldsFit fields → word_of fields < 2 ^ total_width (widths_of fields)
below [] fits = omega arith
below (f ∷ fs) fits =
    let more = below fs fits.1 in
    let p = pow-add 2 f.0 (total_width (widths_of fs)) in
    let room = room_for (word_of fs) (2 ^ total_width (widths_of fs)) (2 ^ f.0) f.1 more fits.0 in
    rw p room

fit_from : (at : ℕ) (widths : List ℕ) (word : ℕ) → FieldsFit (fields_from at widths word)
fit_from at [] word = tt
fit_from at (b ∷ bs) word = (mod_below (word / 2 ^ at) (2 ^ b) (pow_pos b), fit_from (at + b) bs word)

pub fit : (widths : List ℕ) (word : ℕ) → FieldsFit (fields_from 0 widths word)
fit widths word = fit_from 0 widths word
