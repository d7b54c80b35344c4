-- The masks of patterns, as these come one after the other.
use Rattle.std.proofs.Common.{◌≡◌, ℕ, ◌*◌, ◌%◌, ◌^◌, ◌<◌, refl, sym, ◌∙◌, ap, subst, List, [], ◌∷◌, ◌++◌, length, get_or, set, replicate, Bool, true, false, ◌&&◌, ◌||◌, inl, inr, arith}
use Rattle.std.specs.Prelude.{All, bit_or, nat_eq, nat_lt}
use Rattle.std.proofs.Math.Pow.{pow-lt}
use Rattle.std.proofs.lemmas.Bool.{both_ways, false_from_ne_true, and_parts, and_from, and_left, eqb-true, eq-eqb, ne_eqb, ltb-true, lt-ltb, or_right, cases_eq}
use Rattle.std.proofs.lemmas.List.{length-set, length-replicate, get_or-replicate, get_or-set_same, get_or-set_other}
use Rattle.std.proofs.lemmas.List.Folds.{list_any-append}
use Rattle.road_walks.specs.BaseEdges.{tile_numbers}
use Rattle.complex_restr.specs.Codes.{tells_code, has_code_bit, code_mask, AreMasks, is_told}
use Rattle.complex_restr.proofs.BitNumbers.{same_number, one_more_bit}

or_none : (b : Bool) → (b || false) ≡ b
or_none true = refl
or_none false = refl

power_low : (k : ℕ) → k < 8 → (1 * 2 ^ k % 256 ≡ 2 ^ k) × (2 ^ k < 2 ^ 8)
power_low k h = let low : 2 ^ k < 2 ^ 8 = pow-lt h in (omega (arith, low), low)

module _ (locals : List ℕ) (before : List (List ℕ × ℕ)) where
  -- the bits after one more pattern
  bit_after : (s : List ℕ × ℕ) (e i : ℕ) → has_code_bit locals (before ++ s ∷ []) e i ≡ (has_code_bit locals before e i || tells_code locals e i s)
  bit_after s e i = list_any-append (tells_code locals e i) before (s ∷ []) ∙ ap (λ b. has_code_bit locals before e i || b) (or_none (tells_code locals e i s))

  bit_stays : (s : List ℕ × ℕ) (e i : ℕ) → tells_code locals e i s ≡ false → has_code_bit locals (before ++ s ∷ []) e i ≡ has_code_bit locals before e i
  bit_stays s e i h = bit_after s e i ∙ (ap (λ b. has_code_bit locals before e i || b) h ∙ or_none (has_code_bit locals before e i))

  -- a pattern that no mask tells puts no bit
  untold : (s : List ℕ × ℕ) (e i : ℕ) → is_told locals s ≡ false → i < 8 → tells_code locals e i s ≡ false
  untold ([], modes) e i h l = refl
  untold ((c ∷ []), modes) e i h l = refl
  untold ((c ∷ (d ∷ [])), modes) e i h l =
      false_from_ne_true (nat_eq c e && (nat_eq (get_or locals d 0) i && nat_eq modes tile_numbers.vehicles)) (λ t.
      let (_, t1) = and_parts (nat_eq c e) (nat_eq (get_or locals d 0) i && nat_eq modes tile_numbers.vehicles) t in
      let (at, all) = and_parts (nat_eq (get_or locals d 0) i) (nat_eq modes tile_numbers.vehicles) t1 in
      let is : get_or locals d 0 ≡ i = eqb-true (get_or locals d 0) i at in
      both_ways (nat_eq modes tile_numbers.vehicles && nat_lt (get_or locals d 0) 8) h (and_from (nat_eq modes tile_numbers.vehicles) (nat_lt (get_or locals d 0) 8) all (lt-ltb (get_or locals d 0) 8 (omega (arith, is, l)))))
  untold ((c ∷ (d ∷ (f ∷ rest))), modes) e i h l = refl

  mask_untold : (s : List ℕ × ℕ) (e : ℕ) → is_told locals s ≡ false → code_mask locals (before ++ s ∷ []) e ≡ code_mask locals before e
  unfolding code_mask
  mask_untold s e h = same_number (has_code_bit locals (before ++ s ∷ []) e) (has_code_bit locals before e) 0 8 (λ k l. bit_stays s e k (untold s e k h (omega (arith, l))))

  -- a pattern that a mask tells puts no bit into the masks of other edges
  mask_other : (c d modes e : ℕ) → (c ≡ e → ⊥) → code_mask locals (before ++ ((c ∷ (d ∷ [])), modes) ∷ []) e ≡ code_mask locals before e
  unfolding code_mask
  mask_other c d modes e differs =
      same_number (has_code_bit locals (before ++ ((c ∷ (d ∷ [])), modes) ∷ []) e) (has_code_bit locals before e) 0 8
      (λ k l. bit_stays ((c ∷ (d ∷ [])), modes) e k (and_left (nat_eq c e) (nat_eq (get_or locals d 0) k && nat_eq modes tile_numbers.vehicles) (ne_eqb c e differs)))

  mask_told : (c d modes : ℕ) → is_told locals ((c ∷ (d ∷ [])), modes) ≡ true → code_mask locals (before ++ ((c ∷ (d ∷ [])), modes) ∷ []) c ≡ bit_or (code_mask locals before c) (1 * 2 ^ get_or locals d 0 % 256)
  unfolding code_mask
  mask_told c d modes told =
      let s : List ℕ × ℕ = ((c ∷ (d ∷ [])), modes) in
      let (all, low) = and_parts (nat_eq modes tile_numbers.vehicles) (nat_lt (get_or locals d 0) 8) told in
      let inside : get_or locals d 0 < 8 = ltb-true (get_or locals d 0) 8 low in
      let powers = power_low (get_or locals d 0) inside in
      one_more_bit (has_code_bit locals before c) (has_code_bit locals (before ++ s ∷ []) c) (get_or locals d 0) 8 inside
      (bit_after s c (get_or locals d 0) ∙ or_right (has_code_bit locals before c (get_or locals d 0)) (tells_code locals c (get_or locals d 0) s)
      (and_from (nat_eq c c) (nat_eq (get_or locals d 0) (get_or locals d 0) && nat_eq modes tile_numbers.vehicles) (eq-eqb c c refl)
      (and_from (nat_eq (get_or locals d 0) (get_or locals d 0)) (nat_eq modes tile_numbers.vehicles) (eq-eqb (get_or locals d 0) (get_or locals d 0) refl) all)))
      (λ i differs. bit_stays s c i
      (false_from_ne_true (tells_code locals c i s) (λ t.
      let (_, t1) = and_parts (nat_eq c c) (nat_eq (get_or locals d 0) i && nat_eq modes tile_numbers.vehicles) t in
      let (at, _) = and_parts (nat_eq (get_or locals d 0) i) (nat_eq modes tile_numbers.vehicles) t1 in
      differs (sym (eqb-true (get_or locals d 0) i at)))))
      powers.1
      ∙ ap (bit_or (code_mask locals before c)) (sym powers.0)

  -- the masks after one more pattern
  pub masks_untold : (masks : List ℕ) (s : List ℕ × ℕ) → is_told locals s ≡ false → AreMasks locals before masks → AreMasks locals (before ++ s ∷ []) masks
  masks_untold masks s h are = record { all = are.all; each = λ e l. are.each e l ∙ sym (mask_untold s e h) }

  pub masks_told : (masks codes : List ℕ) (s : List ℕ × ℕ) → codes ≡ s.0 → All (λ c. c < length locals) s.0 → is_told locals s ≡ true → AreMasks locals before masks → AreMasks locals (before ++ s ∷ []) (set masks (get_or codes 0 0) (bit_or (get_or masks (get_or codes 0 0) 0) (1 * 2 ^ get_or locals (get_or codes 1 0) 0 % 256)))
  masks_told masks codes ([], modes) is below h are = absurd (both_ways false refl h)
  masks_told masks codes ((c ∷ []), modes) is below h are = absurd (both_ways false refl h)
  masks_told masks codes ((c ∷ (d ∷ [])), modes) is below h are =
      subst (λ cs. AreMasks locals (before ++ ((c ∷ (d ∷ [])), modes) ∷ []) (set masks (get_or cs 0 0) (bit_or (get_or masks (get_or cs 0 0) 0) (1 * 2 ^ get_or locals (get_or cs 1 0) 0 % 256)))) (sym is)
      (record {
        all = length-set masks c (bit_or (get_or masks c 0) (1 * 2 ^ get_or locals d 0 % 256)) ∙ are.all;
        each = λ e l. elim (cases_eq e c) [
          | inl same ↦
              ap (λ n. get_or (set masks c (bit_or (get_or masks c 0) (1 * 2 ^ get_or locals d 0 % 256))) n 0) same
              ∙ (get_or-set_same masks c (bit_or (get_or masks c 0) (1 * 2 ^ get_or locals d 0 % 256)) 0 (omega (arith, l, same, are.all))
              ∙ (ap (λ m. bit_or m (1 * 2 ^ get_or locals d 0 % 256)) (are.each c (omega (arith, l, same)))
              ∙ (sym (mask_told c d modes h) ∙ ap (code_mask locals (before ++ ((c ∷ (d ∷ [])), modes) ∷ [])) (sym same))))
          | inr differs ↦
              get_or-set_other masks c e (bit_or (get_or masks c 0) (1 * 2 ^ get_or locals d 0 % 256)) 0 differs
              ∙ (are.each e l ∙ sym (mask_other c d modes e (λ back. differs (sym back))))
        ];
      })
  masks_told masks codes ((c ∷ (d ∷ (f ∷ rest))), modes) is below h are = absurd (both_ways false refl h)

-- without a pattern no mask has a bit
pub masks_none : (locals : List ℕ) (masks : List ℕ) → masks ≡ replicate (length locals) 0 → AreMasks locals [] masks
unfolding code_mask
masks_none locals masks is =
    record {
      all = ap (λ l. length l) is ∙ length-replicate (length locals) 0;
      each = λ c l. ap (λ m. get_or m c 0) is ∙ get_or-replicate (length locals) c 0 0 l;
    }
