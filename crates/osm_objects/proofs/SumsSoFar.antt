-- A loop over differences: what it has summed, and what is left.
use Rattle.std.proofs.Common.{◌≡◌, ℕ, ◌+◌, ◌<◌, ◌≤◌, ◌^◌, ltb, cond, true, false, ℤ, pos, negsuc, ◌+ℤ◌, FitsSigned, List, [], ◌∷◌, ◌++◌, length, get_or, drop, Result, Ok, Err, sym, ap, ◌∙◌, subst, arith, append-nil, inl, inr}
use Rattle.std.specs.Int.{w64}
use Rattle.std.proofs.lemmas.List.{drop_all}
use Rattle.std.proofs.lemmas.Bool.{lt-ltb, cases_Bool, ltb-true}
use Rattle.wire_read.specs.ZigZag.{unzigzag_of}
use Rattle.osm_objects.specs.declared.fault.ObjectFault.{ObjectFault}
use Rattle.osm_objects.specs.declared.fault.ObjectFault.TheVariants.{BadNumber}
use Rattle.osm_objects.specs.Steps.{◌>>=◌}
use Rattle.osm_objects.specs.Sums.{fits_i64, sums_from, sums_of}
use Rattle.osm_objects.specs.Answers.{after}
use Rattle.osm_objects.proofs.Results.{after_nil, after_after}
use Rattle.osm_objects.proofs.Loops.{at_place}

-- the sums of what is left, behind those so far
abbrev pub sums_left : ℕ → List ℤ → ℤ → List ℕ → ℕ → Result (List ℤ) ObjectFault
sums_left at sums last ns i = after sums (sums_from at last (drop i ns))

pub sums-begun : (at : ℕ) (ns : List ℕ) → sums_of at ns ≡ sums_left at [] (pos 0) ns 0
sums-begun at ns = sym (after_nil (sums_from at (pos 0) ns))

fits_is : (z : ℤ) → FitsSigned w64 z → fits_i64 z ≡ true
fits_is (pos n) fits = lt-ltb n (2 ^ 63) (omega (arith, fits.sfits))
fits_is (negsuc n) fits = lt-ltb n (2 ^ 63) (omega (arith, fits.sfits))

not_fits : (z : ℤ) → (FitsSigned w64 z → ⊥) → fits_i64 z ≡ false
not_fits (pos n) never = elim (cases_Bool (ltb n (2 ^ 63))) [ inl e ↦ absurd (never (record { sfits = omega (arith, ltb-true n (2 ^ 63) e) })) | inr e ↦ e ]
not_fits (negsuc n) never = elim (cases_Bool (ltb n (2 ^ 63))) [ inl e ↦ absurd (never (record { sfits = omega (arith, ltb-true n (2 ^ 63) e) })) | inr e ↦ e ]

-- one number more, as the loop has it
pub sums-pushed : (at : ℕ) (sums items : List ℤ) (last u v next made : ℤ) (ns : List ℕ) (i n : ℕ) → i < length ns → n ≡ get_or ns i 0 → u ≡ unzigzag_of n → v ≡ u → FitsSigned w64 (last +ℤ v) → next ≡ last +ℤ v → made ≡ next → items ≡ sums ++ made ∷ []
    → sums_left at sums last ns i ≡ sums_left at items made ns (i + 1)
sums-pushed at sums items last u v next made ns i n h r u_is v_is fits next_is made_is items_is =
    let m : ℤ = last +ℤ unzigzag_of n in
    let same : v ≡ unzigzag_of n = v_is ∙ u_is in
    let fits_here : FitsSigned w64 m = subst (λ (z : ℤ). FitsSigned w64 (last +ℤ z)) same fits in
    let made_m : made ≡ m = made_is ∙ next_is ∙ ap (λ z. last +ℤ z) same in
    ap (λ l. after sums (sums_from at last l)) (at_place ns i n 0 h r)
    ∙ ap (λ b. after sums (cond b (sums_from at m (drop (i + 1) ns) >>= λ others. Ok (m ∷ others)) (Err (BadNumber at)))) (fits_is m fits_here)
    ∙ after_after sums (m ∷ []) (sums_from at m (drop (i + 1) ns))
    ∙ ap (λ k. after (sums ++ k ∷ []) (sums_from at k (drop (i + 1) ns))) (sym made_m)
    ∙ ap (λ xs. after xs (sums_from at made (drop (i + 1) ns))) (sym items_is)

pub sums-past : (at : ℕ) (sums : List ℤ) (last u v : ℤ) (ns : List ℕ) (i n : ℕ) → i < length ns → n ≡ get_or ns i 0 → u ≡ unzigzag_of n → v ≡ u → (FitsSigned w64 (last +ℤ v) → ⊥) → sums_left at sums last ns i ≡ Err (BadNumber at)
sums-past at sums last u v ns i n h r u_is v_is never =
    let m : ℤ = last +ℤ unzigzag_of n in
    let out : fits_i64 m ≡ false = not_fits m (λ fits. never (subst (λ (z : ℤ). FitsSigned w64 (last +ℤ z)) (sym (v_is ∙ u_is)) fits)) in
    ap (λ l. after sums (sums_from at last l)) (at_place ns i n 0 h r)
    ∙ ap (λ b. after sums (cond b (sums_from at m (drop (i + 1) ns) >>= λ others. Ok (m ∷ others)) (Err (BadNumber at)))) out

pub sums-end : (at : ℕ) (sums : List ℤ) (last : ℤ) (ns : List ℕ) (i : ℕ) → length ns ≤ i → sums_left at sums last ns i ≡ Ok sums
sums-end at sums last ns i h = ap (λ l. after sums (sums_from at last l)) (drop_all i ns h) ∙ ap (λ l. Ok l) (append-nil sums)
