-- The first byte of the padding that fails.
use Rattle.std.proofs.Common.{◌≡◌, ℕ, zero, suc, ◌-◌, true, false, cond, eqb, List, [], ◌∷◌, ◌++◌, length, replicate, Result, Err, refl, sym, ap, ◌∙◌, arith}
use Rattle.std.proofs.lemmas.Bool.{eqb-true, eqb-false, ne_eqb}
use Rattle.section_grammar.specs.Answers.{FailedCheck, Check, place_of}
use Rattle.edge_info.specs.InfoSets.{padding_at}
use Rattle.edge_info.specs.Checks.{PaddingFails}

err_is : (d d' : FailedCheck) → ◌≡◌ {A = Result (Unit {0}) FailedCheck} (Err d) (Err d') → d ≡ d'
err_is d d' e = cc

later : (end b : ℕ) (bytes : List ℕ) (failure : FailedCheck) → b ≡ 0 → (at : ℕ) × PaddingFails bytes at × (failure ≡ Check 16 (end - (length bytes - at))) → (at : ℕ) × PaddingFails (b ∷ bytes) at × (failure ≡ Check 16 (end - (length (b ∷ bytes) - at)))
later end b bytes failure z more =
    let k : length bytes - more.0 ≡ suc (length bytes) - suc more.0 = omega arith in (
      suc more.0,
      record { byte = more.1.byte; after = more.1.after; spelled = ap (λ x. x ∷ bytes) z ∙ ap (λ t. 0 ∷ t) more.1.spelled; bad = more.1.bad },
      more.2 ∙ ap (λ n. Check 16 (end - n)) k,
    )

here : (end b : ℕ) (bytes : List ℕ) (failure : FailedCheck) → (b ≡ 0 → ⊥) → failure ≡ Check 16 (place_of end (b ∷ bytes)) → (at : ℕ) × PaddingFails (b ∷ bytes) at × (failure ≡ Check 16 (end - (length (b ∷ bytes) - at)))
here end b bytes failure ne e =
    let k : length (b ∷ bytes) ≡ length (b ∷ bytes) - 0 = omega arith in
    (0, record { byte = b; after = bytes; spelled = refl; bad = ne }, e ∙ ap (λ n. Check 16 (end - n)) k)

pub padding_fail : (end : ℕ) (bytes : List ℕ) (failure : FailedCheck) → padding_at end bytes ≡ Err failure → (at : ℕ) × PaddingFails bytes at × (failure ≡ Check 16 (end - (length bytes - at)))
unfolding padding_at
padding_fail end [] failure e = absurd cc
padding_fail end (b ∷ bytes) failure e =
    (elim (eqb b 0) as (λ t. eqb b 0 ≡ t → cond t (padding_at end bytes) (Err (Check 16 (place_of end (b ∷ bytes)))) ≡ Err failure → (at : ℕ) × PaddingFails (b ∷ bytes) at × (failure ≡ Check 16 (end - (length (b ∷ bytes) - at)))) [
      | true ↦ λ z k. later end b bytes failure (eqb-true _ _ z) (padding_fail end bytes failure k)
      | false ↦ λ z k. here end b bytes failure (eqb-false _ _ z) (sym (err_is (Check 16 (place_of end (b ∷ bytes))) failure k))
    ]) refl e

at_byte : (end at b : ℕ) (after : List ℕ) → (b ≡ 0 → ⊥) → padding_at end (replicate at 0 ++ b ∷ after) ≡ Err (Check 16 (place_of end (b ∷ after)))
unfolding padding_at
at_byte end zero b after ne = rw (ne_eqb b 0 ne) refl
at_byte end (suc n) b after ne = at_byte end n b after ne

behind : (at b : ℕ) (after : List ℕ) → length (b ∷ after) ≡ length (replicate at 0 ++ b ∷ after) - at
behind zero b after = omega arith
behind (suc n) b after = let more = behind n b after in omega (arith, more)

pub padding_fail_again : (end : ℕ) (bytes : List ℕ) (at : ℕ) → PaddingFails bytes at → padding_at end bytes ≡ Err (Check 16 (end - (length bytes - at)))
padding_fail_again end bytes at f =
    ap (padding_at end) f.spelled ∙ at_byte end at f.byte f.after f.bad
    ∙ ap (λ n. Err (Check 16 (end - n))) (behind at f.byte f.after ∙ ap (λ t. length t - at) (sym f.spelled))
