-- what a flood over a graph in flat lists tells when it stops
use Rattle.std.proofs.Common.{◌≡◌, ℕ, suc, ◌-◌, ◌<◌, ◌≤◌, Bool, true, false, Some, List, length, refl, sym, ap, ◌∙◌, arith}
use Rattle.std.specs.Prelude.{nat_eq, slice_get, not}
use Rattle.bounded_flood.specs.Flood.{is_seen, seen_all, near_of, spread, cut_off}
use Rattle.bounded_flood.proofs.Stages.{spread-next, cut_off-when_full, cut_off-when_met, cut_off-when_ended}

module _ (near : ℕ → List ℕ) (u v n : ℕ) (seen : List ℕ) (so_far : seen ≡ spread nat_eq near v n) where
  pub ends-met : (b : Bool) → n ≤ 63 → b ≡ is_seen nat_eq u seen → b ≡ true → false ≡ cut_off nat_eq near 63 u v
  ends-met b small is met =
      sym (cut_off-when_met nat_eq near v 63 (63 - n) n u (omega arith) (ap (λ s. is_seen nat_eq u s) (sym so_far) ∙ sym is ∙ met))

  pub ends-looked : (b : Bool) → n ≤ 63 → b ≡ is_seen nat_eq u seen → length seen ≤ n → not b ≡ cut_off nat_eq near 63 u v
  ends-looked b small is ended =
      ap not (is ∙ ap (λ s. is_seen nat_eq u s) so_far)
      ∙ sym (cut_off-when_ended nat_eq near v 63 (63 - n) n u (omega arith) (omega (arith, ap length so_far)))

  pub goes_on : (new : List ℕ) (at : ℕ) → slice_get seen n ≡ Some at → new ≡ seen_all nat_eq seen (near at)
      → (m : ℕ) → m ≡ suc n → new ≡ spread nat_eq near v m
  goes_on new at here e m after =
      e
      ∙ ap (λ o. seen_all nat_eq seen (near_of near o)) (sym here)
      ∙ ap (λ s. seen_all nat_eq s (near_of near (slice_get s n))) so_far
      ∙ sym (spread-next nat_eq near v n)
      ∙ ap (λ k. spread nat_eq near v k) (sym after)

  pub ends-full : (at : ℕ) → n < 63 → slice_get seen n ≡ Some at → 63 < length (seen_all nat_eq seen (near at))
      → false ≡ cut_off nat_eq near 63 u v
  ends-full at small here full =
      let next : seen_all nat_eq seen (near at) ≡ spread nat_eq near v (suc n) = goes_on (seen_all nat_eq seen (near at)) at here refl (suc n) refl in
      sym (cut_off-when_full nat_eq near v 63 (63 - suc n) (suc n) u (omega arith) (omega (arith, full, ap length next)))
