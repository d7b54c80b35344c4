-- What a flood over the tiles tells when it stops.
use Rattle.std.proofs.Common.{◌≡◌, ℕ, suc, ◌-◌, ◌<◌, ◌≤◌, Bool, true, false, Some, List, length, sym, ap, ◌∙◌, refl, arith}
use Rattle.std.specs.Prelude.{slice_get, not}
use Rattle.bounded_flood.specs.Flood.{is_seen, seen_all, near_of, spread}
use Rattle.bounded_flood.proofs.Stages.{spread-next, cut_off-when_full, cut_off-when_met, cut_off-when_ended}
use Rattle.work_tile.specs.WorkRows.{WorkRows}
use Rattle.enhancer.specs.declared.names.NodeName.{NodeName}
use Rattle.enhancer.specs.Graph.{same_node, near, leads_nowhere}

module _ (places : List ℕ) (ps : List WorkRows) (level left : ℕ) (u v : NodeName) (n : ℕ) (seen : List NodeName) (so_far : seen ≡ spread same_node (near places ps level left) v n) where
  pub side-met : (b : Bool) → n ≤ 63 → b ≡ is_seen same_node u seen → b ≡ true → false ≡ leads_nowhere places ps level left u v
  side-met b small is met =
      sym (cut_off-when_met same_node (near places ps level left) v 63 (63 - n) n u (omega arith)
      (ap (λ s. is_seen same_node u s) (sym so_far) ∙ sym is ∙ met))

  pub side-ended : (b : Bool) → n ≤ 63 → b ≡ is_seen same_node u seen → length seen ≤ n → not b ≡ leads_nowhere places ps level left u v
  side-ended b small is ended =
      ap not (is ∙ ap (λ s. is_seen same_node u s) so_far)
      ∙ sym (cut_off-when_ended same_node (near places ps level left) v 63 (63 - n) n u (omega arith) (omega (arith, ap length so_far, ended)))

  pub side-next : (new : List NodeName) (at : NodeName) → slice_get seen n ≡ Some at → new ≡ seen_all same_node seen (near places ps level left at)
      → (m : ℕ) → m ≡ suc n → new ≡ spread same_node (near places ps level left) v m
  side-next new at here e m after =
      e
      ∙ ap (λ o. seen_all same_node seen (near_of (near places ps level left) o)) (sym here)
      ∙ ap (λ s. seen_all same_node s (near_of (near places ps level left) (slice_get s n))) so_far
      ∙ sym (spread-next same_node (near places ps level left) v n)
      ∙ ap (λ k. spread same_node (near places ps level left) v k) (sym after)

  pub side-full : (at : NodeName) → n < 63 → slice_get seen n ≡ Some at → 63 < length (seen_all same_node seen (near places ps level left at))
      → false ≡ leads_nowhere places ps level left u v
  side-full at small here full =
      let next : seen_all same_node seen (near places ps level left at) ≡ spread same_node (near places ps level left) v (suc n) =
      side-next (seen_all same_node seen (near places ps level left at)) at here refl (suc n) refl in
      sym (cut_off-when_full same_node (near places ps level left) v 63 (63 - suc n) (suc n) u (omega arith) (omega (arith, full, ap length next)))
