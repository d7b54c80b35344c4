-- Rows that are read and kept at hand.
use Rattle.std.proofs.Common.{◌≡◌, ℕ, zero, suc, Some, List, [], ◌∷◌, ◌++◌, ap, subst, inl, inr, arith, All}
use Rattle.std.specs.Prelude.{slice_get, ◌⊎◌}
use Rattle.std.proofs.lemmas.Option.{none-some, same_Some}
use Rattle.std.proofs.lemmas.List.Elements.{All-append, All-cons}
use Rattle.tile_machine.specs.At.{At}
use Rattle.tile_machine.proofs.Bridges.{some_same, read_at}
use Rattle.osm_model.specs.Extract.{IdsRise}
use Rattle.work_tile.specs.WorkRows.{WorkNode, WorkRows}
use Rattle.enhancer.specs.declared.held.Held.{Held}
use Rattle.enhancer.specs.Tells.{Holds, HeldRise}

pub at_slice : {A : Type 0} (ps : List A) (j : ℕ) (p : A) → At ps j p → slice_get ps j ≡ Some p
at_slice [] j p h = absurd (cc h)
at_slice (x ∷ xs) zero p h = ap Some (some_same x p h)
at_slice (x ∷ xs) (suc j) p h = at_slice xs j p h

get_push : {A : Type 0} (xs : List A) (x : A) (k : ℕ) (h : A) → slice_get (xs ++ x ∷ []) k ≡ Some h → (slice_get xs k ≡ Some h) ⊎ (x ≡ h)
get_push [] x zero h at = inr (same_Some x h at)
get_push [] x (suc k) h at = absurd (none-some h at)
get_push (y ∷ ys) x zero h at = inl at
get_push (y ∷ ys) x (suc k) h at = get_push ys x k h at

-- one more at hand
pub holds_more : (held : List Held) (ps : List WorkRows) (j : ℕ) (rows : WorkRows) → At ps j rows → Holds held ps → Holds (held ++ record { place = j; rows = rows } ∷ []) ps
holds_more held ps j rows at before =
    record {
      stands = λ k h there. elim (get_push held (record { place = j; rows = rows }) k h there) [
        | inl old ↦ before.stands k h old
        | inr e ↦ subst (λ x. slice_get ps x.place ≡ Some x.rows) e (at_slice ps j rows at)
      ];
    }

-- the nodes of one more are in order too
pub rise_more : (held : List Held) (ps : List WorkRows) (j : ℕ) (rows : WorkRows) → At ps j rows
    → All (λ (r : WorkRows). IdsRise (λ (n : WorkNode). n.osm) r.nodes) ps → HeldRise held → HeldRise (held ++ record { place = j; rows = rows } ∷ [])
rise_more held ps j rows at all before =
    let read = read_at ps j rows at in
    let here : IdsRise (λ (n : WorkNode). n.osm) rows.nodes = subst (λ (r : WorkRows). IdsRise (λ (n : WorkNode). n.osm) r.nodes) read.1 (all j rows read.0) in
    All-append (λ (x : Held). IdsRise (λ (n : WorkNode). n.osm) x.rows.nodes) held (record { place = j; rows = rows } ∷ []) before (All-cons (λ (x : Held). IdsRise (λ (n : WorkNode). n.osm) x.rows.nodes) (record { place = j; rows = rows }) [] here (λ k d l. absurd (omega (arith, l))))
