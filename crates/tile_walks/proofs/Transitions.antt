-- The transitions that a search finds.
use Rattle.std.proofs.Common.{◌≡◌, ℕ, zero, suc, ◌<◌, ◌^◌, List, [], ◌∷◌, length, map, Option, Some, None, refl, sym, ◌∙◌, ap}
use Rattle.std.specs.Prelude.{IfSome, slice_get, slice_index, slice_index_or}
use Rattle.graph_id.specs.GraphId.{id_of}
use Rattle.tile_records.specs.Nodes.{NodeFields}
use Rattle.tile_bytes.specs.declared.tile.Tile.{Tile}
use Rattle.tile_walks.specs.Keys.{key_of, keys_of, Rise}
use Rattle.tile_walks.specs.Steps.{IsTransitionOf, transition_in}
use Rattle.tile_walks.proofs.Options.{told, none_some}
use Rattle.tile_walks.proofs.Lookup.{found_at, only_at}

pub get_map : {A B : Type 0} (f : A → B) (xs : List A) (p : ℕ) (x : A) → Some x ≡ slice_get xs p → Some (f x) ≡ slice_get (map f xs) p
get_map f [] p x e = absurd (none_some x (sym e))
get_map f (y ∷ ys) zero x e = ap (λ z. Some (f z)) (told x y e)
get_map f (y ∷ ys) (suc p) x e = get_map f ys p x e

pub get_map_none : {A B : Type 0} (f : A → B) (xs : List A) (p : ℕ) → None ≡ slice_get xs p → None ≡ slice_get (map f xs) p
get_map_none f [] p e = refl
get_map_none f (y ∷ ys) zero e = absurd (none_some y e)
get_map_none f (y ∷ ys) (suc p) e = get_map_none f ys p e

module _ (tiles : List Tile) (keys : List ℕ) (id place : ℕ) (same : keys_of tiles ≡ keys) (small : id < 2 ^ 46) (i : ℕ) (t : Tile) (p : ℕ) (inside : i < length keys) (key : slice_index keys i ≡ key_of id) (is : t ≡ slice_index_or tiles i t) (spot : p ≡ id_of id) (now : List Tile) (view : tiles ≡ now) where
  pub transition_found : (n : NodeFields) (o : Option ℕ) → Some n ≡ slice_get t.nodes p → o ≡ transition_in t place n → IfSome o (λ to. IsTransitionOf now id place to)
  transition_found n None at e = tt
  transition_found n (Some to) at e =
      found_at (λ t. map (transition_in t place) t.nodes) tiles keys id same small i t p (Some (Some to)) inside key is spot (ap Some e ∙ get_map (transition_in t place) t.nodes p n at) now view

  pub transition_only : Rise keys → (n : NodeFields) (o : Option ℕ) → Some n ≡ slice_get t.nodes p → o ≡ transition_in t place n → (to : ℕ) → IsTransitionOf now id place to → o ≡ Some to
  transition_only rises n o at e to one =
      told o (Some to) (only_at (λ t. map (transition_in t place) t.nodes) tiles keys id same small rises i t p (Some o) inside key is spot (ap Some e ∙ get_map (transition_in t place) t.nodes p n at) now view (Some to) one)

  pub no_transition : Rise keys → None ≡ slice_get t.nodes p → (to : ℕ) → IsTransitionOf now id place to → ⊥
  no_transition rises at to one =
      none_some (Some to) (only_at (λ t. map (transition_in t place) t.nodes) tiles keys id same small rises i t p None inside key is spot (get_map_none (transition_in t place) t.nodes p at) now view (Some to) one)
