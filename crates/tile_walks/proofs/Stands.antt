-- Where walks stand.
use Rattle.std.proofs.Common.{◌≡◌, ℕ, List, [], ◌∷◌, length, Option, Some, None, refl, ap, sym, subst, ◌∙◌, arith}
use Rattle.std.specs.Prelude.{◌≢◌, slice_get}
use Rattle.std.specs.List.{Any}
use Rattle.graph_id.specs.GraphId.{level_of, tile_of_id, value_of}
use Rattle.tile_records.specs.Nodes.{NodeFields}
use Rattle.tile_records.specs.Edges.{EdgeFields}
use Rattle.tile_walks.specs.declared.items.Stand.{Stand}
use Rattle.tile_bytes.specs.declared.tile.Tile.{Tile}
use Rattle.tile_walks.specs.Records.{IsNodeOf}
use Rattle.tile_walks.specs.Steps.{StartsAt, HasEdge, Ends}
use Rattle.tile_walks.proofs.Options.{none_some}

pub to_starts : (tiles : List Tile) (at : Option ℕ) (id n : ℕ) → at ≡ Some n → (r : NodeFields) → IsNodeOf tiles n r → HasEdge n r id → StartsAt tiles at id
to_starts tiles at id n is r node has = subst (λ at. StartsAt tiles at id) (sym is) (r, node, has)

pub of_starts : (tiles : List Tile) (at : Option ℕ) (id n : ℕ) → at ≡ Some n → StartsAt tiles at id → (r : NodeFields) × IsNodeOf tiles n r × HasEdge n r id
of_starts tiles at id n is h = subst (λ at. StartsAt tiles at id) is h

pub stand_at : (last : Option EdgeFields) (to there : ℕ) (next : Stand) → to ≡ there → next ≡ record { at = Some there; last = last } → ◌≡◌ {A = Option Stand} (Some (record { at = Some to; last = last })) (Some next)
stand_at last to there next e is = ap (λ t. Some (record { at = Some t; last = last })) e ∙ ap Some (sym is)

first_of : (ns : List NodeFields) → (length ns ≡ 0 → ⊥) → (r : NodeFields) × (slice_get ns 0 ≡ Some r)
first_of [] some = absurd (some refl)
first_of (n ∷ ns) some = (n, refl)

not_empty : (ns : List NodeFields) (p : ℕ) (r : NodeFields) → slice_get ns p ≡ Some r → length ns ≡ 0 → ⊥
not_empty [] p r at none = none_some r at
not_empty (n ∷ ns) p r at none = omega (arith, none)

-- a tile has a node exactly where some id is that of a node
pub to_some : (tiles : List Tile) → Any (λ t. length t.nodes ≢ 0) tiles → (id : ℕ) × ((r : NodeFields) × IsNodeOf tiles id r)
to_some tiles (k, t, inside, is, some) =
    let (r, at) = first_of t.nodes some in
    (value_of (level_of t.id) (tile_of_id t.id) 0, (r, record { tile = t; there = (k, inside, is); place = 0; at = at; named = refl }))

pub of_some : (tiles : List Tile) (id : ℕ) (r : NodeFields) → IsNodeOf tiles id r → Any (λ t. length t.nodes ≢ 0) tiles
of_some tiles id r one =
    let (k, inside, is) = one.there in
    (k, one.tile, inside, is, not_empty one.tile.nodes one.place r one.at)

pub ends_nowhere : (tiles : List Tile) (at : Option ℕ) → at ≡ None → (Ends tiles at → Any (λ t. length t.nodes ≢ 0) tiles) × (Any (λ t. length t.nodes ≢ 0) tiles → Ends tiles at)
ends_nowhere tiles None e = ((λ h. of_some tiles h.0 h.1.0 h.1.1), to_some tiles)
ends_nowhere tiles (Some n) e = absurd (none_some n (sym e))

pub stand_behind : (e f : EdgeFields) (stand next : Stand) → stand ≡ record { at = Some e.end; last = Some e } → e ≡ f → next ≡ record { at = Some f.end; last = Some f } → ◌≡◌ {A = Option Stand} (Some stand) (Some next)
stand_behind e f stand next is same after = ap Some (is ∙ (ap (λ e. record { at = Some e.end; last = Some e }) same ∙ sym after))
