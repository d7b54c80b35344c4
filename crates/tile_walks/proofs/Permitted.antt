-- Sequences of the graph are those of the tiles, and stand among edges where these begin with them somewhere.
use Rattle.std.proofs.Common.{◌≡◌, ℕ, List, [], ◌∷◌, ◌++◌, length, map, drop, refl, sym, ◌∙◌, ap, subst, arith, inl, inr}
use Rattle.std.specs.Prelude.{All, slice_index, slice_index_or}
use Rattle.road_pieces.specs.Paths.{Stands}
use Rattle.road_pieces.specs.Modes.{ShareMode}
use Rattle.road_pieces.proofs.Members.{IsIn, in_at, in_from_contains, contains_from_in, in_flat, of_flat, in_map, of_map}
use Rattle.tile_bytes.specs.declared.tile.Tile.{Tile}
use Rattle.tile_bytes.specs.declared.sequences.Sequence.{Sequence}
use Rattle.tile_graph.specs.Tiles.{sequence_under}
use Rattle.tile_walks.specs.declared.items.WalkItem.{WalkItem}
use Rattle.tile_walks.specs.declared.items.WalkItem.TheVariants as items
use Rattle.tile_walks.specs.FileTiles.{fields_of_tile, file_graph}
use Rattle.tile_walks.specs.WalkItems.{edges_named, IsPermitted}
use Rattle.tile_walks.specs.Forbidden.{Begin, BeginSomewhere, Permits, TilePermits}

-- ---- lists of edges

begin_to : (edges : List ℕ) (named : List WalkItem) (after : List ℕ) → edges_named named ≡ edges ++ after → Begin edges named
begin_to [] [] after h = tt
begin_to [] (item ∷ named) after h = tt
begin_to (e ∷ edges) [] after h = let n = ap length h in absurd (omega (arith, n))
begin_to (e ∷ edges) (items.Edge id ∷ named) after h = (sym (ap (λ l. slice_index l 0) h), begin_to edges named after (ap (drop 1) h))
begin_to (e ∷ edges) (items.Transition from place ∷ named) after h = begin_to (e ∷ edges) named after h

begin_back : (edges : List ℕ) (named : List WalkItem) → Begin edges named → (after : List ℕ) × (edges_named named ≡ edges ++ after)
begin_back [] named h = (edges_named named, refl)
begin_back (e ∷ edges) [] h = absurd h
begin_back (e ∷ edges) (items.Edge id ∷ named) h =
    let (after, is) = begin_back edges named h.1 in
    (after, ap (λ i. i ∷ edges_named named) (sym h.0) ∙ ap (λ l. e ∷ l) is)
begin_back (e ∷ edges) (items.Transition from place ∷ named) h = begin_back (e ∷ edges) named h

somewhere : (edges : List ℕ) (named : List WalkItem) (before after : List ℕ) → edges_named named ≡ before ++ (edges ++ after) → BeginSomewhere edges named
somewhere edges [] [] after h = begin_to edges [] after h
somewhere edges [] (b ∷ before) after h = let n = ap length h in absurd (omega (arith, n))
somewhere edges (items.Edge id ∷ named) [] after h = inl (begin_to edges (items.Edge id ∷ named) after h)
somewhere edges (items.Edge id ∷ named) (b ∷ before) after h = inr (somewhere edges named before after (ap (drop 1) h))
somewhere edges (items.Transition from place ∷ named) before after h = inr (somewhere edges named before after h)

stands : (edges : List ℕ) (named : List WalkItem) → BeginSomewhere edges named → Stands edges (edges_named named)
stands edges [] h = let (after, is) = begin_back edges [] h in ([], after, is)
stands edges (items.Edge id ∷ named) (inl here) = let (after, is) = begin_back edges (items.Edge id ∷ named) here in ([], after, is)
stands edges (items.Edge id ∷ named) (inr later) = let (before, after, is) = stands edges named later in (id ∷ before, after, ap (λ l. id ∷ l) is)
stands edges (items.Transition from place ∷ named) (inl here) = let (after, is) = begin_back edges (items.Transition from place ∷ named) here in ([], after, is)
stands edges (items.Transition from place ∷ named) (inr later) = stands edges named later

-- ---- sequences of tiles

pub permitted_to : (tiles : List Tile) (mode : ℕ) (named : List WalkItem) → All (TilePermits mode named) tiles → IsPermitted (file_graph tiles) mode named
permitted_to tiles mode named all s among modes (before, after, is) =
    let (t, (one, inside)) = of_flat (λ t. map sequence_under t.sequences) (map fields_of_tile tiles) s (in_from_contains (file_graph tiles).sequences s among) in
    let (tile, (own, same)) = of_map fields_of_tile tiles t one in
    let (f, (row, made)) = of_map sequence_under t.sequences s inside in
    let (q, (kept, told)) = of_map (λ s. (s.edges, s.modes)) tile.sequences f (subst (λ t. IsIn t.sequences f) (sym same) row) in
    let e : sequence_under (q.edges, q.modes) ≡ s = ap sequence_under told ∙ made in
    let (k, below, at) = contains_from_in tiles tile own in
    let (j, low, there) = contains_from_in tile.sequences q kept in
    let here : TilePermits mode named tile = subst (TilePermits mode named) at (all k tile below) in
    let permits : Permits mode named q = subst (Permits mode named) there (here j q low) in
    permits (subst (λ s. ShareMode s.modes mode) (sym e) modes) (somewhere q.edges named before after (is ∙ ap (λ s. before ++ (s.edges ++ after)) (sym e)))

pub permitted_back : (tiles : List Tile) (mode : ℕ) (named : List WalkItem) → IsPermitted (file_graph tiles) mode named → All (TilePermits mode named) tiles
permitted_back tiles mode named permitted k d below j none low modes begins =
    let tile : Tile = slice_index_or tiles k d in
    let q : Sequence = slice_index_or tile.sequences j none in
    permitted (sequence_under (q.edges, q.modes))
    (contains_from_in (file_graph tiles).sequences (sequence_under (q.edges, q.modes))
    (in_flat (λ t. map sequence_under t.sequences) (map fields_of_tile tiles) (fields_of_tile tile) (sequence_under (q.edges, q.modes))
    (in_map fields_of_tile tiles tile (in_at tiles k d tile below refl))
    (in_map sequence_under (fields_of_tile tile).sequences (q.edges, q.modes) (in_map (λ s. (s.edges, s.modes)) tile.sequences q (in_at tile.sequences j none q low refl)))))
    modes (stands q.edges named begins)
