-- Sequences among the edges of items.
use Rattle.std.specs.Prelude.{◌≡◌, ◌⊎◌, ⊤, ℕ, All, List, [], ◌∷◌}
use Rattle.road_pieces.specs.Modes.{ShareMode}
use Rattle.tile_bytes.specs.declared.tile.Tile.{Tile}
use Rattle.tile_bytes.specs.declared.sequences.Sequence.{Sequence}
use Rattle.tile_walks.specs.declared.items.WalkItem.{WalkItem}
use Rattle.tile_walks.specs.declared.items.WalkItem.TheVariants as items

-- the edges of the items begin with a list
abbrev pub Begin : List ℕ → List WalkItem → Type 0
Begin [] named = ⊤
Begin (e ∷ edges) [] = ⊥
Begin (e ∷ edges) (items.Edge id ∷ named) = (e ≡ id) × Begin edges named
Begin (e ∷ edges) (items.Transition from place ∷ named) = Begin (e ∷ edges) named

-- from some item on they do
abbrev pub BeginSomewhere : List ℕ → List WalkItem → Type 0
BeginSomewhere edges [] = Begin edges []
BeginSomewhere edges (item ∷ named) = Begin edges (item ∷ named) ⊎ BeginSomewhere edges named

-- a sequence doesn't forbid the items to the mode; none of a tile does
abbrev pub Permits : ℕ → List WalkItem → Sequence → Type 0
Permits mode named s = ShareMode s.modes mode → BeginSomewhere s.edges named → ⊥

abbrev pub TilePermits : ℕ → List WalkItem → Tile → Type 0
TilePermits mode named t = All (Permits mode named) t.sequences
