-- A walk item by item: where it stands after each.
use Rattle.std.specs.Prelude.{◌≡◌, ⊤, ℕ, ◌+◌, ◌<◌, ◌≤◌, nat_lt, Option, Some, None, List, [], ◌∷◌, map, slice_get, if◌then◌else◌}
use Rattle.std.specs.Int.{IsBitSet}
use Rattle.graph_id.specs.GraphId.{id_of}
use Rattle.tile_records.specs.Nodes.{NodeFields}
use Rattle.tile_records.specs.Edges.{EdgeFields}
use Rattle.road_pieces.specs.Modes.{ShareMode}
use Rattle.tile_bytes.specs.declared.tile.Tile.{Tile}
use Rattle.tile_walks.specs.declared.items.WalkItem.{WalkItem}
use Rattle.tile_walks.specs.declared.items.WalkItem.TheVariants as items
use Rattle.tile_walks.specs.declared.items.Stand.{Stand}
use Rattle.tile_walks.specs.Keys.{key_of}
use Rattle.tile_walks.specs.Records.{IsRecordOf, IsNodeOf, IsEdgeOf}

-- where the transition at a place of a node of a tile leads
abbrev pub transition_in : Tile → ℕ → NodeFields → Option ℕ
transition_in t place n = if nat_lt place n.transition_count then slice_get t.transitions (n.transition_index + place) else None

abbrev pub IsTransitionOf : List Tile → ℕ → ℕ → ℕ → Type 0
IsTransitionOf tiles from place to = IsRecordOf (λ t. map (transition_in t place) t.nodes) tiles from (Some to)

-- the edge with an id is one of those of a node
abbrev pub HasEdge : ℕ → NodeFields → ℕ → Type 0
HasEdge n r id = (key_of n ≡ key_of id) × (r.edge_index ≤ id_of id) × (id_of id < r.edge_index + r.edge_count)

-- the edge starts where the walk stands
abbrev pub StartsAt : List Tile → Option ℕ → ℕ → Type 0
StartsAt tiles None id = ⊤
StartsAt tiles (Some n) id = (r : NodeFields) × IsNodeOf tiles n r × HasEdge n r id

-- the mode may pass the node, where there is one
abbrev pub IsOpen : List Tile → ℕ → ℕ → Type 0
IsOpen tiles mode id = (r : NodeFields) → IsNodeOf tiles id r → ShareMode r.access mode

-- an edge may come after the last one
abbrev pub MayCome : List Tile → ℕ → ℕ → Option EdgeFields → EdgeFields → Type 0
MayCome tiles vehicles mode None e = ⊤
MayCome tiles vehicles mode (Some l) e = IsOpen tiles mode l.end × (ShareMode vehicles mode → IsBitSet l.mask e.local → ⊥)

-- a transition starts where the walk stands
abbrev pub IsAt : Option ℕ → ℕ → Type 0
IsAt None from = ⊤
IsAt (Some n) from = n ≡ from

-- one item further
abbrev pub Step : List Tile → ℕ → ℕ → Stand → WalkItem → Stand → Type 0
Step tiles vehicles mode s (items.Edge id) next =
    (e : EdgeFields) × IsEdgeOf tiles id e × StartsAt tiles s.at id × ShareMode e.forward_access mode × MayCome tiles vehicles mode s.last e
    × (next ≡ record { at = Some e.end; last = Some e })
Step tiles vehicles mode s (items.Transition from place) next =
    (to : ℕ) × IsAt s.at from × IsTransitionOf tiles from place to × ((r : NodeFields) × IsNodeOf tiles to r)
    × (next ≡ record { at = Some to; last = s.last })

-- the items, one after the other
abbrev pub Steps : List Tile → ℕ → ℕ → Stand → List WalkItem → Stand → Type 0
Steps tiles vehicles mode s [] end = s ≡ end
Steps tiles vehicles mode s (item ∷ rest) end = (next : Stand) × Step tiles vehicles mode s item next × Steps tiles vehicles mode next rest end

-- a walk may end there: at a node; without items there is some node
abbrev pub Ends : List Tile → Option ℕ → Type 0
Ends tiles None = (id : ℕ) × ((r : NodeFields) × IsNodeOf tiles id r)
Ends tiles (Some id) = (r : NodeFields) × IsNodeOf tiles id r

-- the start, before any item
abbrev pub start : Stand
start = record { at = None; last = None }

-- the items follow each other, and are open to the mode
abbrev pub Follow : List Tile → ℕ → ℕ → List WalkItem → Type 0
Follow tiles vehicles mode named = (end : Stand) × Steps tiles vehicles mode start named end × Ends tiles end.at
