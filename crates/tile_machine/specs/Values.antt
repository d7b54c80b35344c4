-- The tiles' values as the events move them.
use Rattle.std.specs.Prelude.{◌≡◌, ℕ, Option, Some, None, option_and_then, Bool, true, false, is_ok, List, [], ◌∷◌, ◌++◌, length, map, All, slice_get, slice_set, if◌then◌else◌}
use Rattle.std.specs.Option.{option_map_or}
use Rattle.tile_machine.specs.declared.event.Event.{Event}
use Rattle.tile_machine.specs.declared.event.Event.TheVariants.{BringOut, PutBack}
use Rattle.tile_machine.specs.declared.state.Cell.{Cell}
use Rattle.tile_machine.specs.At.{At}
use Rattle.tile_machine.specs.State.{State, first_state, cell_of}
use Rattle.tile_machine.specs.Next.{next_state, after, leads}

-- the tiles' values as the events move them: the one at home at each place, none while it is out, and all that were brought out so far, each with its place
pub record Values (T : Type 0) : Type 0 where
  pub homes : List (Option T)
  pub brought : List (ℕ × Option T)

-- before any event each tile of the world is at home
abbrev pub opening : {T : Type 0} → List T → Values T
opening world = record { homes = map Some world; brought = [] }

-- the value at home at this place
abbrev pub home_at : {T : Type 0} → List (Option T) → ℕ → Option T
home_at homes tile = option_and_then (λ o. o) (slice_get homes tile)

-- the tile of this place that the mark says: the finished one where it is marked, else the world's
abbrev pub tile_by : {T : Type 0} → List T → List T → ℕ → Bool → Option T
tile_by world finished tile marked = if marked then slice_get finished tile else slice_get world tile

abbrev pub is_marked : State → ℕ → Bool
is_marked s tile = option_map_or (λ c. c.marked) (cell_of s tile) false

-- what an accepted event does to the values: it brings out the one at home, or puts back the one that the mark says
abbrev pub moved : {T : Type 0} → List T → List T → State → Event → Values T → Values T
moved world finished s (BringOut worker tile) v =
    record {
      homes = slice_set v.homes tile None;
      brought = v.brought ++ (tile, home_at v.homes tile) ∷ [];
    }
moved world finished s (PutBack worker tile) v =
    record {
      homes = slice_set v.homes tile (tile_by world finished tile (is_marked s tile));
      brought = v.brought;
    }
moved world finished s _ v = v

-- the values after these events: a refused one moves nothing
abbrev pub carried : {T : Type 0} → List T → List T → State → List Event → Values T → Values T
carried world finished s [] v = v
carried world finished s (e ∷ es) v =
    carried world finished (after s (next_state s e)) es (if is_ok (next_state s e) then moved world finished s e v else v)

-- the state of a machine over this world after these events, from the start
abbrev pub state_after : {T : Type 0} → List T → ℕ → List Event → State
state_after world workers events = leads (first_state (length world) workers) events

-- the values of this world after these events, from the start
abbrev pub values_after : {T : Type 0} → List T → List T → ℕ → List Event → Values T
values_after world finished workers events =
    carried world finished (first_state (length world) workers) events (opening world)

-- the value at home of this tile, as the machine knows it: the one that the mark says, and none while it is out
abbrev pub value_of : {T : Type 0} → List T → List T → ℕ → Cell → Option T
value_of world finished tile c = if c.home then tile_by world finished tile c.marked else None

-- at each place the value at home is the one that the mark says, and there is none while it is out
abbrev pub PlacedByMark : {T : Type 0} → List T → List T → State → List (Option T) → Type 0
PlacedByMark world finished s homes =
    (tile : ℕ) (c : Cell) → cell_of s tile ≡ Some c → slice_get homes tile ≡ Some (value_of world finished tile c)

-- each value that was brought out is there, and its readable part is that of the world's tile
abbrev pub ReadAsWorld : {T P : Type 0} → (T → P) → List T → List (ℕ × Option T) → Type 0
ReadAsWorld readable world brought =
    All (λ b. (t : _) × (b.1 ≡ Some t) × At (map readable world) b.0 (readable t)) brought

-- each tile is marked, and its value is at home
abbrev pub AllDone : State → Type 0
AllDone s = All (λ c. (c.marked ≡ true) × (c.home ≡ true)) s.cells

-- what the marks say of the values after these events, from the start
pub record CarriesValues {T P : Type 0} (readable : T → P) (world finished : List T) (workers : ℕ) (events : List Event) : Type 0 where
  pub placed : PlacedByMark world finished (state_after world workers events) (values_after world finished workers events).homes
  pub brought : ReadAsWorld readable world (values_after world finished workers events).brought
  -- where each tile is marked and its value at home, the values are the finished tiles, in their places
  pub done : AllDone (state_after world workers events) → (values_after world finished workers events).homes ≡ map Some finished
