-- What the machine knows of the tiles and of the workers.
use Rattle.std.specs.Prelude.{ℕ, Option, Some, None, true, false, List, map, replicate, slice_get, slice_set, nat_lt, if◌then◌else◌}
use Rattle.std.specs.List.{range_with_len}
use Rattle.tile_machine.specs.declared.state.Cell.{Cell}
use Rattle.tile_machine.specs.declared.state.Worker.{Worker}

-- what the machine knows: of each tile, by its place, and of the worker of each number. A worker whose range is empty doesn't live
pub record State : Type 0 where
  pub cells : List Cell
  pub workers : List Worker

-- a tile before any event: no claim, no lock, no mark, its value at home
abbrev pub untouched : Cell
untouched = record { claim = None; lock = None; marked = false; home = true }

-- a worker with the numbers from first up to end, and with no lock
abbrev pub ranging : ℕ → ℕ → Worker
ranging first end = record { first = first; end = end; hand = None }

-- before any event: each tile untouched, and worker 0 alone lives, with all the numbers
abbrev pub first_state : ℕ → ℕ → State
first_state tiles workers =
    record {
      cells = replicate tiles untouched;
      workers = slice_set (map (λ n. ranging n n) (range_with_len 0 workers)) 0 (ranging 0 workers);
    }

abbrev pub if_live : Option Worker → Option Worker
if_live None = None
if_live (Some w) = if nat_lt w.first w.end then Some w else None

-- the live worker of this number
abbrev pub worker_of : State → ℕ → Option Worker
worker_of s n = if_live (slice_get s.workers n)

-- the tile at this place
abbrev pub cell_of : State → ℕ → Option Cell
cell_of s tile = slice_get s.cells tile

-- the state with another record of this tile
abbrev pub with_cell : State → ℕ → Cell → State
with_cell s tile c = record { cells = slice_set s.cells tile c; workers = s.workers }

-- the state with another record of this worker
abbrev pub with_worker : State → ℕ → Worker → State
with_worker s n w = record { cells = s.cells; workers = slice_set s.workers n w }
