-- What the crate's own functions cite. A reader of its public contracts may skip this file.
use Rattle.std.specs.Prelude.{◌≡◌, Result, Ok, Err, List}
use Rattle.tile_machine.specs.declared.event.Event.{Event}
use Rattle.tile_machine.specs.declared.refused.Refused.{Refused}
use Rattle.tile_machine.specs.declared.state.Cell.{Cell}
use Rattle.tile_machine.specs.declared.state.Worker.{Worker}
use Rattle.tile_machine.specs.State.{State}
use Rattle.tile_machine.specs.Next.{next_state}

-- the state that these lists are
abbrev pub state_of : List Cell → List Worker → State
state_of cells workers = record { cells = cells; workers = workers }

-- the answer to the event and the new state are those of the table: a refusal leaves the old state
abbrev pub Follows : {A : Type 0} → State → Event → Result A Refused → State → Type 0
Follows old event (Ok _) new = next_state old event ≡ Ok new
Follows old event (Err cause) new = (next_state old event ≡ Err cause) × (new ≡ old)
