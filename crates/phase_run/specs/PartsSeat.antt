-- What the parts of a seat are made of, for clauses of crates above.
use Rattle.tile_machine.specs.declared.phase.Phase.{Ghosts}
use Rattle.tile_table.specs.declared.seat.Seat.{Seat}
use Rattle.tile_table.specs.declared.table.TileTable.{TileTable}
use Rattle.phase_run.specs.declared.seat_parts.SeatParts.{SeatParts}

module _ {X T Q : Type 0} {g : Ghosts X T Q} where
  -- the phase, whose readable parts they are
  abbrev pub parts_phase : SeatParts X T Q g → X
  parts_phase parts = parts.phase.now

  -- the table that they are read from
  abbrev pub parts_table : SeatParts X T Q g → TileTable X T Q g
  parts_table parts = parts.table.now

  -- the seat that reads them
  abbrev pub parts_seat : SeatParts X T Q g → Seat X T Q g
  parts_seat parts = parts.seat.now
