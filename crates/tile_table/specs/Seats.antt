-- What clauses say of a table, its seats and the turns that they have in hand.
use Rattle.std.specs.Prelude.{◌≡◌, ℕ, ◌<◌, Bool, length}
use Rattle.atomic_table.specs.Seated.{TableId}
use Rattle.tile_machine.specs.At.{At}
use Rattle.tile_machine.specs.declared.phase.Phase.{Ghosts}
use Rattle.tile_table.specs.declared.view.View.{View}
use Rattle.tile_table.specs.declared.view.Hand.TheVariants.{Holds}
use Rattle.tile_table.specs.declared.seat.Seat.{Seat}
use Rattle.tile_table.specs.declared.seat.Turn.{Turn}
use Rattle.tile_table.specs.declared.table.TileTable.{TileTable}
use Rattle.tile_table.specs.Views.{tiles_by}

module _ {X T Q : Type 0} {g : Ghosts X T Q} where
  -- what the seat knows
  abbrev pub view : Seat X T Q g → View T
  view seat = seat.seat.me.0

  -- which table it is
  abbrev pub table_name : TileTable X T Q g → TableId
  table_name table = table.table.shared.table_id

  -- the table that the seat is at
  abbrev pub seat_name : Seat X T Q g → TableId
  seat_name seat = seat.seat.table_id

  -- a seat of this table
  abbrev pub IsAt : TileTable X T Q g → Seat X T Q g → Type 0
  IsAt table seat = seat_name seat ≡ table_name table

module _ {X T Q : Type 0} where
  abbrev pub turn_place : Turn X T Q → ℕ
  turn_place turn = turn.place

  abbrev pub turn_tile : Turn X T Q → T
  turn_tile turn = turn.tile

  -- whether the tile is marked
  abbrev pub turn_marked : Turn X T Q → Bool
  turn_marked turn = turn.marked

  -- a lock that the seat of this view has in hand
  pub record HasTurn (v : View T) (turn : Turn X T Q) : Type 0 where
    pub hand : v.hand ≡ Holds (turn_place turn) (turn_marked turn)
    pub inside : turn_place turn < length v.world
    -- its tile is the finished one where it is marked, else the world's
    pub stands : At (tiles_by (turn_marked turn) v.world v.goal) (turn_place turn) (turn_tile turn)
