-- The tiles of a table at its end, some of them not finished yet.
use Rattle.std.specs.Prelude.{◌≡◌, ℕ, Bool, List, length}
use Rattle.std.proofs.Math.ListN.{get_elem?}
use Rattle.tile_machine.specs.At.{At}
use Rattle.tile_table.specs.declared.seat.Closed.{Closed}
use Rattle.tile_table.specs.Views.{tiles_by}

module _ {X T Q : Type 0} where
  -- a tile for each place: the finished one where it is done, else the world's
  pub record TilesOf (world goal : List T) (closed : List (Closed X T Q)) : Type 0 where
    pub many : length closed ≡ length world
    pub stands : (i : ℕ) (c : Closed X T Q) → At closed i c → At (tiles_by c.done world goal) i c.tile

module _ {T : Type 0} where
  -- the same, of the tiles and of the flags that say which are done
  pub record ByFlags (world goal tiles : List T) (done : List Bool) : Type 0 where
    pub many : length tiles ≡ length world
    pub flags : length done ≡ length world
    pub stands : (i : ℕ) (is_done : Bool) → At done i is_done → get_elem? tiles i ≡ get_elem? (tiles_by is_done world goal) i
