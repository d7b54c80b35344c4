use Rattle.std.proofs.Common.{◌≡◌, ℕ, ◌<◌, ◌≤◌, length, vec_capacity, true, false, slice_index_or}
use Rattle.std.specs.Slots.{slots_items, slots_len, slots_filled}
use Rattle.tile_table.specs.Seats.{view}
use Rattle.tile_table.proofs.LastState.{ClosedSoFar}
use Rattle.tile_table.proofs.table.TileTable.close.Given as goal

abbrev pub invariant-loop-i : goal.invariant-loop-i
invariant-loop-i g l =
    record {
      words : l.closed.words ≡ l.initial.closed.words;
      items : slots_items l.closed.slots ≡ slots_items l.initial.closed.slots;
      len : slots_len l.closed.slots ≡ slots_len l.initial.closed.slots;
      full : (k : ℕ) → l.i ≤ k → k < slots_len l.closed.slots → slice_index_or (slots_filled l.closed.slots) k false ≡ true;
      empty : (k : ℕ) → k < l.i → slice_index_or (slots_filled l.closed.slots) k false ≡ false;
      many : length l.room.items ≡ l.i;
      room : vec_capacity l.initial.room ≤ vec_capacity l.room;
      tiles : ClosedSoFar (view l.fn.seat) l.room.items;
    }
