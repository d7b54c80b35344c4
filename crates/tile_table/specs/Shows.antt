-- The rule of a table of tiles: what holds of the words, the slots and all seats' views between any two steps.
use Rattle.std.specs.Prelude.{◌≡◌, ℕ, ◌+◌, ◌*◌, ◌<◌, ◌≤◌, Option, Some, Bool, List, length, slice_index, nat_lt}
use Rattle.std.proofs.Math.ListN.{get_elem?}
use mathlib.Core.Option.{some}
use Rattle.atomic_table.specs.Table.{State}
use Rattle.tile_machine.specs.At.{At}
use Rattle.tile_table.specs.declared.view.View.{View}
use Rattle.tile_table.specs.declared.view.Hand.TheVariants.{Holds}
use Rattle.tile_table.specs.Counts.{bit, same_bit, times_in, pair_times, total}
use Rattle.tile_table.specs.Views.{tiles_by, nobody, covering, claiming, taking, marking, holding}

abbrev pub Table : Type 0 → Type 0
Table T = State (Option T) (View T)

module _ {T : Type 0} where
  -- 0, or the claimant's number plus 1
  abbrev pub claim_of : Table T → ℕ → ℕ
  claim_of s i = slice_index s.words (3 * i)

  -- 0 where the lock is free and the tile unmarked, 1 where it is free and the tile marked, or the holder's number plus 2
  abbrev pub lock_of : Table T → ℕ → ℕ
  lock_of s i = slice_index s.words (3 * i + 1)

  -- 1 where the mark is set, else 0
  abbrev pub mark_of : Table T → ℕ → ℕ
  mark_of s i = slice_index s.words (3 * i + 2)

  -- the view of the seat k
  abbrev pub Knows : Table T → ℕ → View T → Type 0
  Knows s k v = get_elem? s.views k ≡ some v

  -- Part 1: all seats know one world and one goal, each with a tile for each place, and their ranges are those of the machine
  pub record OneWorld (s : Table T) (world goal : List T) (workers : ℕ) : Type 0 where
    -- three words for each place, a tile of the world and one of the goal
    pub words : length s.words ≡ 3 * length s.homes
    pub world_places : length world ≡ length s.homes
    pub goal_places : length goal ≡ length s.homes
    pub worlds : (k : ℕ) (v : View T) → Knows s k v → v.first < v.end → (v.world ≡ world) × (v.goal ≡ goal) × (v.all ≡ workers)
    -- each number of a worker is in the range of exactly one seat, and no other number in any: ranges don't overlap, and together they are all
    pub ranges : (x : ℕ) → total (covering x) s.views ≡ bit (nat_lt x workers)
    -- a seat that was joined to another has an empty range, and knows nothing
    pub ended : (k : ℕ) (v : View T) → Knows s k v → v.end ≤ v.first → v ≡ nobody

  -- Part 2: a lock names a worker exactly where its seat holds that place
  pub record LocksHeld (s : Table T) : Type 0 where
    pub holders : (w i : ℕ) → total (holding w i) s.views ≡ same_bit (lock_of s i) (w + 2)
    -- a lock in hand was taken under the seat's own number
    pub taken : (k : ℕ) (v : View T) (j : ℕ) (marked : Bool) → Knows s k v → v.hand ≡ Holds j marked → 0 < taking v.first j v

  -- Part 3: a claim names a worker exactly where the claims of one seat have that pair, once
  abbrev pub ClaimedOnce : Table T → Type 0
  ClaimedOnce s = (w i : ℕ) → total (claiming w i) s.views ≡ same_bit (claim_of s i) (w + 1)

  -- Part 4: a mark is set exactly where some seat's marks have the place
  pub record MarksTrue (s : Table T) : Type 0 where
    pub marks : (i : ℕ) → total (marking i) s.views ≡ mark_of s i
    -- a mark is 0 or 1
    pub once : (i : ℕ) → mark_of s i ≤ 1
    -- a free lock is spelled as the mark says
    pub free : (i : ℕ) → lock_of s i < 2 → lock_of s i ≡ mark_of s i
    -- a seat that holds a lock knows the mark
    pub hands : (k : ℕ) (v : View T) (j : ℕ) (marked : Bool) → Knows s k v → v.hand ≡ Holds j marked → mark_of s j ≡ bit marked
    -- a seat that has a mark has a claim of that place
    pub claimed : (k : ℕ) (v : View T) (i : ℕ) → Knows s k v → 0 < marking i v → (w : ℕ) × (0 < claiming w i v)

  -- Part 5: where a lock is free, the slot is at home, with the world's tile if it is unmarked and the finished one if it is marked
  abbrev pub HomesTrue : Table T → List T → List T → Type 0
  HomesTrue s world goal =
      (i : ℕ) (marked : Bool) (t : T) → lock_of s i ≡ bit marked → At (tiles_by marked world goal) i t
      → get_elem? s.homes i ≡ some (some (Some t))

  -- Part 6: what a seat read stays true
  pub record ReadsTrue (s : Table T) : Type 0 where
    pub known : (k : ℕ) (v : View T) (j : ℕ) → Knows s k v → 0 < times_in j v.known → mark_of s j ≡ 1
    pub seen : (k : ℕ) (v : View T) (i by : ℕ) → Knows s k v → 0 < pair_times i by v.seen → claim_of s i ≡ by + 1
    -- who was met as the holder of a lock did take it
    pub lost : (k : ℕ) (v : View T) (j h : ℕ) → Knows s k v → 0 < pair_times j h v.lost → 0 < total (taking h j) s.views

  pub record Shows (s : Table T) : Type 0 where
    pub world : List T
    pub goal : List T
    pub workers : ℕ
    pub one_world : OneWorld s world goal workers
    pub locks : LocksHeld s
    pub claims : ClaimedOnce s
    pub marks : MarksTrue s
    pub homes : HomesTrue s world goal
    pub reads : ReadsTrue s
