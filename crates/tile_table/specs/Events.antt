-- The state of the machine that a table of tiles shows, and the event that each kind of step is.
use Rattle.std.specs.Prelude.{◌≡◌, ℕ, zero, suc, ◌+◌, ◌-◌, ◌*◌, ◌<◌, ◌≢◌, ◌++◌, slice_set, Ok, Err, Option, Some, None, Bool, ◌&&◌, ◌||◌, List, [], ◌∷◌, length, map, replicate, ◌==◌, nat_lt, if◌then◌else◌}
use Rattle.tile_machine.specs.State.{State, ranging, first_state}
use Rattle.tile_machine.specs.declared.state.Cell.{Cell}
use Rattle.tile_machine.specs.declared.state.Worker.{Worker}
use Rattle.tile_table.specs.declared.view.View.{View}
use Rattle.tile_table.specs.declared.view.Hand.{Hand}
use Rattle.tile_table.specs.declared.view.Hand.TheVariants.{Empty, Holds}
use Rattle.atomic_table.specs.Table.{opening, keeps, takes, gives, stepped}
use Rattle.tile_machine.specs.Next.{next_state}
use Rattle.tile_machine.specs.declared.event.Event.TheVariants.{Claim, Take, BringOut, Mark, PutBack, Free, Split, Join}
use Rattle.tile_machine.specs.declared.refused.Refused.TheVariants.{Claimed, Held}
use Rattle.tile_table.specs.Counts.{bit}
use Rattle.tile_table.specs.Slots.{inside_by}
use Rattle.tile_table.specs.Views.{opening_view, claiming, marking, with_claim, with_seen, with_lost, with_known, with_take, with_mark, with_no_hand, lower, upper, joined_views, nobody}
use Rattle.tile_table.specs.Shows.{Table, Knows, claim_of, lock_of, mark_of}

-- whom a word names, where the numbers below n name nobody
abbrev pub named : ℕ → ℕ → Option ℕ
named n x = if nat_lt x n then None else Some (x - n)

-- f of n numbers, counted from i
abbrev pub listed : {A : Type 0} → (ℕ → A) → ℕ → ℕ → List A
listed f i zero = []
listed f i (suc n) = f i ∷ listed f (suc i) n

abbrev pub place_held : Hand → Option ℕ
place_held Empty = None
place_held (Holds j marked) = Some j

module _ {T : Type 0} where
  -- the words of a place. Its value is at home where the lock is free; else its holder knows whether it is inside the slot
  abbrev pub cell_at : Table T → (ℕ → Bool) → ℕ → Cell
  cell_at s inside i =
      record {
        claim = named 1 (claim_of s i);
        lock = named 2 (lock_of s i);
        marked = mark_of s i == 1;
        home = nat_lt (lock_of s i) 2 || inside i;
      }

  abbrev pub worker_of_view : View T → Worker
  worker_of_view v = record { first = v.first; end = v.end; hand = place_held v.hand }

  -- the seat is that of this worker
  abbrev pub is_worker : ℕ → View T → Bool
  is_worker n v = (v.first == n) && nat_lt v.first v.end

  -- the worker of a number, by its seat. Where there is none it doesn't live
  abbrev pub worker_at : List (View T) → ℕ → Worker
  worker_at [] n = ranging n n
  worker_at (v ∷ vs) n = if is_worker n v then worker_of_view v else worker_at vs n

  -- the state of the machine with this number of workers
  abbrev pub shown : ℕ → (ℕ → Bool) → Table T → State
  shown workers inside s =
      record {
        cells = listed (cell_at s inside) 0 (length s.homes);
        workers = listed (worker_at s.views) 0 workers;
      }

module _ {T : Type 0} where
  abbrev pub with_views : Table T → List (View T) → Table T
  with_views s views = record { words = s.words; homes = s.homes; views = views }

  -- Each kind of step of a seat in this state is the machine's event of its row. A step's new state is that of the table: the word, the act on the slots and the seat's new view. Whether the value of the place in hand is inside its slot is read off the slots that are out with the seat. A step that reads something else is the event's refusal, or none, and leaves what is shown
  pub record StepsAreEvents (s : Table T) (workers : ℕ) : Type 0 where
    pub claim :
        (k : ℕ) (v : View T) (i : ℕ) (inside : ℕ → Bool) (c : List (ℕ × Option T)) → Knows s k v → v.first < v.end → i < length s.homes → claim_of s i ≡ 0
        → next_state (shown workers inside s) (Claim v.first i) ≡ Ok (shown workers inside (stepped s (3 * i) (v.first + 1) k c (with_claim v i) keeps))
    pub claimed :
        (k : ℕ) (v : View T) (i by : ℕ) (inside : ℕ → Bool) (c : List (ℕ × Option T)) → Knows s k v → v.first < v.end → i < length s.homes → claim_of s i ≡ by + 1
        → (next_state (shown workers inside s) (Claim v.first i) ≡ Err (Claimed by))
        × (shown workers inside (stepped s (3 * i) (by + 1) k c (with_seen v i by) keeps) ≡ shown workers inside s)
    -- a look at a claim that names nobody is no event
    pub unclaimed :
        (k : ℕ) (v : View T) (i : ℕ) (inside : ℕ → Bool) (c : List (ℕ × Option T)) → Knows s k v → claim_of s i ≡ 0
        → shown workers inside (stepped s (3 * i) 0 k c v keeps) ≡ shown workers inside s
    -- the slot goes to the seat with its value
    pub take :
        (k : ℕ) (v : View T) (j : ℕ) (m : Bool) (t : T) (inside : ℕ → Bool) (c : List (ℕ × Option T)) → Knows s k v → v.first < v.end → j < length s.homes → v.hand ≡ Empty → lock_of s j ≡ bit m
        → next_state (shown workers inside s) (Take v.first j) ≡ Ok (shown workers (inside_by inside ((j, Some t) ∷ [])) (stepped s (3 * j + 1) (v.first + 2) k c (with_take v j m) (takes j (Some t))))
    pub held :
        (k : ℕ) (v : View T) (j h : ℕ) (inside : ℕ → Bool) (c : List (ℕ × Option T)) → Knows s k v → v.first < v.end → j < length s.homes → v.hand ≡ Empty → lock_of s j ≡ h + 2
        → (next_state (shown workers inside s) (Take v.first j) ≡ Err (Held h))
        × (shown workers inside (stepped s (3 * j + 1) (h + 2) k c (with_lost v j h) keeps) ≡ shown workers inside s)
    -- a try for "free, unmarked" that reads "free, marked" is no event
    pub read_marked :
        (k : ℕ) (v : View T) (j : ℕ) (inside : ℕ → Bool) (c : List (ℕ × Option T)) → Knows s k v → lock_of s j ≡ 1
        → shown workers inside (stepped s (3 * j + 1) 1 k c (with_known v j) keeps) ≡ shown workers inside s
    -- an exchange of the value with nothing changes no word and no view
    pub bring_out :
        (k : ℕ) (v : View T) (j : ℕ) (m : Bool) (t : T) (inside : ℕ → Bool) → Knows s k v → v.first < v.end → v.hand ≡ Holds j m
        → next_state (shown workers (inside_by inside ((j, Some t) ∷ [])) s) (BringOut v.first j) ≡ Ok (shown workers (inside_by {T = T} inside ((j, None) ∷ [])) s)
    -- the mark is set while the slot is without its value
    pub mark :
        (k : ℕ) (v : View T) (j : ℕ) (m : Bool) (inside : ℕ → Bool) → Knows s k v → v.first < v.end → v.hand ≡ Holds j m → 0 < claiming v.first j v → marking j v ≡ 0
        → next_state (shown workers (inside_by {T = T} inside ((j, None) ∷ [])) s) (Mark v.first j)
        ≡ Ok (shown workers (inside_by {T = T} inside ((j, None) ∷ [])) (stepped s (3 * j + 2) 1 k ((j, None) ∷ []) (with_mark v j) keeps))
    pub put_back :
        (k : ℕ) (v : View T) (j : ℕ) (m : Bool) (t : T) (inside : ℕ → Bool) → Knows s k v → v.first < v.end → v.hand ≡ Holds j m
        → next_state (shown workers (inside_by {T = T} inside ((j, None) ∷ [])) s) (PutBack v.first j) ≡ Ok (shown workers (inside_by inside ((j, Some t) ∷ [])) s)
    -- the slot goes home with its value
    pub free :
        (k : ℕ) (v : View T) (j : ℕ) (m : Bool) (t : T) (inside : ℕ → Bool) → Knows s k v → v.first < v.end → v.hand ≡ Holds j m
        → next_state (shown workers (inside_by inside ((j, Some t) ∷ [])) s) (Free v.first j) ≡ Ok (shown workers inside (stepped s (3 * j + 1) (bit m) k ((j, Some t) ∷ []) (with_no_hand v) gives))
    -- a cut of the range, and two ranges put together: no word and no slot changes
    pub split :
        (k : ℕ) (v : View T) (x : ℕ) (inside : ℕ → Bool) → Knows s k v → v.first < x → x < v.end
        → next_state (shown workers inside s) (Split v.first x) ≡ Ok (shown workers inside (with_views s (slice_set s.views k (lower x v) ++ upper x v ∷ [])))
    pub join :
        (k other : ℕ) (v w : View T) (inside : ℕ → Bool) → Knows s k v → Knows s other w → other ≢ k → v.first < v.end → w.first < w.end → w.first ≡ v.end → w.hand ≡ Empty
        → next_state (shown workers inside s) (Join v.first w.first) ≡ Ok (shown workers inside (with_views s (slice_set (slice_set s.views k (joined_views v w)) other nobody)))

  -- a table that was just made shows the machine's first state
  abbrev pub BeginsAsMachine : List T → List T → ℕ → Type 0
  BeginsAsMachine world goal workers =
      (inside : ℕ → Bool) → shown workers inside (opening (replicate (3 * length world) 0) (map Some world) (opening_view world goal workers)) ≡ first_state (length world) workers
