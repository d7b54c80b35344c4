-- what events do to the values of a world
use Rattle.std.proofs.Common.{◌≡◌, ◌≢◌, ℕ, zero, suc, ◌<◌, Bool, true, false, not, cond, Option, Some, None, option_and_then, Ok, Err, IfOk, is_ok, List, [], ◌∷◌, ltb, ◌&&◌, length, map, replicate, slice_get, slice_set, refl, sym, ap, ◌∙◌, subst, ⊎_elim, arith, length-set}
use Rattle.std.proofs.lemmas.Bool.{cases_eq, not-true}
use Rattle.std.proofs.lemmas.Option.{slice_get_within, get_or_from_slice_get, none-some, same_Some}
use Rattle.std.proofs.lemmas.List.{length-map, length-replicate}
use Rattle.std.specs.Option.{option_map_or}
use Rattle.std.proofs.lemmas.List.Elements.{All-push, All-nil}
use mathlib.Core.Option.{some}
use Rattle.tile_machine.specs.declared.event.Event.{Event}
use Rattle.tile_machine.specs.declared.event.Event.TheVariants.{Claim, Take, BringOut, Mark, PutBack, Free, Split, Join}
use Rattle.tile_machine.specs.declared.state.Cell.{Cell}
use Rattle.tile_machine.specs.declared.state.Worker.{Worker}
use Rattle.tile_machine.specs.At.{At}
use Rattle.tile_machine.specs.State.{State, first_state, untouched, worker_of, cell_of, with_cell, with_worker, ranging}
use Rattle.tile_machine.specs.Next.{Answer, next_state, names_worker, if_next, after, leads}
use Rattle.tile_machine.specs.Values.{Values, opening, home_at, tile_by, value_of, is_marked, moved, carried, state_after, values_after, PlacedByMark, ReadAsWorld, AllDone, CarriesValues}
use Rattle.tile_machine.proofs.Guards.{past_if_there, past_unless, past_provided}
use Rattle.tile_machine.proofs.Lists.{get-set_same, get-set_other}
use Rattle.tile_machine.proofs.Bridges.{at-map}

-- an element that `get` gives stands at its place
at_get : {A : Type 0} (xs : List A) (j : ℕ) (x : A) → slice_get xs j ≡ Some x → At xs j x
at_get [] j x h = absurd (none-some x h)
at_get (y ∷ xs) zero x h = ap some (same_Some y x h)
at_get (y ∷ xs) (suc j) x h = at_get xs j x h

-- the list with each element as a value that is there
pub get-homes : {A : Type 0} (xs : List A) (j : ℕ) → j < length xs → slice_get (map Some xs) j ≡ Some (slice_get xs j)
get-homes [] j h = absurd (omega arith)
get-homes (x ∷ xs) zero h = refl
get-homes (x ∷ xs) (suc j) h = get-homes xs j (omega arith)

-- an element inside the list is there
get_some : {A : Type 0} (xs : List A) (j : ℕ) → j < length xs → (x : A) × (slice_get xs j ≡ Some x)
get_some [] j h = absurd (omega arith)
get_some (x ∷ xs) zero h = (x, refl)
get_some (x ∷ xs) (suc j) h = get_some xs j (omega arith)

-- lists of one length with equal elements are equal
same_elements : {A : Type 0} (xs ys : List A) → length xs ≡ length ys → ((k : ℕ) → k < length xs → slice_get xs k ≡ slice_get ys k) → xs ≡ ys
same_elements [] [] e h = refl
same_elements [] (y ∷ ys) e h = absurd (omega arith)
same_elements (x ∷ xs) [] e h = absurd (omega arith)
same_elements (x ∷ xs) (y ∷ ys) e h =
    let first : x ≡ y = same_Some x y (h 0 (omega arith)) in
    let rest : xs ≡ ys = same_elements xs ys (omega arith) (λ k inside. h (suc k) (omega arith)) in
    cc

-- a copy of one element at each place
get-replicate : {A : Type 0} (n : ℕ) (x : A) (k : ℕ) (y : A) → slice_get (replicate n x) k ≡ Some y → (x ≡ y) × (k < n)
get-replicate zero x k y h = absurd (none-some y h)
get-replicate (suc n) x zero y h = (same_Some x y h, omega arith)
get-replicate (suc n) x (suc k) y h = let rest = get-replicate n x k y h in (rest.0, omega (arith, rest.1))

-- what stays true of the values of a world
record Follow {T P : Type 0} (readable : T → P) (world finished : List T) (s : State) (v : Values T) : Type 0 where
  as_many : length s.cells ≡ length world
  homes : length v.homes ≡ length world
  placed : PlacedByMark world finished s v.homes
  brought : ReadAsWorld readable world v.brought

module _ {T P : Type 0} (readable : T → P) (world finished : List T) (many : length finished ≡ length world) (parts : map readable finished ≡ map readable world) where
  -- one tile is written, and with it what is at home at its place
  placed_write : (s : State) (tile : ℕ) (new : Cell) (homes homes' : List (Option T)) → tile < length s.cells → PlacedByMark world finished s homes
      → slice_get homes' tile ≡ Some (value_of world finished tile new)
      → ((t : ℕ) → t ≢ tile → slice_get homes' t ≡ slice_get homes t)
      → PlacedByMark world finished (with_cell s tile new) homes'
  placed_write s tile new homes homes' inside placed here others t c at =
      ⊎_elim
      (λ e. let same : new ≡ c = same_Some new c (sym (get-set_same s.cells tile new inside) ∙ subst (λ m. slice_get (slice_set s.cells tile new) m ≡ Some c) e at) in
      subst (λ m. slice_get homes' m ≡ Some (value_of world finished m c)) (sym e) (here ∙ ap (λ n. Some (value_of world finished tile n)) same))
      (λ ne. others t ne ∙ placed t c (sym (get-set_other s.cells tile t new ne) ∙ at))
      (cases_eq t tile)

  -- what the machine says of the value of a tile stays, and with it the values
  follow_same : (s : State) (tile : ℕ) (it new : Cell) (v : Values T) → Follow readable world finished s v → cell_of s tile ≡ Some it
      → value_of world finished tile it ≡ value_of world finished tile new → Follow readable world finished (with_cell s tile new) v
  follow_same s tile it new v f at same =
      record {
        as_many = length-set s.cells tile new ∙ f.as_many;
        homes = f.homes;
        placed = placed_write s tile new v.homes v.homes (slice_get_within s.cells tile it at) f.placed (f.placed tile it at ∙ ap Some same) (λ t ne. refl);
        brought = f.brought;
      }

  -- a worker is written
  follow_worker : (s : State) (n : ℕ) (w : Worker) (v : Values T) → Follow readable world finished s v → Follow readable world finished (with_worker s n w) v
  follow_worker s n w v f = record { as_many = f.as_many; homes = f.homes; placed = f.placed; brought = f.brought }

  -- the tile that the mark says is there, with the readable part of the world's
  reads_as : (tile : ℕ) (marked : Bool) → tile < length world → (t : T) × (tile_by world finished tile marked ≡ Some t) × At (map readable world) tile (readable t)
  reads_as tile false inside =
      let x = get_some world tile inside in
      (x.0, x.1, at-map readable world tile x.0 (at_get world tile x.0 x.1))
  reads_as tile true inside =
      let x = get_some finished tile (omega (arith, many)) in
      (x.0, x.1, subst (λ ps. At ps tile (readable x.0)) parts (at-map readable finished tile x.0 (at_get finished tile x.0 x.1)))

  -- a value at home is brought out
  follow_out : (s : State) (worker tile : ℕ) (it : Cell) (v : Values T) → Follow readable world finished s v → cell_of s tile ≡ Some it → it.home ≡ true
      → Follow readable world finished (with_cell s tile (record it { home = false })) (moved world finished s (BringOut worker tile) v)
  follow_out s worker tile it v f at home =
      record {
        as_many = length-set s.cells tile (record it { home = false }) ∙ f.as_many;
        homes = length-set v.homes tile None ∙ f.homes;
        placed = placed_write s tile (record it { home = false }) v.homes (slice_set v.homes tile None) inside f.placed
            (get-set_same v.homes tile None (omega (arith, inside, f.homes, f.as_many)))
            (λ t ne. get-set_other v.homes tile t None ne);
        brought = All-push (λ b. (t : T) × (b.1 ≡ Some t) × At (map readable world) b.0 (readable t)) v.brought (tile, home_at v.homes tile) f.brought
            (read.0, (ap (option_and_then (λ o. o)) (f.placed tile it at) ∙ ap (λ h. cond h (tile_by world finished tile it.marked) None) home ∙ read.1), read.2);
      }
    where
      inside : tile < length s.cells
      inside = slice_get_within s.cells tile it at

      read : (t : T) × (tile_by world finished tile it.marked ≡ Some t) × At (map readable world) tile (readable t)
      read = reads_as tile it.marked (omega (arith, inside, f.as_many))

  -- the value that the mark says is put back
  follow_back : (s : State) (worker tile : ℕ) (it : Cell) (v : Values T) → Follow readable world finished s v → cell_of s tile ≡ Some it
      → Follow readable world finished (with_cell s tile (record it { home = true })) (moved world finished s (PutBack worker tile) v)
  follow_back s worker tile it v f at =
      record {
        as_many = length-set s.cells tile (record it { home = true }) ∙ f.as_many;
        homes = length-set v.homes tile back ∙ f.homes;
        placed = placed_write s tile (record it { home = true }) v.homes (slice_set v.homes tile back) inside f.placed
            (get-set_same v.homes tile back (omega (arith, inside, f.homes, f.as_many)) ∙ ap (λ c. Some (tile_by world finished tile (option_map_or (λ d. d.marked) c false))) at)
            (λ t ne. get-set_other v.homes tile t back ne);
        brought = f.brought;
      }
    where
      inside : tile < length s.cells
      inside = slice_get_within s.cells tile it at

      back : Option T
      back = tile_by world finished tile (is_marked s tile)

  -- an accepted event keeps what is true of the values
  follow_next : (s : State) (e : Event) (v : Values T) → Follow readable world finished s v
      → IfOk (next_state s e) (λ new. Follow readable world finished new (moved world finished s e v))
  follow_next s (Claim worker tile) v f =
      past_if_there (λ new. Follow readable world finished new v) (worker_of s worker) _ _ (λ me alive.
      past_if_there (λ new. Follow readable world finished new v) (cell_of s tile) _ _ (λ it at.
      past_unless (λ new. Follow readable world finished new v) it.claim _ _ (λ free.
      follow_same s tile it (record it { claim = Some worker }) v f at refl)))
  follow_next s (Take worker tile) v f =
      past_if_there (λ new. Follow readable world finished new v) (worker_of s worker) _ _ (λ me alive.
      past_if_there (λ new. Follow readable world finished new v) (cell_of s tile) _ _ (λ it at.
      past_unless (λ new. Follow readable world finished new v) me.hand _ _ (λ empty.
      past_unless (λ new. Follow readable world finished new v) it.lock _ _ (λ free.
      follow_worker (with_cell s tile (record it { lock = Some worker })) worker (record me { hand = Some tile }) v
      (follow_same s tile it (record it { lock = Some worker }) v f at refl)))))
  follow_next s (BringOut worker tile) v f =
      past_if_there (λ new. Follow readable world finished new (moved world finished s (BringOut worker tile) v)) (worker_of s worker) _ _ (λ me alive.
      past_if_there (λ new. Follow readable world finished new (moved world finished s (BringOut worker tile) v)) (cell_of s tile) _ _ (λ it at.
      past_provided (λ new. Follow readable world finished new (moved world finished s (BringOut worker tile) v)) (names_worker it.lock worker) _ _ (λ held.
      past_provided (λ new. Follow readable world finished new (moved world finished s (BringOut worker tile) v)) it.home _ _ (λ home.
      follow_out s worker tile it v f at home))))
  follow_next s (Mark worker tile) v f =
      past_if_there (λ new. Follow readable world finished new v) (worker_of s worker) _ _ (λ me alive.
      past_if_there (λ new. Follow readable world finished new v) (cell_of s tile) _ _ (λ it at.
      past_provided (λ new. Follow readable world finished new v) (names_worker it.lock worker) _ _ (λ held.
      past_provided (λ new. Follow readable world finished new v) (not it.home) _ _ (λ out.
      past_provided (λ new. Follow readable world finished new v) (names_worker it.claim worker) _ _ (λ mine.
      past_provided (λ new. Follow readable world finished new v) (not it.marked) _ _ (λ unmarked.
      follow_same s tile it (record it { marked = true }) v f at
      (ap (λ h. cond h (tile_by world finished tile it.marked) None) (not-true it.home out)
      ∙ sym (ap (λ h. cond h (tile_by world finished tile true) None) (not-true it.home out)))))))))
  follow_next s (PutBack worker tile) v f =
      past_if_there (λ new. Follow readable world finished new (moved world finished s (PutBack worker tile) v)) (worker_of s worker) _ _ (λ me alive.
      past_if_there (λ new. Follow readable world finished new (moved world finished s (PutBack worker tile) v)) (cell_of s tile) _ _ (λ it at.
      past_provided (λ new. Follow readable world finished new (moved world finished s (PutBack worker tile) v)) (names_worker it.lock worker) _ _ (λ held.
      past_provided (λ new. Follow readable world finished new (moved world finished s (PutBack worker tile) v)) (not it.home) _ _ (λ out.
      follow_back s worker tile it v f at))))
  follow_next s (Free worker tile) v f =
      past_if_there (λ new. Follow readable world finished new v) (worker_of s worker) _ _ (λ me alive.
      past_if_there (λ new. Follow readable world finished new v) (cell_of s tile) _ _ (λ it at.
      past_provided (λ new. Follow readable world finished new v) (names_worker it.lock worker) _ _ (λ held.
      past_provided (λ new. Follow readable world finished new v) it.home _ _ (λ home.
      follow_worker (with_cell s tile (record it { lock = None })) worker (record me { hand = None }) v
      (follow_same s tile it (record it { lock = None }) v f at refl)))))
  follow_next s (Split worker at) v f =
      past_if_there (λ new. Follow readable world finished new v) (worker_of s worker) _ _ (λ me alive.
      past_provided (λ new. Follow readable world finished new v) (ltb me.first at && ltb at me.end) _ _ (λ inside.
      follow_worker (with_worker s worker (record me { end = at })) at (ranging at me.end) v
      (follow_worker s worker (record me { end = at }) v f)))
  follow_next s (Join worker other) v f =
      past_if_there (λ new. Follow readable world finished new v) (worker_of s worker) _ _ (λ me alive.
      past_if_there (λ new. Follow readable world finished new v) (if_next me (worker_of s other)) _ _ (λ its found.
      past_unless (λ new. Follow readable world finished new v) its.hand _ _ (λ empty.
      follow_worker (with_worker s worker (record me { end = its.end })) other (ranging its.first its.first) v
      (follow_worker s worker (record me { end = its.end }) v f))))

  -- whatever the answer
  follow_answer : (s : State) (answer : Answer) (v v' : Values T) → Follow readable world finished s v
      → IfOk answer (λ new. Follow readable world finished new v')
      → Follow readable world finished (after s answer) (cond (is_ok answer) v' v)
  follow_answer s (Ok new) v v' f kept = kept
  follow_answer s (Err cause) v v' f kept = f

  -- and whatever the events
  follow_all : (s : State) (es : List Event) (v : Values T) → Follow readable world finished s v
      → Follow readable world finished (leads s es) (carried world finished s es v)
  follow_all s [] v f = f
  follow_all s (e ∷ es) v f =
      follow_all (after s (next_state s e)) es (cond (is_ok (next_state s e)) (moved world finished s e v) v)
      (follow_answer s (next_state s e) v (moved world finished s e v) f (follow_next s e v f))

  -- before any event
  follow_start : (workers : ℕ) → Follow readable world finished (first_state (length world) workers) (opening world)
  follow_start workers =
      record {
        as_many = length-replicate (length world) untouched;
        homes = length-map world Some;
        placed = λ tile c at. let one = get-replicate (length world) untouched tile c at in
            get-homes world tile one.1 ∙ ap (λ d. Some (value_of world finished tile d)) one.0;
        brought = All-nil (λ b. (t : T) × (b.1 ≡ Some t) × At (map readable world) b.0 (readable t));
      }

  -- all done: the values are the finished tiles
  all_finished : (s : State) (v : Values T) → Follow readable world finished s v → AllDone s → v.homes ≡ map Some finished
  all_finished s v f done =
      same_elements v.homes (map Some finished) (f.homes ∙ sym many ∙ sym (length-map finished Some)) (λ k inside.
      let c = get_some s.cells k (omega (arith, f.homes, f.as_many)) in
      let both = subst (λ d. (d.marked ≡ true) × (d.home ≡ true)) (get_or_from_slice_get s.cells k c.0 c.0 c.1) (done k c.0 (slice_get_within s.cells k c.0 c.1)) in
      f.placed k c.0 c.1
      ∙ ap (λ h. Some (cond h (tile_by world finished k c.0.marked) None)) both.1
      ∙ ap (λ m. Some (tile_by world finished k m)) both.0
      ∙ sym (get-homes finished k (omega (arith, many, f.homes))))

  pub carries_values : (workers : ℕ) (events : List Event) → CarriesValues readable world finished workers events
  carries_values workers events =
      let f = follow_all (first_state (length world) workers) events (opening world) (follow_start workers) in
      record {
        placed = f.placed;
        brought = f.brought;
        done = all_finished (state_after world workers events) (values_after world finished workers events) f;
      }
