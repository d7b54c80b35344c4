-- each kind of step is the machine's event
use Rattle.std.proofs.Common.{◌≡◌, ℕ, zero, suc, ◌+◌, ◌-◌, ◌*◌, ◌<◌, ◌≤◌, ◌≢◌, ⊎_elim, Bool, true, false, not, ◌&&◌, ◌||◌, List, [], ◌∷◌, ◌++◌, length, map, refl, ap, sym, ◌∙◌, subst, eqb, eq-eqb, ne_eqb, nat_lt, arith}
use Rattle.std.specs.Prelude.{Option, Some, None, Ok, Err, Result, slice_index, slice_set, replicate, ◌==◌, if◌then◌else◌}
use Rattle.std.proofs.lemmas.Bool.Decides.{nat_tests}
use Rattle.std.proofs.lemmas.List.{length-set, length-map}
use mathlib.Core.Logic.{dite}
use native.Mathlib.Decide.{ℕ_discrete}
use mathlib.Core.Option.{some, none, some-ne-none, some-injective}
use Rattle.atomic_table.specs.Table.{opening, keeps, takes, gives, stepped}
use Rattle.std.proofs.Math.ListN.{get_elem?}
use Rattle.atomic_table.proofs.Lists.{at_set, set_else}
use Rattle.tile_machine.specs.declared.refused.Refused.{Refused}
use Rattle.std.specs.List.{range_with_len}
use Rattle.tile_machine.specs.State.{State, worker_of, cell_of, with_cell, with_worker, ranging, untouched, first_state}
use Rattle.tile_machine.specs.Next.{next_state, if_next, if_there, unless, provided, names_worker}
use Rattle.tile_machine.specs.declared.state.Cell.{Cell}
use Rattle.tile_machine.specs.declared.state.Worker.{Worker}
use Rattle.tile_machine.specs.declared.event.Event.TheVariants.{Claim, Take, BringOut, Mark, PutBack, Free, Split, Join}
use Rattle.tile_machine.specs.declared.refused.Refused.TheVariants.{NoWorker, NoTile, Claimed, HandsFull, Held, NotHolder, IsOut, IsHome, NotClaimant, Marked, BadRange, StillHolds}
use Rattle.tile_table.specs.declared.view.View.{View}
use Rattle.tile_table.specs.declared.view.Hand.TheVariants.{Empty, Holds}
use Rattle.tile_table.specs.Counts.{bit}
use Rattle.tile_table.specs.Views.{opening_view, claiming, marking, with_claim, with_seen, with_lost, with_known, with_take, with_mark, with_no_hand, lower, upper, joined_views, nobody}
use Rattle.tile_table.specs.Shows.{Table, Shows, Knows, claim_of, lock_of, mark_of}
use Rattle.tile_table.specs.Events.{named, with_views, is_worker, listed, place_held, cell_at, worker_of_view, worker_at, shown, StepsAreEvents, BeginsAsMachine}
use Rattle.tile_table.proofs.Bits.{bit-le, within}
use Rattle.tile_table.proofs.Words.{read-here, read-else, write-same}
use Rattle.tile_table.proofs.FirstState.{zeros}
use Rattle.tile_table.proofs.Hands.{word-of-hand, inside-of-word}
use Rattle.tile_table.proofs.Facts.{own-claim, not-yet, one-seat}
use Rattle.tile_table.proofs.Listed.{choose, named-by, worker-found, same-listed, set-listed, worker-lives, workers-same, workers-else, cell-there}

-- the table of events, one event at a time, where nothing refuses it
claim-next : (a : State) (n i : ℕ) (me : Worker) (it : Cell) → worker_of a n ≡ Some me → cell_of a i ≡ Some it → it.claim ≡ None
    → next_state a (Claim n i) ≡ Ok (with_cell a i (record it { claim = Some n }))
claim-next a n i me it w c f =
    ap (λ o. if_there o NoWorker (λ me. if_there (cell_of a i) NoTile (λ it. unless it.claim Claimed (Ok (with_cell a i (record it { claim = Some n })))))) w
    ∙ ap (λ o. if_there o NoTile (λ it. unless it.claim Claimed (Ok (with_cell a i (record it { claim = Some n }))))) c
    ∙ ap (λ o. unless o Claimed (Ok (with_cell a i (record it { claim = Some n })))) f

claim-refused : (a : State) (n i by : ℕ) (me : Worker) (it : Cell) → worker_of a n ≡ Some me → cell_of a i ≡ Some it → it.claim ≡ Some by → next_state a (Claim n i) ≡ Err (Claimed by)
claim-refused a n i by me it w c f =
    ap (λ o. if_there o NoWorker (λ me. if_there (cell_of a i) NoTile (λ it. unless it.claim Claimed (Ok (with_cell a i (record it { claim = Some n })))))) w
    ∙ ap (λ o. if_there o NoTile (λ it. unless it.claim Claimed (Ok (with_cell a i (record it { claim = Some n }))))) c
    ∙ ap (λ o. unless o Claimed (Ok (with_cell a i (record it { claim = Some n })))) f

named-none : (n x : ℕ) → x < n → named n x ≡ None
named-none n x h = pick (nat_lt x n) (grind (arith, nat_tests))
  where
    pick : (b : Bool) → b ≡ true → (if b then None else Some (x - n)) ≡ None
    pick true e = refl
    pick false e = absurd (grind arith)

named-some : (n x y : ℕ) → x ≡ y + n → named n x ≡ Some y
named-some n x y h = pick (nat_lt x n) (grind (arith, nat_tests))
  where
    pick : (b : Bool) → b ≡ false → (if b then None else Some (x - n)) ≡ Some y
    pick true e = absurd (grind arith)
    pick false e = ap (λ z. Some z) (omega arith)

-- whether the values are inside, with this answer for place j
abbrev placed : (ℕ → Bool) → ℕ → Bool → ℕ → Bool
placed inside j filled i = if i == j then filled else inside i

-- a cell, by its words
abbrev cell_by : ℕ → ℕ → ℕ → Bool → Cell
cell_by claim lock mark inside = record { claim = named 1 claim; lock = named 2 lock; marked = eqb mark 1; home = nat_lt lock 2 || inside }

cells-same : (a b c d e f : ℕ) (x y : Bool) → a ≡ b → c ≡ d → e ≡ f → x ≡ y → cell_by a c e x ≡ cell_by b d f y
cells-same a b c d e f x y p q r t = λ i. cell_by (p i) (q i) (r i) (t i)

states-same : (a b : State) → a.cells ≡ b.cells → a.workers ≡ b.workers → a ≡ b
states-same a b p q = λ i. record { cells = p i; workers = q i }

take-next : (a : State) (n j : ℕ) (me : Worker) (it : Cell) → worker_of a n ≡ Some me → cell_of a j ≡ Some it → me.hand ≡ None → it.lock ≡ None
    → next_state a (Take n j) ≡ Ok (with_worker (with_cell a j (record it { lock = Some n })) n (record me { hand = Some j }))
take-next a n j me it w c h f =
    let done : Worker → Cell → Result State Refused = λ me it. Ok (with_worker (with_cell a j (record it { lock = Some n })) n (record me { hand = Some j })) in
    ap (λ o. if_there o NoWorker (λ me. if_there (cell_of a j) NoTile (λ it. unless me.hand HandsFull (unless it.lock Held (done me it))))) w
    ∙ ap (λ o. if_there o NoTile (λ it. unless me.hand HandsFull (unless it.lock Held (done me it)))) c
    ∙ ap (λ o. unless o HandsFull (unless it.lock Held (done me it))) h
    ∙ ap (λ o. unless o Held (done me it)) f

take-refused : (a : State) (n j h : ℕ) (me : Worker) (it : Cell) → worker_of a n ≡ Some me → cell_of a j ≡ Some it → me.hand ≡ None → it.lock ≡ Some h → next_state a (Take n j) ≡ Err (Held h)
take-refused a n j h me it w c e f =
    let done : Worker → Cell → Result State Refused = λ me it. Ok (with_worker (with_cell a j (record it { lock = Some n })) n (record me { hand = Some j })) in
    ap (λ o. if_there o NoWorker (λ me. if_there (cell_of a j) NoTile (λ it. unless me.hand HandsFull (unless it.lock Held (done me it))))) w
    ∙ ap (λ o. if_there o NoTile (λ it. unless me.hand HandsFull (unless it.lock Held (done me it)))) c
    ∙ ap (λ o. unless o HandsFull (unless it.lock Held (done me it))) e
    ∙ ap (λ o. unless o Held (done me it)) f

-- what stands behind the two first causes
reached : (a : State) (n j : ℕ) (me : Worker) (it : Cell) (rest : Worker → Cell → Result State Refused) → worker_of a n ≡ Some me → cell_of a j ≡ Some it
    → if_there (worker_of a n) NoWorker (λ me. if_there (cell_of a j) NoTile (λ it. rest me it)) ≡ rest me it
reached a n j me it rest w c =
    ap (λ o. if_there o NoWorker (λ me. if_there (cell_of a j) NoTile (λ it. rest me it))) w ∙ ap (λ o. if_there o NoTile (λ it. rest me it)) c

passed : (b : Bool) (r : Refused) (x : Result State Refused) → b ≡ true → provided b r x ≡ x
passed b r x e = ap (λ t. provided t r x) e

names-one : (o : Option ℕ) (n : ℕ) → o ≡ Some n → names_worker o n ≡ true
names-one o n e = ap (λ p. names_worker p n) e ∙ eq-eqb n n refl

true-or : (b c d : Bool) → b ≡ true → (b || c) ≡ (b || d)
true-or true c d e = refl
true-or false c d e = absurd (grind arith)

or-true : (b c : Bool) → c ≡ true → (b || c) ≡ true
or-true true c e = refl
or-true false c e = e

or-false : (b c : Bool) → b ≡ false → c ≡ false → (b || c) ≡ false
or-false true c e f = absurd (grind arith)
or-false false c e f = f

at-place : (inside : ℕ → Bool) (j : ℕ) (b : Bool) → placed inside j b j ≡ b
at-place inside j b = ap (λ t. if t then b else inside j) (eq-eqb j j refl)

off-place : (inside : ℕ → Bool) (j i : ℕ) (b : Bool) → i ≢ j → placed inside j b i ≡ inside i
off-place inside j i b ne = ap (λ t. if t then b else inside i) (ne_eqb i j ne)

high : (n x : ℕ) → n ≡ x + 2 → nat_lt n 2 ≡ false
high n x e = grind (arith, nat_tests)

module _ {V : Type 0} where
  knows-set : (l : List V) (k : ℕ) (v w : V) → get_elem? l k ≡ some v → get_elem? (slice_set l k w) k ≡ some w
  knows-set [] k v w at = absurd (some-ne-none v (sym at))
  knows-set (x ∷ xs) zero v w at = refl
  knows-set (x ∷ xs) (suc k) v w at = knows-set xs k v w at

module _ {T : Type 0} where
  -- the worker of a seat whose view has changed
  worker-new : (s : Table T) → Shows s → (k : ℕ) (v w : View T) → Knows s k v → v.first < v.end → w.first ≡ v.first → w.end ≡ v.end → worker_at (slice_set s.views k w) v.first ≡ worker_of_view w
  worker-new s sh k v w at live e f =
      subst (λ n. worker_at (slice_set s.views k w) n ≡ worker_of_view w) e
      (worker-found (slice_set s.views k w) k w (knows-set s.views k v w at) (omega (arith, e, f, live))
      (λ j u bt t. ⊎_elim (λ q. q.0)
      (λ q. let n = named-by u w.first t in
      one-seat s sh k j v.first v u at q.1 (omega (arith, within v.first v.first v.end (omega arith) live)) (omega (arith, within u.first v.first u.end (omega (arith, n.0, e)) (omega (arith, n.0, n.1, e)))))
      (at_set s.views k j w u bt)))

  claim-event : (s : Table T) → (sh : Shows s) → (k : ℕ) (v : View T) (i : ℕ) (inside : ℕ → Bool) (c : List (ℕ × Option T)) → Knows s k v → v.first < v.end → i < length s.homes → claim_of s i ≡ 0
      → next_state (shown sh.workers inside s) (Claim v.first i) ≡ Ok (shown sh.workers inside (stepped s (3 * i) (v.first + 1) k c (with_claim v i) keeps))
  claim-event s sh k v i inside c at live there free =
      let n : ℕ = v.first in
      let a : State = shown sh.workers inside s in
      let t : Table T = stepped s (3 * i) (n + 1) k c (with_claim v i) keeps in
      let it : Cell = cell_at s inside i in
      let word : 3 * i < length s.words = omega (arith, sh.one_world.words, there) in
      let kept : (b : ℕ) → b ≢ 3 * i → slice_index t.words b ≡ slice_index s.words b = λ b ne. read-else s.words (3 * i) b (n + 1) ne in
      let here : claim_of t i ≡ n + 1 = read-here s.words (3 * i) (n + 1) word in
      let lock : (j : ℕ) → lock_of t j ≡ lock_of s j = λ j. kept (3 * j + 1) (λ e. omega arith) in
      let mark : (j : ℕ) → mark_of t j ≡ mark_of s j = λ j. kept (3 * j + 2) (λ e. omega arith) in
      let new : record it { claim = Some n } ≡ cell_at t inside i =
      (λ x. record { claim = sym (named-some 1 (claim_of t i) n here) x; lock = named 2 (sym (lock i) x); marked = eqb (sym (mark i) x) 1; home = nat_lt (sym (lock i) x) 2 || inside i }) in
      claim-next a n i (worker_of_view v) it (worker-lives s sh inside k v at live) (cell-there s sh.workers inside i there) (named-none 1 (claim_of s i) (omega (arith, free)))
      ∙ ap (λ z. Ok z)
      (states-same (with_cell a i (record it { claim = Some n })) (shown sh.workers inside t)
      (set-listed (cell_at s inside) (cell_at t inside) 0 (length s.homes) i (record it { claim = Some n }) (new ∙ ap (cell_at t inside) (omega arith))
      (λ j ne. cells-same (claim_of s j) (claim_of t j) (lock_of s j) (lock_of t j) (mark_of s j) (mark_of t j) (inside j) (inside j) (sym (kept (3 * j) (λ e. ne (omega (arith, e))))) (sym (lock j)) (sym (mark j)) refl))
      (same-listed (worker_at s.views) (worker_at t.views) 0 sh.workers (λ j le. sym (workers-same s.views k v (with_claim v i) at refl j))))

  claimed-event : (s : Table T) → (sh : Shows s) → (k : ℕ) (v : View T) (i by : ℕ) (inside : ℕ → Bool) → Knows s k v → v.first < v.end → i < length s.homes → claim_of s i ≡ by + 1
      → next_state (shown sh.workers inside s) (Claim v.first i) ≡ Err (Claimed by)
  claimed-event s sh k v i by inside at live there found =
      claim-refused (shown sh.workers inside s) v.first i by (worker_of_view v) (cell_at s inside i) (worker-lives s sh inside k v at live) (cell-there s sh.workers inside i there) (named-some 1 (claim_of s i) by found)

  held-event : (s : Table T) → (sh : Shows s) → (k : ℕ) (v : View T) (j h : ℕ) (inside : ℕ → Bool) → Knows s k v → v.first < v.end → j < length s.homes → v.hand ≡ Empty → lock_of s j ≡ h + 2
      → next_state (shown sh.workers inside s) (Take v.first j) ≡ Err (Held h)
  held-event s sh k v j h inside at live there empty found =
      take-refused (shown sh.workers inside s) v.first j h (worker_of_view v) (cell_at s inside j) (worker-lives s sh inside k v at live) (cell-there s sh.workers inside j there) (ap place_held empty) (named-some 2 (lock_of s j) h found)

  take-event : (s : Table T) → (sh : Shows s) → (k : ℕ) (v : View T) (j : ℕ) (m : Bool) (y : Option T) (inside : ℕ → Bool) (c : List (ℕ × Option T)) → Knows s k v → v.first < v.end → j < length s.homes → v.hand ≡ Empty → lock_of s j ≡ bit m
      → next_state (shown sh.workers (placed inside j true) s) (Take v.first j) ≡ Ok (shown sh.workers (placed inside j true) (stepped s (3 * j + 1) (v.first + 2) k c (with_take v j m) (takes j y)))
  take-event s sh k v j m y inside c at live there empty free =
      let n : ℕ = v.first in
      let filled : ℕ → Bool = placed inside j true in
      let a : State = shown sh.workers filled s in
      let t : Table T = stepped s (3 * j + 1) (n + 2) k c (with_take v j m) (takes j y) in
      let it : Cell = cell_at s filled j in
      let me : Worker = worker_of_view v in
      let le : bit m ≤ 1 = bit-le m in
      let word : 3 * j + 1 < length s.words = omega (arith, sh.one_world.words, there) in
      let kept : (b : ℕ) → b ≢ 3 * j + 1 → slice_index t.words b ≡ slice_index s.words b = λ b ne. read-else s.words (3 * j + 1) b (n + 2) ne in
      let here : lock_of t j ≡ n + 2 = read-here s.words (3 * j + 1) (n + 2) word in
      let claim : (i : ℕ) → claim_of t i ≡ claim_of s i = λ i. kept (3 * i) (λ e. omega arith) in
      let mark : (i : ℕ) → mark_of t i ≡ mark_of s i = λ i. kept (3 * i + 2) (λ e. omega arith) in
      let in_slot : filled j ≡ true = at-place inside j true in
      let home : (nat_lt (lock_of s j) 2 || filled j) ≡ (nat_lt (lock_of t j) 2 || filled j) = or-true (nat_lt (lock_of s j) 2) (filled j) in_slot ∙ sym (or-true (nat_lt (lock_of t j) 2) (filled j) in_slot) in
      let new : record it { lock = Some n } ≡ cell_at t filled j =
      (λ x. record { claim = named 1 (sym (claim j) x); lock = sym (named-some 2 (lock_of t j) n here) x; marked = eqb (sym (mark j) x) 1; home = home x }) in
      take-next a n j me it (worker-lives s sh filled k v at live) (cell-there s sh.workers filled j there) (ap place_held empty) (named-none 2 (lock_of s j) (omega (arith, free, le)))
      ∙ ap (λ z. Ok z)
      (states-same (with_worker (with_cell a j (record it { lock = Some n })) n (record me { hand = Some j })) (shown sh.workers filled t)
      (set-listed (cell_at s filled) (cell_at t filled) 0 (length s.homes) j (record it { lock = Some n }) (new ∙ ap (cell_at t filled) (omega arith))
      (λ i ne. cells-same (claim_of s i) (claim_of t i) (lock_of s i) (lock_of t i) (mark_of s i) (mark_of t i) (filled i) (filled i) (sym (claim i)) (sym (kept (3 * i + 1) (λ e. ne (omega (arith, e))))) (sym (mark i)) refl)
      ∙ ap (λ x. listed (cell_at t filled) 0 x) (sym (length-set s.homes j none)))
      (set-listed (worker_at s.views) (worker_at t.views) 0 sh.workers n (record me { hand = Some j })
      (sym (worker-new s sh k v (with_take v j m) at live refl refl) ∙ ap (worker_at t.views) (omega arith))
      (λ i ne. sym (workers-else s.views k v (with_take v j m) at refl i (λ e. ne (omega (arith, e)))))))

  bring-event : (s : Table T) → (sh : Shows s) → (k : ℕ) (v : View T) (j : ℕ) (m : Bool) (inside : ℕ → Bool) → Knows s k v → v.first < v.end → v.hand ≡ Holds j m
      → next_state (shown sh.workers (placed inside j true) s) (BringOut v.first j) ≡ Ok (shown sh.workers (placed inside j false) s)
  bring-event s sh k v j m inside at live has =
      let n : ℕ = v.first in
      let filled : ℕ → Bool = placed inside j true in
      let out : ℕ → Bool = placed inside j false in
      let a : State = shown sh.workers filled s in
      let it : Cell = cell_at s filled j in
      let was : lock_of s j ≡ n + 2 = word-of-hand s sh k v j m at has in
      let there : j < length s.homes = inside-of-word s sh j n was in
      let home : it.home ≡ true = or-true (nat_lt (lock_of s j) 2) (filled j) (at-place inside j true) in
      let gone : false ≡ (nat_lt (lock_of s j) 2 || out j) = sym (or-false (nat_lt (lock_of s j) 2) (out j) (high (lock_of s j) n was) (at-place inside j false)) in
      let new : record it { home = false } ≡ cell_at s out j = (λ x. record { claim = it.claim; lock = it.lock; marked = it.marked; home = gone x }) in
      reached a n j (worker_of_view v) it (λ me it. provided (names_worker it.lock n) NotHolder (provided it.home IsOut (Ok (with_cell a j (record it { home = false }))))) (worker-lives s sh filled k v at live) (cell-there s sh.workers filled j there)
      ∙ passed (names_worker it.lock n) NotHolder (provided it.home IsOut (Ok (with_cell a j (record it { home = false })))) (names-one it.lock n (named-some 2 (lock_of s j) n was))
      ∙ passed it.home IsOut (Ok (with_cell a j (record it { home = false }))) home
      ∙ ap (λ z. Ok z)
      (states-same (with_cell a j (record it { home = false })) (shown sh.workers out s)
      (set-listed (cell_at s filled) (cell_at s out) 0 (length s.homes) j (record it { home = false }) (new ∙ ap (cell_at s out) (omega arith))
      (λ i ne. cells-same (claim_of s i) (claim_of s i) (lock_of s i) (lock_of s i) (mark_of s i) (mark_of s i) (filled i) (out i) refl refl refl (off-place inside j i true (λ e. ne (omega (arith, e))) ∙ sym (off-place inside j i false (λ e. ne (omega (arith, e)))))))
      refl)

  put-event : (s : Table T) → (sh : Shows s) → (k : ℕ) (v : View T) (j : ℕ) (m : Bool) (inside : ℕ → Bool) → Knows s k v → v.first < v.end → v.hand ≡ Holds j m
      → next_state (shown sh.workers (placed inside j false) s) (PutBack v.first j) ≡ Ok (shown sh.workers (placed inside j true) s)
  put-event s sh k v j m inside at live has =
      let n : ℕ = v.first in
      let filled : ℕ → Bool = placed inside j true in
      let out : ℕ → Bool = placed inside j false in
      let a : State = shown sh.workers out s in
      let it : Cell = cell_at s out j in
      let was : lock_of s j ≡ n + 2 = word-of-hand s sh k v j m at has in
      let there : j < length s.homes = inside-of-word s sh j n was in
      let gone : not it.home ≡ true = ap not (or-false (nat_lt (lock_of s j) 2) (out j) (high (lock_of s j) n was) (at-place inside j false)) in
      let home : true ≡ (nat_lt (lock_of s j) 2 || filled j) = sym (or-true (nat_lt (lock_of s j) 2) (filled j) (at-place inside j true)) in
      let new : record it { home = true } ≡ cell_at s filled j = (λ x. record { claim = it.claim; lock = it.lock; marked = it.marked; home = home x }) in
      reached a n j (worker_of_view v) it (λ me it. provided (names_worker it.lock n) NotHolder (provided (not it.home) IsHome (Ok (with_cell a j (record it { home = true }))))) (worker-lives s sh out k v at live) (cell-there s sh.workers out j there)
      ∙ passed (names_worker it.lock n) NotHolder (provided (not it.home) IsHome (Ok (with_cell a j (record it { home = true })))) (names-one it.lock n (named-some 2 (lock_of s j) n was))
      ∙ passed (not it.home) IsHome (Ok (with_cell a j (record it { home = true }))) gone
      ∙ ap (λ z. Ok z)
      (states-same (with_cell a j (record it { home = true })) (shown sh.workers filled s)
      (set-listed (cell_at s out) (cell_at s filled) 0 (length s.homes) j (record it { home = true }) (new ∙ ap (cell_at s filled) (omega arith))
      (λ i ne. cells-same (claim_of s i) (claim_of s i) (lock_of s i) (lock_of s i) (mark_of s i) (mark_of s i) (out i) (filled i) refl refl refl (off-place inside j i false (λ e. ne (omega (arith, e))) ∙ sym (off-place inside j i true (λ e. ne (omega (arith, e)))))))
      refl)

  mark-event : (s : Table T) → (sh : Shows s) → (k : ℕ) (v : View T) (j : ℕ) (m : Bool) (inside : ℕ → Bool) (c : List (ℕ × Option T)) → Knows s k v → v.first < v.end → v.hand ≡ Holds j m → 0 < claiming v.first j v → marking j v ≡ 0
      → next_state (shown sh.workers (placed inside j false) s) (Mark v.first j) ≡ Ok (shown sh.workers (placed inside j false) (stepped s (3 * j + 2) 1 k c (with_mark v j) keeps))
  mark-event s sh k v j m inside c at live has mine nil =
      let n : ℕ = v.first in
      let out : ℕ → Bool = placed inside j false in
      let a : State = shown sh.workers out s in
      let t : Table T = stepped s (3 * j + 2) 1 k c (with_mark v j) keeps in
      let it : Cell = cell_at s out j in
      let was : lock_of s j ≡ n + 2 = word-of-hand s sh k v j m at has in
      let there : j < length s.homes = inside-of-word s sh j n was in
      let word : 3 * j + 2 < length s.words = omega (arith, sh.one_world.words, there) in
      let kept : (b : ℕ) → b ≢ 3 * j + 2 → slice_index t.words b ≡ slice_index s.words b = λ b ne. read-else s.words (3 * j + 2) b 1 ne in
      let here : mark_of t j ≡ 1 = read-here s.words (3 * j + 2) 1 word in
      let claim : (i : ℕ) → claim_of t i ≡ claim_of s i = λ i. kept (3 * i) (λ e. omega arith) in
      let lock : (i : ℕ) → lock_of t i ≡ lock_of s i = λ i. kept (3 * i + 1) (λ e. omega arith) in
      let gone : not it.home ≡ true = ap not (or-false (nat_lt (lock_of s j) 2) (out j) (high (lock_of s j) n was) (at-place inside j false)) in
      let clear : not it.marked ≡ true = ap (λ x. not (eqb x 1)) (not-yet s sh k v j at mine nil) in
      let set : true ≡ eqb (mark_of t j) 1 = sym (eq-eqb (mark_of t j) 1 here) in
      let hand : place_held (Holds j true) ≡ place_held v.hand = ap place_held (sym has) in
      let same : worker_of_view (with_mark v j) ≡ worker_of_view v = (λ x. record { first = v.first; end = v.end; hand = hand x }) in
      let new : record it { marked = true } ≡ cell_at t out j =
      (λ x. record { claim = named 1 (sym (claim j) x); lock = named 2 (sym (lock j) x); marked = set x; home = nat_lt (sym (lock j) x) 2 || out j }) in
      let done : Result State Refused = Ok (with_cell a j (record it { marked = true })) in
      reached a n j (worker_of_view v) it (λ me it. provided (names_worker it.lock n) NotHolder (provided (not it.home) IsHome (provided (names_worker it.claim n) NotClaimant (provided (not it.marked) Marked (Ok (with_cell a j (record it { marked = true }))))))) (worker-lives s sh out k v at live) (cell-there s sh.workers out j there)
      ∙ passed (names_worker it.lock n) NotHolder (provided (not it.home) IsHome (provided (names_worker it.claim n) NotClaimant (provided (not it.marked) Marked done))) (names-one it.lock n (named-some 2 (lock_of s j) n was))
      ∙ passed (not it.home) IsHome (provided (names_worker it.claim n) NotClaimant (provided (not it.marked) Marked done)) gone
      ∙ passed (names_worker it.claim n) NotClaimant (provided (not it.marked) Marked done) (names-one it.claim n (named-some 1 (claim_of s j) n (own-claim s sh k v n j at mine)))
      ∙ passed (not it.marked) Marked done clear
      ∙ ap (λ z. Ok z)
      (states-same (with_cell a j (record it { marked = true })) (shown sh.workers out t)
      (set-listed (cell_at s out) (cell_at t out) 0 (length s.homes) j (record it { marked = true }) (new ∙ ap (cell_at t out) (omega arith))
      (λ i ne. cells-same (claim_of s i) (claim_of t i) (lock_of s i) (lock_of t i) (mark_of s i) (mark_of t i) (out i) (out i) (sym (claim i)) (sym (lock i)) (sym (kept (3 * i + 2) (λ e. ne (omega (arith, e))))) refl))
      (same-listed (worker_at s.views) (worker_at t.views) 0 sh.workers (λ i le. sym (workers-same s.views k v (with_mark v j) at same i))))

  free-event : (s : Table T) → (sh : Shows s) → (k : ℕ) (v : View T) (j : ℕ) (m : Bool) (y : Option T) (inside : ℕ → Bool) (c : List (ℕ × Option T)) → Knows s k v → v.first < v.end → v.hand ≡ Holds j m
      → next_state (shown sh.workers (placed inside j true) s) (Free v.first j) ≡ Ok (shown sh.workers (placed inside j true) (stepped s (3 * j + 1) (bit m) k ((j, y) ∷ c) (with_no_hand v) gives))
  free-event s sh k v j m y inside c at live has =
      let n : ℕ = v.first in
      let filled : ℕ → Bool = placed inside j true in
      let a : State = shown sh.workers filled s in
      let t : Table T = stepped s (3 * j + 1) (bit m) k ((j, y) ∷ c) (with_no_hand v) gives in
      let it : Cell = cell_at s filled j in
      let me : Worker = worker_of_view v in
      let le : bit m ≤ 1 = bit-le m in
      let was : lock_of s j ≡ n + 2 = word-of-hand s sh k v j m at has in
      let there : j < length s.homes = inside-of-word s sh j n was in
      let word : 3 * j + 1 < length s.words = omega (arith, sh.one_world.words, there) in
      let kept : (b : ℕ) → b ≢ 3 * j + 1 → slice_index t.words b ≡ slice_index s.words b = λ b ne. read-else s.words (3 * j + 1) b (bit m) ne in
      let here : lock_of t j ≡ bit m = read-here s.words (3 * j + 1) (bit m) word in
      let claim : (i : ℕ) → claim_of t i ≡ claim_of s i = λ i. kept (3 * i) (λ e. omega arith) in
      let mark : (i : ℕ) → mark_of t i ≡ mark_of s i = λ i. kept (3 * i + 2) (λ e. omega arith) in
      let in_slot : filled j ≡ true = at-place inside j true in
      let full : it.home ≡ true = or-true (nat_lt (lock_of s j) 2) (filled j) in_slot in
      let home : it.home ≡ (nat_lt (lock_of t j) 2 || filled j) = full ∙ sym (or-true (nat_lt (lock_of t j) 2) (filled j) in_slot) in
      let new : record it { lock = None } ≡ cell_at t filled j =
      (λ x. record { claim = named 1 (sym (claim j) x); lock = sym (named-none 2 (lock_of t j) (omega (arith, here, le))) x; marked = eqb (sym (mark j) x) 1; home = home x }) in
      let after : Worker → Cell → Result State Refused = λ me it. Ok (with_worker (with_cell a j (record it { lock = None })) n (record me { hand = None })) in
      reached a n j me it (λ me it. provided (names_worker it.lock n) NotHolder (provided it.home IsOut (after me it))) (worker-lives s sh filled k v at live) (cell-there s sh.workers filled j there)
      ∙ passed (names_worker it.lock n) NotHolder (provided it.home IsOut (after me it)) (names-one it.lock n (named-some 2 (lock_of s j) n was))
      ∙ passed it.home IsOut (after me it) full
      ∙ ap (λ z. Ok z)
      (states-same (with_worker (with_cell a j (record it { lock = None })) n (record me { hand = None })) (shown sh.workers filled t)
      (set-listed (cell_at s filled) (cell_at t filled) 0 (length s.homes) j (record it { lock = None }) (new ∙ ap (cell_at t filled) (omega arith))
      (λ i ne. cells-same (claim_of s i) (claim_of t i) (lock_of s i) (lock_of t i) (mark_of s i) (mark_of t i) (filled i) (filled i) (sym (claim i)) (sym (kept (3 * i + 1) (λ e. ne (omega (arith, e))))) (sym (mark i)) refl)
      ∙ ap (λ x. listed (cell_at t filled) 0 x) (sym (length-set s.homes j (some y))))
      (set-listed (worker_at s.views) (worker_at t.views) 0 sh.workers n (record me { hand = None })
      (sym (worker-new s sh k v (with_no_hand v) at live refl refl) ∙ ap (worker_at t.views) (omega arith))
      (λ i ne. sym (workers-else s.views k v (with_no_hand v) at refl i (λ e. ne (omega (arith, e)))))))

  none-found : (l : List (View T)) (n : ℕ) → ((j : ℕ) (u : View T) → get_elem? l j ≡ some u → is_worker n u ≡ true → ⊥) → worker_at l n ≡ ranging n n
  none-found [] n h = refl
  none-found (x ∷ xs) n h =
      choose (is_worker n x) (worker_of_view x) (worker_at xs n) (ranging n n) (λ t. absurd (h zero x refl t)) (λ f. none-found xs n (λ j u at t. h (suc j) u at t))

  last-found : (l : List (View T)) (n : ℕ) (u : View T) → is_worker n u ≡ true → ((j : ℕ) (y : View T) → get_elem? l j ≡ some y → is_worker n y ≡ true → ⊥) → worker_at (l ++ u ∷ []) n ≡ worker_of_view u
  last-found [] n u e h = choose (is_worker n u) (worker_of_view u) (ranging n n) (worker_of_view u) (λ t. refl) (λ f. absurd (grind (arith, e, f)))
  last-found (x ∷ xs) n u e h =
      choose (is_worker n x) (worker_of_view x) (worker_at (xs ++ u ∷ []) n) (worker_of_view u) (λ t. absurd (h zero x refl t)) (λ f. last-found xs n u e (λ j y at t. h (suc j) y at t))

  last-off : (l : List (View T)) (n : ℕ) (u : View T) → n ≢ u.first → worker_at (l ++ u ∷ []) n ≡ worker_at l n
  last-off [] n u ne = choose (is_worker n u) (worker_of_view u) (ranging n n) (ranging n n) (λ t. absurd (ne (sym ((named-by u n t).0)))) (λ f. refl)
  last-off (x ∷ xs) n u ne = ap (λ y. if is_worker n x then worker_of_view x else y) (last-off xs n u ne)

  -- a view is replaced by one that has no number
  gone-off : (l : List (View T)) (k n : ℕ) (w : View T) → get_elem? l k ≡ some w → n ≢ w.first → worker_at (slice_set l k nobody) n ≡ worker_at l n
  gone-off [] k n w at ne = refl
  gone-off (x ∷ xs) zero n w at ne =
      let q : x.first ≡ w.first = ap (λ u. u.first) (some-injective x w at) in
      choose (is_worker {T = T} n nobody) (worker_of_view {T = T} nobody) (worker_at xs n) (worker_at (x ∷ xs) n)
      (λ t. let h = named-by {T = T} nobody n t in absurd (omega (arith, h.1)))
      (λ f. sym (choose (is_worker n x) (worker_of_view x) (worker_at xs n) (worker_at xs n) (λ t. absurd (ne (sym ((named-by x n t).0) ∙ q))) (λ g. refl)))
  gone-off (x ∷ xs) (suc k) n w at ne = ap (λ y. if is_worker n x then worker_of_view x else y) (gone-off xs k n w at ne)

  -- the worker of a seat whose range has changed
  worker-grown : (s : Table T) → Shows s → (k : ℕ) (v w : View T) → Knows s k v → v.first < v.end → w.first ≡ v.first → w.first < w.end → worker_at (slice_set s.views k w) v.first ≡ worker_of_view w
  worker-grown s sh k v w at live e alive =
      subst (λ n. worker_at (slice_set s.views k w) n ≡ worker_of_view w) e
      (worker-found (slice_set s.views k w) k w (knows-set s.views k v w at) alive
      (λ j u bt t. ⊎_elim (λ q. q.0)
      (λ q. let n = named-by u w.first t in
      one-seat s sh k j v.first v u at q.1 (omega (arith, within v.first v.first v.end (omega arith) live)) (omega (arith, within u.first v.first u.end (omega (arith, n.0, e)) (omega (arith, n.0, n.1, e)))))
      (at_set s.views k j w u bt)))

  split-event : (s : Table T) → (sh : Shows s) → (k : ℕ) (v : View T) (x : ℕ) (inside : ℕ → Bool) → Knows s k v → v.first < x → x < v.end
      → next_state (shown sh.workers inside s) (Split v.first x) ≡ Ok (shown sh.workers inside (with_views s (slice_set s.views k (lower x v) ++ upper x v ∷ [])))
  split-event s sh k v x inside at above below =
      let n : ℕ = v.first in
      let a : State = shown sh.workers inside s in
      let me : Worker = worker_of_view v in
      let live : v.first < v.end = omega (arith, above, below) in
      let cut : List (View T) = slice_set s.views k (lower x v) in
      let all : List (View T) = cut ++ upper x v ∷ [] in
      let done : Worker → Result State Refused = λ me. Ok (with_worker (with_worker a n (record me { end = x })) x (ranging x me.end)) in
      let alone : (j : ℕ) (u : View T) → get_elem? cut j ≡ some u → is_worker x u ≡ true → ⊥ =
      λ j u bt t. let h = named-by u x t in
      ⊎_elim (λ q. let e : n ≡ u.first = ap (λ y. y.first) q.1 in omega (arith, e, h.0, above))
      (λ q. q.0 (one-seat s sh k j x v u at q.1 (omega (arith, within v.first x v.end (omega (arith, above)) below)) (omega (arith, within u.first x u.end (omega (arith, h.0)) (omega (arith, h.0, h.1))))))
      (at_set s.views k j (lower x v) u bt) in
      ap (λ o. if_there o NoWorker (λ me. provided (nat_lt me.first x && nat_lt x me.end) BadRange (done me))) (worker-lives s sh inside k v at live)
      ∙ passed (nat_lt me.first x && nat_lt x me.end) BadRange (done me) (grind (arith, nat_tests))
      ∙ ap (λ z. Ok z)
      (states-same (with_worker (with_worker a n (record me { end = x })) x (ranging x me.end)) (shown sh.workers inside (with_views s all)) refl
      (ap (λ ws. slice_set ws x (ranging x v.end))
      (set-listed (worker_at s.views) (worker_at cut) 0 sh.workers n (record me { end = x })
      (sym (worker-grown s sh k v (lower x v) at live refl above) ∙ ap (worker_at cut) (omega arith))
      (λ i ne. sym (workers-else s.views k v (lower x v) at refl i (λ e. ne (omega (arith, e))))))
      ∙ set-listed (worker_at cut) (worker_at all) 0 sh.workers x (ranging x v.end)
      (sym (last-found cut x (upper x v) (grind (arith, nat_tests)) alone) ∙ ap (worker_at all) (omega arith))
      (λ i ne. sym (last-off cut i (upper x v) (λ e. ne (omega (arith, e)))))))

  join-event : (s : Table T) → (sh : Shows s) → (k other : ℕ) (v w : View T) (inside : ℕ → Bool) → Knows s k v → Knows s other w → other ≢ k → v.first < v.end → w.first < w.end → w.first ≡ v.end → w.hand ≡ Empty
      → next_state (shown sh.workers inside s) (Join v.first w.first) ≡ Ok (shown sh.workers inside (with_views s (slice_set (slice_set s.views k (joined_views v w)) other nobody)))
  join-event s sh k other v w inside at bt apart live alive follows empty =
      let n : ℕ = v.first in
      let a : State = shown sh.workers inside s in
      let me : Worker = worker_of_view v in
      let its : Worker = worker_of_view w in
      let both : View T = joined_views v w in
      let grown : List (View T) = slice_set s.views k both in
      let left : List (View T) = slice_set grown other nobody in
      let ct : get_elem? grown other ≡ some w = set_else s.views k other both apart ∙ bt in
      let done : Worker → Worker → Result State Refused = λ me its. Ok (with_worker (with_worker a n (record me { end = its.end })) w.first (ranging its.first its.first)) in
      let nobody-left : (j : ℕ) (u : View T) → get_elem? left j ≡ some u → is_worker w.first u ≡ true → ⊥ =
      λ j u dt t. let h = named-by u w.first t in
      ⊎_elim (λ q. let e : 0 ≡ u.end = ap (λ y. y.end) q.1 in omega (arith, e, h.1))
      (λ q. ⊎_elim (λ r. let e : n ≡ u.first = ap (λ y. y.first) r.1 in omega (arith, e, h.0, follows, live))
      (λ r. q.0 (one-seat s sh other j w.first w u bt r.1 (omega (arith, within w.first w.first w.end (omega arith) alive)) (omega (arith, within u.first w.first u.end (omega (arith, h.0)) (omega (arith, h.0, h.1))))))
      (at_set s.views k j both u q.1))
      (at_set grown other j nobody u dt) in
      ap (λ o. if_there o NoWorker (λ me. if_there (if_next me (worker_of a w.first)) BadRange (λ its. unless its.hand StillHolds (done me its)))) (worker-lives s sh inside k v at live)
      ∙ ap (λ o. if_there (if_next me o) BadRange (λ its. unless its.hand StillHolds (done me its))) (worker-lives s sh inside other w bt alive)
      ∙ ap (λ t. if_there (if t then Some its else None) BadRange (λ its. unless its.hand StillHolds (done me its))) (eq-eqb w.first v.end follows)
      ∙ ap (λ o. unless o StillHolds (done me its)) (ap place_held empty)
      ∙ ap (λ z. Ok z)
      (states-same (with_worker (with_worker a n (record me { end = w.end })) w.first (ranging w.first w.first)) (shown sh.workers inside (with_views s left)) refl
      (ap (λ ws. slice_set ws w.first (ranging w.first w.first))
      (set-listed (worker_at s.views) (worker_at grown) 0 sh.workers n (record me { end = w.end })
      (sym (worker-grown s sh k v both at live refl (omega (arith, live, follows, alive))) ∙ ap (worker_at grown) (omega arith))
      (λ i ne. sym (workers-else s.views k v both at refl i (λ e. ne (omega (arith, e))))))
      ∙ set-listed (worker_at grown) (worker_at left) 0 sh.workers w.first (ranging w.first w.first)
      (sym (none-found left w.first nobody-left) ∙ ap (worker_at left) (omega arith))
      (λ i ne. sym (gone-off grown other i w ct (λ e. ne (omega (arith, e)))))))

  -- the seat knows more, and the word keeps its number: what is shown is the same
  still-shown : (s : Table T) (workers k word n : ℕ) (v w : View T) (inside : ℕ → Bool) (c : List (ℕ × Option T)) → Knows s k v → slice_index s.words word ≡ n
      → worker_of_view w ≡ worker_of_view v → shown workers inside (stepped s word n k c w keeps) ≡ shown workers inside s
  still-shown s workers k word n v w inside c at found same =
      ap (λ ws. shown workers inside record { words = ws; homes = s.homes; views = slice_set s.views k w }) (write-same s.words word n found)
      ∙ states-same (shown workers inside record { words = s.words; homes = s.homes; views = slice_set s.views k w }) (shown workers inside s) refl
      (same-listed (worker_at (slice_set s.views k w)) (worker_at s.views) 0 workers (λ i le. workers-same s.views k v w at same i))

  -- where the lock is free, the value is at home whatever the slots out with seats say
  home-shown : (s : Table T) (workers j : ℕ) (inside : ℕ → Bool) → lock_of s j < 2 → shown workers inside s ≡ shown workers (placed inside j true) s
  home-shown s workers j inside free =
      states-same (shown workers inside s) (shown workers (placed inside j true) s)
      (same-listed (cell_at s inside) (cell_at s (placed inside j true)) 0 (length s.homes)
      (λ i le. dite (ℕ_discrete i j)
      (λ e. λ x. record { claim = named 1 (claim_of s i); lock = named 2 (lock_of s i); marked = eqb (mark_of s i) 1; home = at-home i (subst (λ n. lock_of s n < 2) (sym e) free) x })
      (λ ne. cells-same (claim_of s i) (claim_of s i) (lock_of s i) (lock_of s i) (mark_of s i) (mark_of s i) (inside i) (placed inside j true i) refl refl refl (sym (off-place inside j i true ne)))))
      refl
    where
      at-home : (i : ℕ) → lock_of s i < 2 → (nat_lt (lock_of s i) 2 || inside i) ≡ (nat_lt (lock_of s i) 2 || placed inside j true i)
      at-home i low = let low_test : nat_lt (lock_of s i) 2 ≡ true = grind (arith, nat_tests) in true-or (nat_lt (lock_of s i) 2) (inside i) (placed inside j true i) low_test

  pub events : (s : Table T) → (sh : Shows s) → StepsAreEvents s sh.workers
  events s sh =
      record {
        claim = claim-event s sh;
        claimed = λ k v i by inside c at live there found. (
          claimed-event s sh k v i by inside at live there found,
          still-shown s sh.workers k (3 * i) (by + 1) v (with_seen v i by) inside c at found refl,
        );
        unclaimed = λ k v i inside c at found. still-shown s sh.workers k (3 * i) 0 v v inside c at found refl;
        take = λ k v j m t inside c at live there empty free.
            ap (λ a. next_state a (Take v.first j)) (home-shown s sh.workers j inside (let le : bit m ≤ 1 = bit-le m in omega (arith, free, le)))
            ∙ take-event s sh k v j m (Some t) inside c at live there empty free;
        held = λ k v j h inside c at live there empty found. (
          held-event s sh k v j h inside at live there empty found,
          still-shown s sh.workers k (3 * j + 1) (h + 2) v (with_lost v j h) inside c at found refl,
        );
        read_marked = λ k v j inside c at found. still-shown s sh.workers k (3 * j + 1) 1 v (with_known v j) inside c at found refl;
        bring_out = λ k v j m t inside at live has. bring-event s sh k v j m inside at live has;
        mark = λ k v j m inside at live has mine nil. mark-event s sh k v j m inside ((j, None) ∷ []) at live has mine nil;
        put_back = λ k v j m t inside at live has. put-event s sh k v j m inside at live has;
        free = λ k v j m t inside at live has.
            free-event s sh k v j m (Some t) inside [] at live has
            ∙ ap (λ a. Ok a) (sym (home-shown (stepped s (3 * j + 1) (bit m) k ((j, Some t) ∷ []) (with_no_hand v) gives) sh.workers j inside (freed-low s sh k v j m t at has)));
        split = split-event s sh;
        join = join-event s sh;
      }
    where
      freed-low : (s : Table T) → (sh : Shows s) → (k : ℕ) (v : View T) (j : ℕ) (m : Bool) (t : T) → Knows s k v → v.hand ≡ Holds j m
          → lock_of (stepped s (3 * j + 1) (bit m) k ((j, Some t) ∷ []) (with_no_hand v) gives) j < 2
      freed-low s sh k v j m t at has =
          let there : j < length s.homes = inside-of-word s sh j v.first (word-of-hand s sh k v j m at has) in
          let le : bit m ≤ 1 = bit-le m in
          omega (arith, read-here s.words (3 * j + 1) (bit m) (omega (arith, sh.one_world.words, there)), le)

-- a list of one thing
all-one : {A : Type 0} (f : ℕ → A) (x : A) (i n : ℕ) → ((k : ℕ) → f k ≡ x) → listed f i n ≡ replicate n x
all-one f x i zero h = refl
all-one f x i (suc n) h = ap (λ y. y ∷ listed f (suc i) n) (h i) ∙ ap (λ ys. x ∷ ys) (all-one f x (suc i) n h)

-- numbers in a row
all-idle : {A : Type 0} (f g : ℕ → A) (i n : ℕ) → ((k : ℕ) → i ≤ k → f k ≡ g k) → listed f i n ≡ map g (range_with_len i n)
all-idle f g i zero h = refl
all-idle f g i (suc n) h = ap (λ y. y ∷ listed f (suc i) n) (h i (omega arith)) ∙ ap (λ ys. g i ∷ ys) (all-idle f g (suc i) n (λ k le. h k (omega arith)) ∙ ap (λ k. map g (range_with_len k n)) (omega arith))

module _ {T : Type 0} where
  untouched-at : (world goal : List T) (workers : ℕ) (inside : ℕ → Bool) (i : ℕ)
      → cell_at (opening (replicate (3 * length world) 0) (map Some world) (opening_view world goal workers)) inside i ≡ untouched
  untouched-at world goal workers inside i =
      cells-same (slice_index (replicate (3 * length world) 0) (3 * i)) 0 (slice_index (replicate (3 * length world) 0) (3 * i + 1)) 0 (slice_index (replicate (3 * length world) 0) (3 * i + 2)) 0
      (inside i) (inside i) (zeros (3 * length world) (3 * i)) (zeros (3 * length world) (3 * i + 1)) (zeros (3 * length world) (3 * i + 2)) refl

  only-first : (v : View T) (n : ℕ) → v.first < n → worker_at (v ∷ []) n ≡ ranging n n
  only-first v n off = choose (is_worker n v) (worker_of_view v) (ranging n n) (ranging n n) (λ t. absurd (omega (arith, (named-by v n t).0, off))) (λ f. refl)

  first-workers : (world goal : List T) (workers : ℕ) → 1 ≤ workers
      → listed (worker_at (opening_view world goal workers ∷ [])) 0 workers ≡ slice_set (map (λ n. ranging n n) (range_with_len 0 workers)) 0 (ranging 0 workers)
  first-workers world goal zero some_workers = absurd (omega arith)
  first-workers world goal (suc n) some_workers =
      ap (λ w. w ∷ listed (worker_at (opening_view world goal (suc n) ∷ [])) 1 n)
      (choose (is_worker 0 (opening_view world goal (suc n))) (worker_of_view (opening_view world goal (suc n))) (ranging 0 0) (ranging 0 (suc n)) (λ t. refl) (λ f. absurd (grind (arith, nat_tests))))
      ∙ ap (λ ws. ranging 0 (suc n) ∷ ws)
      (all-idle (worker_at (opening_view world goal (suc n) ∷ [])) (λ k. ranging k k) 1 n (λ k le. only-first (opening_view world goal (suc n)) k (omega (arith, le))))

  pub begins : (world goal : List T) (workers : ℕ) → 1 ≤ workers → BeginsAsMachine world goal workers
  begins world goal workers some_workers inside =
      let s : Table T = opening (replicate (3 * length world) 0) (map Some world) (opening_view world goal workers) in
      states-same (shown workers inside s) (first_state (length world) workers)
      (all-one (cell_at s inside) untouched 0 (length s.homes) (untouched-at world goal workers inside)
      ∙ ap (λ n. replicate n untouched) (length-map (map Some world) some ∙ length-map world Some))
      (first-workers world goal workers some_workers)
