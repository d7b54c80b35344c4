-- what each kind of change keeps of what is true in every state
use Rattle.std.proofs.Common.{◌≡◌, ◌≢◌, ◌↔◌, ℕ, ◌+◌, ◌<◌, ◌≤◌, Bool, true, false, cond, ltb, leb, ◌&&◌, Option, Some, None, IsSome, length, refl, sym, ap, ◌∙◌, subst, slice_get, slice_set, get_or, count_by, arith, ⊎_elim, length-set}
use Rattle.std.proofs.lemmas.Bool.{true≢false, cases_eq, cases_lt, le-ltb, cond-false}
use Rattle.std.proofs.lemmas.Bool.Decides.{nat_tests}
use Rattle.std.proofs.lemmas.Option.{slice_get_within, get_or_from_slice_get, same_Some, slice_get-get_or}
use Rattle.std.proofs.lemmas.List.Elements.{All-set}
use Rattle.tile_machine.specs.declared.state.Cell.{Cell}
use Rattle.tile_machine.specs.declared.state.Worker.{Worker}
use Rattle.tile_machine.specs.State.{State, if_live, worker_of, cell_of, with_cell, with_worker, ranging}
use Rattle.tile_machine.specs.Good.{hand_of, holder_of, covers, IsGood}
use Rattle.tile_machine.proofs.Lists.{bit, count-set, one_counted, get-set_other}
use Rattle.tile_machine.proofs.Workers.{live_worker, worker_inside, worker_of-same, worker_of-other, lives, ended, hand_in, holder_in, hand_of-same, hand_of-other, hand_of-ended, holder_of-same, holder_of-other}

covers_inside : (x : ℕ) (w : Worker) → w.first ≤ x → x < w.end → covers x w ≡ true
covers_inside x w h k = grind (arith, nat_tests)

-- the two parts of a range have its numbers once each
covers-parts : (x first at end : ℕ) → first ≤ at → at ≤ end
    → bit (leb first x && ltb x at) + bit (leb at x && ltb x end) ≡ bit (leb first x && ltb x end)
covers-parts x first at end low high = grind (arith, nat_tests)

-- an empty range has no number
covers-empty : (x first end : ℕ) → end ≤ first → bit (leb first x && ltb x end) ≡ 0
covers-empty x first end h = grind (arith, nat_tests)

-- a range has no number from its end on
covers-above : (x first end : ℕ) → end ≤ x → bit (leb first x && ltb x end) ≡ 0
covers-above x first end h = grind (arith, nat_tests)

bit-le : (b : Bool) → bit b ≤ 1
bit-le true = omega arith
bit-le false = omega arith

-- a number in a live worker's range is below that of all workers
pub range_inside : (w : ℕ) (s : State) (n x : ℕ) (me : Worker) → IsGood w s → worker_of s n ≡ Some me → me.first ≤ x → x < me.end → x < w
range_inside w s n x me good alive low high =
    let one : 1 ≤ count_by (covers x) s.workers =
    one_counted (covers x) s.workers n me (live_worker (slice_get s.workers n) me alive).0 (covers_inside x me low high) in
    ⊎_elim (λ h. h) (λ h. absurd (omega (arith, one, good.ranges x, cond-false {A = ℕ} (ltb x w) 1 0 (le-ltb x w h)))) (cases_lt x w)

-- a tile is written, and its lock stays
pub good_cell : (w : ℕ) (s : State) (tile : ℕ) (it new : Cell) → IsGood w s → cell_of s tile ≡ Some it → new.lock ≡ it.lock
    → (new.home ≡ false → IsSome new.lock) → (new.marked ≡ true → IsSome new.claim) → IsGood w (with_cell s tile new)
good_cell w s tile it new good at same out marked =
    record {
      all = good.all;
      numbers = good.numbers;
      ranges = good.ranges;
      locks = λ n t. subst (λ o. (hand_of s n ≡ Some t) ↔ (o ≡ Some n)) (sym (kept t)) (good.locks n t);
      out_held = All-set (λ c. c.home ≡ false → IsSome c.lock) s.cells tile new out good.out_held;
      marked_claimed = All-set (λ c. c.marked ≡ true → IsSome c.claim) s.cells tile new marked good.marked_claimed;
    }
  where
    kept : (t : ℕ) → holder_of (with_cell s tile new) t ≡ holder_of s t
    kept t =
        ⊎_elim
        (λ e. subst (λ m. holder_of (with_cell s tile new) m ≡ holder_of s m) (sym e)
        (holder_of-same s tile new (slice_get_within s.cells tile it at) ∙ same ∙ sym (ap holder_in at)))
        (holder_of-other s tile t new)
        (cases_eq t tile)

-- a worker is written under its own number
numbers-set : (s : State) (k : ℕ) (new : Worker) → k < length s.workers → new.first ≡ k
    → ((n : ℕ) (v : Worker) → worker_of s n ≡ Some v → v.first ≡ n)
    → (n : ℕ) (v : Worker) → worker_of (with_worker s k new) n ≡ Some v → v.first ≡ n
numbers-set s k new inside own before n v h =
    ⊎_elim
    (λ e. let here : if_live (Some new) ≡ Some v = sym (worker_of-same s k new inside) ∙ subst (λ m. worker_of (with_worker s k new) m ≡ Some v) e h in
    sym (ap (λ u. u.first) (same_Some new v (live_worker (Some new) v here).0)) ∙ own ∙ sym e)
    (λ ne. before n v (sym (worker_of-other s k n new ne) ∙ h))
    (cases_eq n k)

-- who holds what, after a free tile's lock went to a worker with an empty hand
taken_locks : (hand lock hand' lock' : ℕ → Option ℕ) (worker tile : ℕ)
    → ((n t : ℕ) → (hand n ≡ Some t) ↔ (lock t ≡ Some n))
    → hand worker ≡ None → lock tile ≡ None → hand' worker ≡ Some tile → lock' tile ≡ Some worker
    → ((n : ℕ) → n ≢ worker → hand' n ≡ hand n) → ((t : ℕ) → t ≢ tile → lock' t ≡ lock t)
    → (n t : ℕ) → (hand' n ≡ Some t) ↔ (lock' t ≡ Some n)
taken_locks hand lock hand' lock' worker tile before empty free held named other elsewhere n t =
    ⊎_elim
    (λ e. ⊎_elim (λ f. grind (arith, e, f)) (λ nf. grind (arith, e, nf, before worker t, elsewhere t nf)) (cases_eq t tile))
    (λ ne. ⊎_elim (λ f. grind (arith, ne, f, before n tile, other n ne)) (λ nf. grind (arith, before n t, other n ne, elsewhere t nf)) (cases_eq t tile))
    (cases_eq n worker)

-- who holds what, after a worker gave its lock up
freed_locks : (hand lock hand' lock' : ℕ → Option ℕ) (worker tile : ℕ)
    → ((n t : ℕ) → (hand n ≡ Some t) ↔ (lock t ≡ Some n))
    → lock tile ≡ Some worker → hand' worker ≡ None → lock' tile ≡ None
    → ((n : ℕ) → n ≢ worker → hand' n ≡ hand n) → ((t : ℕ) → t ≢ tile → lock' t ≡ lock t)
    → (n t : ℕ) → (hand' n ≡ Some t) ↔ (lock' t ≡ Some n)
freed_locks hand lock hand' lock' worker tile before named empty free other elsewhere n t =
    ⊎_elim
    (λ e. ⊎_elim (λ f. grind (arith, e, f)) (λ nf. grind (arith, e, nf, before worker t, before worker tile, elsewhere t nf)) (cases_eq t tile))
    (λ ne. ⊎_elim (λ f. grind (arith, ne, f, before n tile, other n ne)) (λ nf. grind (arith, before n t, other n ne, elsewhere t nf)) (cases_eq t tile))
    (cases_eq n worker)

-- a tile's lock and the hand of the worker of this number are written
good_hold : (w : ℕ) (s : State) (worker tile : ℕ) (me : Worker) (it : Cell) (hand lock : Option ℕ)
    → IsGood w s → worker_of s worker ≡ Some me → cell_of s tile ≡ Some it → (it.home ≡ false → IsSome lock)
    → ((n t : ℕ) → (hand_of (with_worker s worker (record me { hand = hand })) n ≡ Some t) ↔ (holder_of (with_cell s tile (record it { lock = lock })) t ≡ Some n))
    → IsGood w (with_worker (with_cell s tile (record it { lock = lock })) worker (record me { hand = hand }))
good_hold w s worker tile me it hand lock good alive at out locks =
    record {
      all = length-set s.workers worker (record me { hand = hand }) ∙ good.all;
      numbers = numbers-set s worker (record me { hand = hand }) (worker_inside s worker me alive) (good.numbers worker me alive) good.numbers;
      ranges = λ x. omega (arith, good.ranges x, count-set (covers x) s.workers worker me (record me { hand = hand }) (live_worker (slice_get s.workers worker) me alive).0);
      locks = locks;
      out_held = All-set (λ c. c.home ≡ false → IsSome c.lock) s.cells tile (record it { lock = lock }) out good.out_held;
      marked_claimed = All-set (λ c. c.marked ≡ true → IsSome c.claim) s.cells tile (record it { lock = lock }) claimed good.marked_claimed;
    }
  where
    claimed : it.marked ≡ true → IsSome it.claim
    claimed = subst (λ c. c.marked ≡ true → IsSome c.claim) (get_or_from_slice_get s.cells tile it it at) (good.marked_claimed tile it (slice_get_within s.cells tile it at))

-- a worker with an empty hand takes a free lock
pub good_take : (w : ℕ) (s : State) (worker tile : ℕ) (me : Worker) (it : Cell)
    → IsGood w s → worker_of s worker ≡ Some me → cell_of s tile ≡ Some it → me.hand ≡ None → it.lock ≡ None
    → IsGood w (with_worker (with_cell s tile (record it { lock = Some worker })) worker (record me { hand = Some tile }))
good_take w s worker tile me it good alive at empty free =
    good_hold w s worker tile me it (Some tile) (Some worker) good alive at (λ _. refl)
    (taken_locks (hand_of s) (holder_of s) (hand_of (with_worker s worker (record me { hand = Some tile }))) (holder_of (with_cell s tile (record it { lock = Some worker }))) worker tile
    good.locks
    (ap hand_in alive ∙ empty)
    (ap holder_in at ∙ free)
    (hand_of-same s worker (record me { hand = Some tile }) (worker_inside s worker me alive) (live_worker (slice_get s.workers worker) me alive).1)
    (holder_of-same s tile (record it { lock = Some worker }) (slice_get_within s.cells tile it at))
    (λ n ne. hand_of-other s worker n (record me { hand = Some tile }) ne)
    (λ t ne. holder_of-other s tile t (record it { lock = Some worker }) ne))

-- a worker gives up the lock of a tile whose value is at home
pub good_free : (w : ℕ) (s : State) (worker tile : ℕ) (me : Worker) (it : Cell)
    → IsGood w s → worker_of s worker ≡ Some me → cell_of s tile ≡ Some it → it.lock ≡ Some worker → it.home ≡ true
    → IsGood w (with_worker (with_cell s tile (record it { lock = None })) worker (record me { hand = None }))
good_free w s worker tile me it good alive at held home =
    good_hold w s worker tile me it None None good alive at (λ out. absurd (true≢false (sym home ∙ out)))
    (freed_locks (hand_of s) (holder_of s) (hand_of (with_worker s worker (record me { hand = None }))) (holder_of (with_cell s tile (record it { lock = None }))) worker tile
    good.locks
    (ap holder_in at ∙ held)
    (hand_of-same s worker (record me { hand = None }) (worker_inside s worker me alive) (live_worker (slice_get s.workers worker) me alive).1)
    (holder_of-same s tile (record it { lock = None }) (slice_get_within s.cells tile it at))
    (λ n ne. hand_of-other s worker n (record me { hand = None }) ne)
    (λ t ne. holder_of-other s tile t (record it { lock = None }) ne))

-- a number strictly inside a live worker's range is no live worker's
inside_ended : (w : ℕ) (s : State) (worker at : ℕ) (me old : Worker) → IsGood w s → worker_of s worker ≡ Some me
    → me.first < at → at < me.end → slice_get s.workers at ≡ Some old → old.end ≤ old.first
inside_ended w s worker at me old good alive low high old_at =
    ⊎_elim (λ range. absurd (twice range)) (λ h. h) (cases_lt old.first old.end)
  where
    lower : Worker
    lower = record me { end = at }

    apart : at ≢ worker
    apart e = omega (arith, good.numbers worker me alive)

    twice : old.first < old.end → ⊥
    twice range =
        let own : old.first ≡ at = good.numbers at old (ap if_live old_at ∙ lives old range) in
        let again : 1 ≤ count_by (covers at) (slice_set s.workers worker lower) =
        one_counted (covers at) (slice_set s.workers worker lower) at old (get-set_other s.workers worker at lower apart ∙ old_at) (covers_inside at old (omega arith) (omega arith)) in
        let once : bit (covers at me) ≡ 1 = ap bit (covers_inside at me (omega arith) high) in
        let none : bit (covers at lower) ≡ 0 = covers-above at me.first at (omega arith) in
        let most : cond (ltb at w) 1 0 ≤ 1 = bit-le (ltb at w) in
        omega (arith, again, once, none, most, good.ranges at, count-set (covers at) s.workers worker me lower (live_worker (slice_get s.workers worker) me alive).0)

-- the lower part of a live worker's range stays with it, and the upper part is a new worker
pub good_split : (w : ℕ) (s : State) (worker at : ℕ) (me : Worker) → IsGood w s → worker_of s worker ≡ Some me
    → me.first < at → at < me.end
    → IsGood w (with_worker (with_worker s worker (record me { end = at })) at (ranging at me.end))
good_split w s worker at me good alive low high =
    record {
      all = length-set (slice_set s.workers worker lower) at upper ∙ length-set s.workers worker lower ∙ good.all;
      numbers = numbers-set s1 at upper inside1 refl (numbers-set s worker lower own (good.numbers worker me alive) good.numbers);
      ranges = λ x. omega (
        arith,
        good.ranges x,
        count-set (covers x) s.workers worker me lower (live_worker (slice_get s.workers worker) me alive).0,
        count-set (covers x) s1.workers at old.0 upper (get-set_other s.workers worker at lower apart ∙ old.1),
        covers-parts x me.first at me.end (omega arith) (omega arith),
        covers-empty x old.0.first old.0.end unused,
      );
      locks = λ n t. subst (λ o. (o ≡ Some t) ↔ (holder_of s t ≡ Some n)) (sym (same_hand n)) (good.locks n t);
      out_held = good.out_held;
      marked_claimed = good.marked_claimed;
    }
  where
    lower : Worker
    lower = record me { end = at }

    upper : Worker
    upper = ranging at me.end

    s1 : State
    s1 = with_worker s worker lower

    own : worker < length s.workers
    own = worker_inside s worker me alive

    apart : at ≢ worker
    apart e = omega (arith, good.numbers worker me alive)

    inside : at < length s.workers
    inside = omega (arith, good.all, range_inside w s worker at me good alive (omega arith) high)

    inside1 : at < length s1.workers
    inside1 = omega (arith, inside, length-set s.workers worker lower)

    old : (v : Worker) × (slice_get s.workers at ≡ Some v)
    old = (get_or s.workers at me, slice_get-get_or s.workers at me inside)

    unused : old.0.end ≤ old.0.first
    unused = inside_ended w s worker at me old.0 good alive low high old.1

    same_hand : (n : ℕ) → hand_of (with_worker s1 at upper) n ≡ hand_of s n
    same_hand n =
        ⊎_elim
        (λ e. subst (λ m. hand_of (with_worker s1 at upper) m ≡ hand_of s m) (sym e)
        (hand_of-same s1 at upper inside1 high ∙ sym (ap hand_in (ap if_live old.1 ∙ ended old.0 unused))))
        (λ ne. hand_of-other s1 at n upper ne ∙
        ⊎_elim
        (λ e. subst (λ m. hand_of s1 m ≡ hand_of s m) (sym e) (hand_of-same s worker lower own low ∙ sym (ap hand_in alive)))
        (hand_of-other s worker n lower)
        (cases_eq n worker))
        (cases_eq n at)

-- a live worker's range grows by the next one, of a worker with an empty hand, which ends
pub good_join : (w : ℕ) (s : State) (worker other : ℕ) (me its : Worker) → IsGood w s → worker_of s worker ≡ Some me
    → worker_of s other ≡ Some its → its.first ≡ me.end → its.hand ≡ None
    → IsGood w (with_worker (with_worker s worker (record me { end = its.end })) other (ranging its.first its.first))
good_join w s worker other me its good alive alive_too next_one empty =
    record {
      all = length-set (slice_set s.workers worker both) other gone ∙ length-set s.workers worker both ∙ good.all;
      numbers = numbers-set s1 other gone inside1 (good.numbers other its alive_too) (numbers-set s worker both own (good.numbers worker me alive) good.numbers);
      ranges = λ x. omega (
        arith,
        good.ranges x,
        count-set (covers x) s.workers worker me both (live_worker (slice_get s.workers worker) me alive).0,
        count-set (covers x) s1.workers other its gone (get-set_other s.workers worker other both apart ∙ (live_worker (slice_get s.workers other) its alive_too).0),
        covers-parts x me.first its.first its.end (omega (arith, mine)) (omega (arith, theirs)),
        ap (λ e. bit (leb me.first x && ltb x e)) next_one,
        covers-empty x its.first its.first (omega arith),
      );
      locks = λ n t. subst (λ o. (o ≡ Some t) ↔ (holder_of s t ≡ Some n)) (sym (same_hand n)) (good.locks n t);
      out_held = good.out_held;
      marked_claimed = good.marked_claimed;
    }
  where
    both : Worker
    both = record me { end = its.end }

    gone : Worker
    gone = ranging its.first its.first

    s1 : State
    s1 = with_worker s worker both

    own : worker < length s.workers
    own = worker_inside s worker me alive

    mine : me.first < me.end
    mine = (live_worker (slice_get s.workers worker) me alive).1

    theirs : its.first < its.end
    theirs = (live_worker (slice_get s.workers other) its alive_too).1

    apart : other ≢ worker
    apart e = omega (arith, mine, good.numbers worker me alive, good.numbers other its alive_too)

    inside1 : other < length s1.workers
    inside1 = omega (arith, worker_inside s other its alive_too, length-set s.workers worker both)

    same_hand : (n : ℕ) → hand_of (with_worker s1 other gone) n ≡ hand_of s n
    same_hand n =
        ⊎_elim
        (λ e. subst (λ m. hand_of (with_worker s1 other gone) m ≡ hand_of s m) (sym e)
        (hand_of-ended s1 other gone inside1 (omega arith) ∙ sym (ap hand_in alive_too ∙ empty)))
        (λ ne. hand_of-other s1 other n gone ne ∙
        ⊎_elim
        (λ e. subst (λ m. hand_of s1 m ≡ hand_of s m) (sym e) (hand_of-same s worker both own (omega (arith, mine, theirs)) ∙ sym (ap hand_in alive)))
        (hand_of-other s worker n both)
        (cases_eq n worker))
        (cases_eq n other)
