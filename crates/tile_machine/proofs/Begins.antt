-- the state before any event is good
use Rattle.std.proofs.Common.{◌≡◌, ◌≢◌, ℕ, zero, suc, ◌+◌, ◌<◌, ◌≤◌, true, false, cond, leb, ltb, ◌&&◌, Some, None, IsSome, List, map, replicate, slice_get, slice_set, count_by, refl, sym, ap, ◌∙◌, subst, ⊎_elim, arith, length-set}
use Rattle.std.specs.List.{range_with_len}
use Rattle.std.proofs.lemmas.Bool.{cases_eq, true≢false}
use Rattle.std.proofs.lemmas.Bool.Decides.{nat_tests}
use Rattle.std.proofs.lemmas.Option.{none-some, same_Some}
use Rattle.std.proofs.lemmas.List.Elements.{All-replicate}
use Rattle.std.proofs.lemmas.List.Sums.{sum_by-cons}
use Rattle.std.proofs.lemmas.List.FromFn.{length-map-range_with_len}
use Rattle.tile_machine.specs.declared.state.Cell.{Cell}
use Rattle.tile_machine.specs.declared.state.Worker.{Worker}
use Rattle.tile_machine.specs.State.{State, first_state, untouched, ranging, if_live, worker_of}
use Rattle.tile_machine.specs.Inner.{state_of}
use Rattle.tile_machine.specs.Good.{IsGood, covers, hand_of}
use Rattle.tile_machine.proofs.Lists.{bit, count-set, get-set_same, get-set_other}
use Rattle.tile_machine.proofs.Workers.{ended, lives, hand_in, holder_in}

-- these workers, none of which lives
abbrev idle : ℕ → ℕ → List Worker
idle a n = map (λ k. ranging k k) (range_with_len a n)

-- none of them lives
none_lives : (a n k : ℕ) → if_live (slice_get (idle a n) k) ≡ None
none_lives a zero k = refl
none_lives a (suc n) zero = ended (ranging a a) (omega arith)
none_lives a (suc n) (suc k) = none_lives (a + 1) n k

-- their ranges have no number
none_covers : (x a n : ℕ) → count_by (covers x) (idle a n) ≡ 0
none_covers x a zero = refl
none_covers x a (suc n) =
    let here : bit (leb a x && ltb x a) ≡ 0 = empty x a in
    omega (arith, sum_by-cons (λ w. cond (covers x w) 1 0) (ranging a a) (idle (a + 1) n), none_covers x (a + 1) n, here)
  where
    empty : (x a : ℕ) → bit (leb a x && ltb x a) ≡ 0
    empty x a = grind (arith, nat_tests)

-- the first of them
first_idle : (n : ℕ) → 0 < n → slice_get (idle 0 n) 0 ≡ Some (ranging 0 0)
first_idle zero h = absurd (omega arith)
first_idle (suc n) h = refl

-- the whole range has each number below its end
whole_covers : (x n : ℕ) → bit (leb 0 x && ltb x n) ≡ cond (ltb x n) 1 0
whole_covers x n = grind (arith, nat_tests)

-- an untouched tile's lock names nobody
none_named : (n k : ℕ) → holder_in (slice_get (replicate n untouched) k) ≡ None
none_named zero k = refl
none_named (suc n) zero = refl
none_named (suc n) (suc k) = none_named n k

pub good_start : (tiles workers : ℕ) → 1 ≤ workers → IsGood workers (first_state tiles workers)
good_start tiles workers some =
    record {
      all = length-set (idle 0 workers) 0 whole ∙ length-map-range_with_len (λ k. ranging k k) 0 workers;
      numbers = λ n w alive.
          ⊎_elim
          (λ e. sym (ap (λ u. u.first) (same_Some whole w (sym at_zero ∙ subst (λ m. worker_of s m ≡ Some w) e alive))) ∙ sym e)
          (λ ne. absurd (none-some w (sym (elsewhere n ne) ∙ alive)))
          (cases_eq n 0);
      ranges = λ x. omega (
        arith,
        count-set (covers x) (idle 0 workers) 0 (ranging 0 0) whole (first_idle workers inside),
        none_covers x 0 workers,
        whole_covers x workers,
        whole_covers x 0,
        none_below x,
      );
      locks = λ n t. (λ h. absurd (none-some t (sym (no_hand n) ∙ h)), λ h. absurd (none-some n (sym (none_named tiles t) ∙ h)));
      out_held = All-replicate (λ c. c.home ≡ false → IsSome c.lock) tiles untouched (λ out. absurd (true≢false out));
      marked_claimed = All-replicate (λ c. c.marked ≡ true → IsSome c.claim) tiles untouched (λ marked. absurd (true≢false (sym marked)));
    }
  where
    whole : Worker
    whole = ranging 0 workers

    s : State
    s = first_state tiles workers

    inside : 0 < workers
    inside = omega arith

    at_zero : worker_of s 0 ≡ Some whole
    at_zero = ap if_live (get-set_same (idle 0 workers) 0 whole (omega (arith, length-map-range_with_len (λ k. ranging k k) 0 workers))) ∙ lives whole inside

    elsewhere : (n : ℕ) → n ≢ 0 → worker_of s n ≡ None
    elsewhere n ne = ap if_live (get-set_other (idle 0 workers) 0 n whole ne) ∙ none_lives 0 workers n

    no_hand : (n : ℕ) → hand_of s n ≡ None
    no_hand n = ⊎_elim (λ e. subst (λ m. hand_of s m ≡ None) (sym e) (ap hand_in at_zero)) (λ ne. ap hand_in (elsewhere n ne)) (cases_eq n 0)

    none_below : (x : ℕ) → bit (ltb x 0) ≡ 0
    none_below x = grind (arith, nat_tests)

-- the machine's lists before any event
pub good_lists : (tiles workers : ℕ) (cells : List Cell) (all : List Worker) → 1 ≤ workers → cells ≡ replicate tiles untouched → all ≡ idle 0 workers
    → IsGood workers (state_of cells (slice_set all 0 (ranging 0 workers)))
good_lists tiles workers cells all some e f =
    subst (λ c. IsGood workers (state_of c (slice_set all 0 (ranging 0 workers)))) (sym e)
    (subst (λ a. IsGood workers (state_of (replicate tiles untouched) (slice_set a 0 (ranging 0 workers)))) (sym f) (good_start tiles workers some))
