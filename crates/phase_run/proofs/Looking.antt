-- tries of a lock one after the other, and what is read under it
use Rattle.std.proofs.Common.{◌≡◌, ℕ, zero, suc, ◌+◌, ◌-◌, ◌<◌, ◌≤◌, Bool, true, false, List, [], ◌∷◌, ◌++◌, length, length-append, map, refl, ap, sym, ◌∙◌, subst, ⊎_elim, arith}
use Rattle.std.proofs.lemmas.List.{append-nil, append_assoc}
use Rattle.std.proofs.lemmas.List.Elements.{All-nil, All-push}
use Rattle.std.proofs.Math.ListN.{get_elem?}
use mathlib.Core.Option.{some}
use Rattle.tile_machine.specs.At.{At}
use Rattle.tile_machine.specs.declared.phase.Phase.{Ghosts}
use Rattle.tile_table.specs.declared.view.View.{View}
use Rattle.tile_table.specs.declared.view.Hand.TheVariants.{Empty}
use Rattle.tile_table.specs.declared.seat.Seat.{Seat}
use Rattle.tile_table.specs.declared.seat.Turn.{Turn}
use Rattle.tile_table.specs.Counts.{times_in, pair_times}
use Rattle.tile_table.specs.Views.{tiles_by, with_no_hand, IsAnother}
use Rattle.tile_table.specs.Calls.{TurnHad, LockMissed, LockedOnce, PartSeen}
use Rattle.tile_table.specs.Seats.{view, seat_name, turn_place, turn_tile, turn_marked}
use Rattle.phase_run.specs.Tries.{GainedTries}
use Rattle.tile_table.specs.Stays.{IsAlone, Unchanged, Loses, TookOne, Looked, Shown}
use Rattle.phase_run.specs.Inner.Workers.{TurnGot}
use Rattle.tile_table.proofs.Staying.{unchanged-same, unchanged-on}

-- no try yet
pub no-tries : (j holder : ℕ) (xs : List (ℕ × ℕ)) → GainedTries j holder 0 xs xs
no-tries j holder xs =
    record { tries = []; gained = sym (append-nil xs); of_place = All-nil (λ t. t.0 ≡ j); many = refl; last = λ none. absurd (omega (arith, none)) }

get-last : {A : Type 0} (xs : List A) (x : A) → get_elem? (xs ++ x ∷ []) (length xs) ≡ some x
get-last [] x = refl
get-last (y ∷ ys) x = get-last ys x

-- one more try in vain
pub one-more-try : (j other holder count : ℕ) (xs ys zs : List (ℕ × ℕ)) → GainedTries j other count xs ys → zs ≡ ys ++ (j, holder) ∷ []
    → GainedTries j holder (count + 1) xs zs
one-more-try j other holder count xs ys zs so_far e =
    let all : List (ℕ × ℕ) = so_far.tries ++ (j, holder) ∷ [] in
    let place : length so_far.tries ≡ count + 1 - 1 = omega (arith, so_far.many) in
    record {
      tries = all;
      gained = e ∙ ap (λ l. l ++ (j, holder) ∷ []) so_far.gained ∙ append_assoc xs so_far.tries ((j, holder) ∷ []);
      of_place = All-push (λ t. t.0 ≡ j) so_far.tries (j, holder) so_far.of_place refl;
      many = omega (arith, length-append so_far.tries ((j, holder) ∷ []), so_far.many);
      last = λ some_try. subst (λ n. At all n (j, holder)) place (get-last so_far.tries (j, holder));
    }

pub not-shorter : (j holder count : ℕ) (xs ys : List (ℕ × ℕ)) → GainedTries j holder count xs ys → length xs ≤ length ys
not-shorter j holder count xs ys h = omega (arith, ap length h.gained, length-append xs h.tries)

gained-none : (j holder : ℕ) (xs ys : List (ℕ × ℕ)) → GainedTries j holder 0 xs ys → ys ≡ xs
gained-none j holder xs ys h = h.gained ∙ ap (λ l. xs ++ l) (none-of h.tries h.many) ∙ append-nil xs
  where
    none-of : (ts : List (ℕ × ℕ)) → length ts ≡ 0 → ts ≡ []
    none-of [] e = refl
    none-of (t ∷ ts) e = absurd (omega (arith, e))

-- where no try was lost, the list is what it was
gained-nothing : (j holder count : ℕ) (xs ys : List (ℕ × ℕ)) → count ≡ 0 → GainedTries j holder count xs ys → ys ≡ xs
gained-nothing j holder zero xs ys e h = gained-none j holder xs ys h
gained-nothing j holder (suc count) xs ys e h = absurd (omega (arith, e))

-- a list that gained 1,000 pairs is longer
pub longer : (j holder : ℕ) (xs ys : List (ℕ × ℕ)) → GainedTries j holder 1000 xs ys → length xs < length ys
longer j holder xs ys h = omega (arith, ap length h.gained, length-append xs h.tries, h.many)

module _ {T : Type 0} where
  -- what a seat knows after a number of tries of a lock, all in vain
  pub record Trying (before : View T) (j holder count : ℕ) (after : View T) : Type 0 where
    pub hand : after.hand ≡ Empty
    pub unchanged : Unchanged before after
    pub takes : after.takes ≡ before.takes
    -- who is alone loses none
    pub alone : IsAlone before → count ≡ 0
    pub gained : GainedTries j holder count before.lost after.lost

  pub begins-trying : (v : View T) (j : ℕ) → v.hand ≡ Empty → Trying v j 0 0 v
  begins-trying v j empty = record { hand = empty; unchanged = unchanged-same v; takes = refl; alone = λ alone. refl; gained = no-tries j 0 v.lost }

  no-other : (v : View T) (w : ℕ) → IsAlone v → IsAnother w v → ⊥
  no-other v w alone other = ⊎_elim (λ below. omega (arith, alone.0, below)) (λ above. omega (arith, alone.1, other.0, above)) other.1

  pub tries-again : (v : View T) (j holder count : ℕ) (w u : View T) (other : ℕ) → Trying v j other count w → LockMissed w j holder u
      → Trying v j holder (count + 1) u
  tries-again v j holder count w u other so_far missed =
      let e = missed.view in
      record {
        hand = ap (λ x. x.hand) e ∙ so_far.hand;
        unchanged =
            unchanged-on v w u so_far.unchanged
            (record {
              world = ap (λ x. x.world) e;
              goal = ap (λ x. x.goal) e;
              first = ap (λ x. x.first) e;
              end = ap (λ x. x.end) e;
              all = ap (λ x. x.all) e;
              claims = ap (λ x. x.claims) e;
              marks = ap (λ x. x.marks) e;
              seen = ap (λ x. x.seen) e;
            });
        takes = ap (λ x. x.takes) e ∙ so_far.takes;
        alone =
            λ alone. absurd (no-other w holder (so_far.unchanged.first ∙ alone.0, so_far.unchanged.end ∙ alone.1 ∙ sym so_far.unchanged.all) missed.another);
        gained = one-more-try j other holder count v.lost w.lost u.lost so_far.gained (ap (λ x. x.lost) e);
      }

  pub lost-still : (u v w : View T) → Loses u v → w.lost ≡ v.lost → Loses u w
  lost-still u v w h e = record { more = omega (arith, h.more, ap length e); alone = λ alone. e ∙ h.alone alone }

  loses-tries : (v : View T) (j holder count : ℕ) (w : View T) → Trying v j holder count w → Loses v w
  loses-tries v j holder count w h =
      record {
        more = not-shorter j holder count v.lost w.lost h.gained;
        alone = λ alone. gained-nothing j holder count v.lost w.lost (h.alone alone) h.gained;
      }

  -- what a look leaves that was had after these tries
  pub record LookHad (before : View T) (j : ℕ) (after : View T) : Type 0 where
    pub hand : after.hand ≡ Empty
    pub unchanged : Unchanged before after
    pub takes : TookOne j before after
    pub loses : Loses before after
    pub few : length after.lost < length before.lost + 1000

  pub looks : (v : View T) (j other count : ℕ) (w u : View T) → count < 1000 → Trying v j other count w → LockedOnce w j u → LookHad v j u
  looks v j other count w u few so_far had =
      let e = had.view in
      record {
        hand = ap (λ x. x.hand) e;
        unchanged =
            unchanged-on v w u so_far.unchanged
            (record {
              world = ap (λ x. x.world) e;
              goal = ap (λ x. x.goal) e;
              first = ap (λ x. x.first) e;
              end = ap (λ x. x.end) e;
              all = ap (λ x. x.all) e;
              claims = ap (λ x. x.claims) e;
              marks = ap (λ x. x.marks) e;
              seen = ap (λ x. x.seen) e;
            });
        takes = ap (λ x. x.takes) e ∙ ap (λ n. w.takes ++ (n, j) ∷ []) so_far.unchanged.first ∙ ap (λ ts. ts ++ (v.first, j) ∷ []) so_far.takes;
        loses = lost-still v w u (loses-tries v j other count w so_far) (ap (λ x. x.lost) e);
        few = omega (arith, few, ap (λ x. length x.lost) e, ap length so_far.gained.gained, length-append v.lost so_far.gained.tries, so_far.gained.many);
      }

  part-by : {Q : Type 0} (readable : T → Q) (marked : Bool) (world goal : List T) (j : ℕ) (p : Q) (ps : List Q) → At (map readable (tiles_by marked world goal)) j p
      → ps ≡ map readable world → ps ≡ map readable goal → At ps j p
  part-by readable true world goal j p ps at w e = subst (λ qs. At qs j p) (sym e) at
  part-by readable false world goal j p ps at w e = subst (λ qs. At qs j p) (sym w) at

  -- a part that was seen after these tries is that of the world
  pub reads-part : {Q : Type 0} (readable : T → Q) (v : View T) (j holder count : ℕ) (w : View T) (p : Q) → Trying v j holder count w → PartSeen readable w j p
      → (ps : List Q) → Shown readable v ps → At ps j p
  reads-part readable v j holder count w p so_far seen ps shown =
      part-by readable seen.marked v.world v.goal j p ps
      (subst (λ ts. At (map readable (tiles_by seen.marked ts v.goal)) j p) so_far.unchanged.world
      (subst (λ ts. At (map readable (tiles_by seen.marked w.world ts)) j p) so_far.unchanged.goal seen.stands))
      shown.0 shown.1

  pub claimed-kept : (v : View T) (j holder count : ℕ) (w : View T) → Trying v j holder count w → 0 < pair_times v.first j v.claims → 0 < pair_times w.first j w.claims
  claimed-kept v j holder count w so_far claimed =
      subst (λ n. 0 < pair_times n j w.claims) (sym so_far.unchanged.first) (subst (λ cs. 0 < pair_times v.first j cs) (sym so_far.unchanged.claims) claimed)

module _ {X T Q : Type 0} where
  -- a lock that was had after these tries
  pub gets : (v : View T) (j other count : ℕ) (w u : View T) (turn : Turn X T Q) → count < 1000 → Trying v j other count w → TurnHad w j turn u → TurnGot v j turn u
  gets v j other count w u turn few so_far had =
      let e = had.view in
      let same = so_far.unchanged in
      record {
        place = had.place;
        turn = had.turn;
        unchanged =
            unchanged-on v w u same
            (record {
              world = ap (λ x. x.world) e;
              goal = ap (λ x. x.goal) e;
              first = ap (λ x. x.first) e;
              end = ap (λ x. x.end) e;
              all = ap (λ x. x.all) e;
              claims = ap (λ x. x.claims) e;
              marks = ap (λ x. x.marks) e;
              seen = ap (λ x. x.seen) e;
            });
        takes = ap (λ x. x.takes) e ∙ ap (λ n. w.takes ++ (n, j) ∷ []) same.first ∙ ap (λ ts. ts ++ (v.first, j) ∷ []) so_far.takes;
        loses = lost-still v w u (loses-tries v j other count w so_far) (ap (λ x. x.lost) e);
        few = omega (arith, few, ap (λ x. length x.lost) e, ap length so_far.gained.gained, length-append v.lost so_far.gained.tries, so_far.gained.many);
        own_claim =
            λ claimed unmarked. had.own_claim
            (subst (λ n. 0 < pair_times n j w.claims) (sym same.first) (subst (λ cs. 0 < pair_times v.first j cs) (sym same.claims) claimed))
            (ap (λ ms. times_in j ms) same.marks ∙ unmarked);
      }

  -- the tile of a lock stands among the tiles of the view before
  stands-there : (v w : View T) (j : ℕ) (turn : Turn X T Q) → TurnGot v j turn w → At (tiles_by (turn_marked turn) v.world v.goal) j (turn_tile turn)
  stands-there v w j turn got =
      let m = turn_marked turn in
      subst (λ ts. At (tiles_by m ts v.goal) j (turn_tile turn)) got.unchanged.world
      (subst (λ ts. At (tiles_by m w.world ts) j (turn_tile turn)) got.unchanged.goal
      (subst (λ n. At (tiles_by m w.world w.goal) n (turn_tile turn)) got.place got.turn.stands))

  -- a tile that the seat has claimed and not marked is the world's
  pub reads-world : (v w : View T) (i : ℕ) (turn : Turn X T Q) (t : T) → TurnGot v i turn w → 0 < pair_times v.first i v.claims → times_in i v.marks ≡ 0
      → t ≡ turn_tile turn → At v.world i t
  reads-world v w i turn t got claimed unmarked is =
      subst (λ u. At v.world i u) (sym is)
      (subst (λ m. At (tiles_by m v.world v.goal) i (turn_tile turn)) (got.own_claim claimed unmarked) (stands-there v w i turn got))

  -- a lock of a place that was claimed, and not marked, is one of a claimed and unmarked place
  pub claimed-still : (v w : View T) (i : ℕ) (turn : Turn X T Q) → TurnGot v i turn w → 0 < pair_times v.first i v.claims → 0 < pair_times w.first (turn_place turn) w.claims
  claimed-still v w i turn got claimed =
      subst (λ n. 0 < pair_times w.first n w.claims) (sym got.place)
      (subst (λ n. 0 < pair_times n i w.claims) (sym got.unchanged.first) (subst (λ cs. 0 < pair_times v.first i cs) (sym got.unchanged.claims) claimed))

  pub unmarked-still : (v w : View T) (i : ℕ) (turn : Turn X T Q) → TurnGot v i turn w → times_in i v.marks ≡ 0 → times_in (turn_place turn) w.marks ≡ 0
  unmarked-still v w i turn got unmarked =
      subst (λ n. times_in n w.marks ≡ 0) (sym got.place) (ap (λ ms. times_in i ms) got.unchanged.marks ∙ unmarked)

  pub goal-still : (v w : View T) (i : ℕ) (turn : Turn X T Q) (t : T) → TurnGot v i turn w → At v.goal i t → At w.goal (turn_place turn) t
  goal-still v w i turn t got at =
      subst (λ n. At w.goal n t) (sym got.place) (subst (λ ts. At ts i t) (sym got.unchanged.goal) at)

module _ {X T Q : Type 0} {g : Ghosts X T Q} where
  -- a lock was had and given back
  pub gives-back : (a b c : Seat X T Q g) → seat_name b ≡ seat_name a → Unchanged (view a) (view b) → Loses (view a) (view b) → seat_name c ≡ seat_name b
      → view c ≡ with_no_hand (view b) → Looked a c
  gives-back a b c name same loses again e =
      record {
        table = again ∙ name;
        hand = ap (λ x. x.hand) e;
        unchanged =
            unchanged-on (view a) (view b) (view c) same
            (record {
              world = ap (λ x. x.world) e;
              goal = ap (λ x. x.goal) e;
              first = ap (λ x. x.first) e;
              end = ap (λ x. x.end) e;
              all = ap (λ x. x.all) e;
              claims = ap (λ x. x.claims) e;
              marks = ap (λ x. x.marks) e;
              seen = ap (λ x. x.seen) e;
            });
        loses = lost-still (view a) (view b) (view c) loses (ap (λ x. x.lost) e);
      }

  -- and it was taken once
  pub took-one : (a b c : Seat X T Q g) (j : ℕ) → TookOne j (view a) (view b) → view c ≡ with_no_hand (view b) → TookOne j (view a) (view c)
  took-one a b c j h e = ap (λ x. x.takes) e ∙ h

  -- what tries in vain leave
  pub tried-looked : (a b : Seat X T Q g) (j holder count : ℕ) → seat_name b ≡ seat_name a → Trying (view a) j holder count (view b) → Looked a b
  tried-looked a b j holder count name trying = record { table = name; hand = trying.hand; unchanged = trying.unchanged; loses = loses-tries (view a) j holder count (view b) trying }
