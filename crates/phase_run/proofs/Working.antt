-- what a worker's steps leave of its seat
use Rattle.std.proofs.Common.{◌≡◌, ◌≢◌, Bool, true, false, ◌&&◌, ◌==◌, ℕ, ◌+◌, ◌<◌, ◌≤◌, List, [], ◌∷◌, ◌++◌, length, length-append, refl, ap, sym, ◌∙◌, subst, ◌⊎◌, inl, inr, ⊎_elim, ne_eqb, arith}
use Rattle.std.proofs.lemmas.Bool.{cases_lt}
use Rattle.std.proofs.lemmas.List.{append-nil}
use mathlib.Core.Logic.{dite}
use native.Mathlib.Decide.{ℕ_discrete}
use Rattle.tile_machine.specs.At.{At}
use Rattle.tile_machine.specs.declared.phase.Phase.{Ghosts}
use Rattle.tile_table.specs.declared.view.View.{View}
use Rattle.tile_table.specs.declared.view.Hand.TheVariants.{Empty}
use Rattle.tile_table.specs.declared.seat.Seat.{Seat}
use Rattle.tile_table.specs.declared.seat.Closed.{Closed}
use Rattle.tile_table.specs.declared.table.TileTable.{TileTable}
use Rattle.tile_table.specs.Counts.{bit, same_bit, times_in, pair_times}
use Rattle.tile_table.specs.Views.{opening_view, tiles_by, with_claim, with_seen, with_mark, with_no_hand, lower, upper, joined_views}
use Rattle.tile_table.specs.Calls.{ClosedBy}
use Rattle.tile_table.specs.Seats.{view, seat_name, IsAt}
use Rattle.phase_run.specs.declared.worker.Visit.{Visit}
use Rattle.phase_run.specs.declared.worker.Visit.TheVariants.{Finished, PutOff, Passed}
use Rattle.tile_table.specs.Stays.{IsAlone, Unchanged, Loses, Looked}
use Rattle.phase_run.specs.Inner.Workers.{Ready, Worked, Visited, Ended, ClaimedNow, Visits, Accounts, Waiting, Finishes, GoesOver, WentOver, FinishesClaims}
use Rattle.phase_run.specs.Inner.Rest.{TilesOf}

pairs-more : (a b : ℕ) (xs ys : List (ℕ × ℕ)) → pair_times a b xs ≤ pair_times a b (xs ++ ys)
pairs-more a b [] ys = omega arith
pairs-more a b (p ∷ xs) ys = omega (arith, pairs-more a b xs ys)

eqb-same : (a : ℕ) → same_bit a a ≡ 1
eqb-same a = grind arith

pairs-last : (a b : ℕ) (xs : List (ℕ × ℕ)) → 0 < pair_times a b (xs ++ (a, b) ∷ [])
pairs-last a b [] = grind arith
pairs-last a b (p ∷ xs) = omega (arith, pairs-last a b xs)

times-more : (a : ℕ) (xs ys : List ℕ) → times_in a xs ≤ times_in a (xs ++ ys)
times-more a [] ys = omega arith
times-more a (x ∷ xs) ys = omega (arith, times-more a xs ys)

times-last : (a : ℕ) (xs : List ℕ) → 0 < times_in a (xs ++ a ∷ [])
times-last a [] = grind arith
times-last a (x ∷ xs) = omega (arith, times-last a xs)

times-append : (a : ℕ) (xs ys : List ℕ) → times_in a (xs ++ ys) ≡ times_in a xs + times_in a ys
times-append a [] ys = omega arith
times-append a (x ∷ xs) ys = omega (arith, times-append a xs ys)

same-ne : (a b : ℕ) → a ≢ b → same_bit a b ≡ 0
same-ne a b ne = ap bit (ne_eqb a b ne)

-- a pair that stands in a list with one more at its end stands in the list, or is that one
pairs-back : (a b c d : ℕ) (xs : List (ℕ × ℕ)) → 0 < pair_times a b (xs ++ (c, d) ∷ []) → (0 < pair_times a b xs) ⊎ (b ≡ d)
pairs-back a b c d [] h = inr (sym (second c a d b h))
  where
    second : (c a d b : ℕ) → 0 < bit ((c == a) && (d == b)) + 0 → d ≡ b
    second c a d b h = grind arith
pairs-back a b c d (p ∷ xs) h =
    elim ((p.0 == a) && (p.1 == b)) as (λ t. 0 < bit t + pair_times a b (xs ++ (c, d) ∷ []) → (0 < bit t + pair_times a b xs) ⊎ (b ≡ d)) [
      | true ↦ λ h. inl (omega arith)
      | false ↦ λ h. ⊎_elim (λ t. inl (omega (arith, t))) (λ e. inr e) (pairs-back a b c d xs (omega (arith, h)))
    ] h

module _ {T : Type 0} where
  pub claimed-still : (v w : View T) (by i : ℕ) (added : List (ℕ × ℕ)) → w.claims ≡ v.claims ++ added → 0 < pair_times by i v.claims → 0 < pair_times by i w.claims
  claimed-still v w by i added e h = subst (λ xs. 0 < pair_times by i xs) (sym e) (omega (arith, h, pairs-more by i v.claims added))

  seen-still : (v w : View T) (i by : ℕ) (added : List (ℕ × ℕ)) → w.seen ≡ v.seen ++ added → 0 < pair_times i by v.seen → 0 < pair_times i by w.seen
  seen-still v w i by added e h = subst (λ xs. 0 < pair_times i by xs) (sym e) (omega (arith, h, pairs-more i by v.seen added))

  -- what was visited stays so where the lists grow
  pub visited-still : (v w : View T) (i : ℕ) (claims seen : List (ℕ × ℕ)) → w.claims ≡ v.claims ++ claims → w.seen ≡ v.seen ++ seen
      → Visited v i → Visited w i
  visited-still v w i claims seen c s h =
      ⊎_elim (λ t. inl (t.0, claimed-still v w t.0 i claims c t.1)) (λ t. inr (t.0, seen-still v w i t.0 seen s t.1)) h

  claim-visited : (v w : View T) (i k : ℕ) → ClaimedNow v i w → (i ≡ k) ⊎ Visited v k → Visited w k
  claim-visited v w i k now h =
      ⊎_elim
      (λ e. inl (v.first, subst (λ xs. 0 < pair_times v.first k xs) (sym now.claims) (subst (λ n. 0 < pair_times v.first k (v.claims ++ (v.first, n) ∷ [])) (sym e) (pairs-last v.first k v.claims))))
      (λ before. visited-still v w k ((v.first, i) ∷ []) [] now.claims (now.seen ∙ sym (append-nil v.seen)) before)
      h

  -- a visit adds its place to those that were visited
  visit-adds : (visit : Visit) (v w : View T) (i k : ℕ) → Visits visit v i w → (i ≡ k) ⊎ Visited v k → Visited w k
  visit-adds Finished v w i k here h = claim-visited v w i k here.0 h
  visit-adds PutOff v w i k here h = claim-visited v w i k here.0 h
  visit-adds Passed v w i k here h =
      let by = here.2 in
      ⊎_elim
      (λ e. inr (by.0, subst (λ xs. 0 < pair_times k by.0 xs) (sym by.1) (subst (λ n. 0 < pair_times k by.0 (v.seen ++ (n, by.0) ∷ [])) (sym e) (pairs-last k by.0 v.seen))))
      (λ before. visited-still v w k [] ((i, by.0) ∷ []) (here.0 ∙ sym (append-nil v.claims)) by.1 before)
      h

  -- a visit's claim is followed by a mark or by a lost try
  visit-accounts : (visit : Visit) (v w : View T) (i : ℕ) → Visits visit v i w → Loses v w → Accounts v w
  visit-accounts Finished v w i here loses =
      omega (arith, ap length here.0.claims, length-append v.claims ((v.first, i) ∷ []), ap length here.1, length-append v.marks (i ∷ []), loses.more)
  visit-accounts PutOff v w i here loses =
      omega (arith, ap length here.0.claims, length-append v.claims ((v.first, i) ∷ []), ap length here.1.0, here.1.1)
  visit-accounts Passed v w i here loses = omega (arith, ap length here.0, ap length here.1, loses.more)

  finished-here : (v w : View T) (i : ℕ) → w.claims ≡ v.claims ++ (v.first, i) ∷ [] → w.marks ≡ v.marks ++ i ∷ [] → FinishesClaims v → FinishesClaims w
  finished-here v w i c m before by k h =
      subst (λ ms. 0 < times_in k ms) (sym m)
      (⊎_elim
      (λ old. omega (arith, before by k old, times-more k v.marks (i ∷ [])))
      (λ e. subst (λ n. 0 < times_in k (v.marks ++ n ∷ [])) e (times-last k v.marks))
      (pairs-back by k v.first i v.claims (subst (λ cs. 0 < pair_times by k cs) c h)))

  -- where no try is lost, each claim is followed by a mark
  finishes-more : (visit : Visit) (v w : View T) (i : ℕ) → Visits visit v i w → w.lost ≡ v.lost → FinishesClaims v → FinishesClaims w
  finishes-more Finished v w i here none before = finished-here v w i here.0.claims here.1 before
  finishes-more PutOff v w i here none before = absurd (omega (arith, ap length none, here.1.1))
  finishes-more Passed v w i here none before =
      λ by k h. subst (λ ms. 0 < times_in k ms) (sym here.1) (before by k (subst (λ cs. 0 < pair_times by k cs) here.0 h))

  -- where the claims and marks are the same, the same places wait
  waits-same : (v w : View T) (places : List ℕ) → w.world ≡ v.world → w.first ≡ v.first → w.claims ≡ v.claims → w.marks ≡ v.marks → Waiting v places → Waiting w places
  waits-same v w places world first claims marks waiting i some_times =
      let h = waiting i some_times in (
        omega (arith, h.0, ap length world),
        subst (λ n. 0 < pair_times n i w.claims) (sym first) (subst (λ cs. 0 < pair_times v.first i cs) (sym claims) h.1),
        omega (arith, h.2, ap (times_in i) marks),
      )

  -- none of them is the place that was just claimed
  other-waits : (v : View T) (places : List ℕ) (i k : ℕ) → Waiting v places → ((by : ℕ) → pair_times by i v.claims ≡ 0) → 0 < times_in k places → i ≢ k
  other-waits v places i k waiting unclaimed some_times e =
      omega (arith, (waiting k some_times).1, subst (λ n. pair_times v.first n v.claims ≡ 0) e (unclaimed v.first))

  -- the places wait still, after another was claimed and maybe finished
  waits-claimed : (v w : View T) (places added : List ℕ) (i : ℕ) → w.world ≡ v.world → w.first ≡ v.first → ClaimedNow v i w → w.marks ≡ v.marks ++ added
      → ((k : ℕ) → i ≢ k → times_in k added ≡ 0) → Waiting v places → Waiting w places
  waits-claimed v w places added i world first now marks none waiting k some_times =
      let h = waiting k some_times in
      let ne = other-waits v places i k waiting now.unclaimed some_times in (
        omega (arith, h.0, ap length world),
        subst (λ n. 0 < pair_times n k w.claims) (sym first) (claimed-still v w v.first k ((v.first, i) ∷ []) now.claims h.1),
        omega (arith, h.2, ap (times_in k) marks, times-append k v.marks added, none k ne),
      )

  pub visit-waits : (visit : Visit) (v w : View T) (places : List ℕ) (i : ℕ) → w.world ≡ v.world → w.first ≡ v.first → Visits visit v i w → Waiting v places → Waiting w places
  visit-waits Finished v w places i world first here waiting =
      waits-claimed v w places (i ∷ []) i world first here.0 here.1 (λ k ne. omega (arith, same-ne i k ne)) waiting
  visit-waits PutOff v w places i world first here waiting =
      waits-claimed v w places [] i world first here.0 (here.1.0 ∙ sym (append-nil v.marks)) (λ k ne. refl) waiting
  visit-waits Passed v w places i world first here waiting = waits-same v w places world first here.0 here.1 waiting

  -- a place that was put off waits with them, if it was noted
  put-off-waits : (v w : View T) (places : List ℕ) (i : ℕ) → i < length v.world → w.world ≡ v.world → w.first ≡ v.first → Visits PutOff v i w → Waiting v places
      → Waiting w (places ++ i ∷ [])
  put-off-waits v w places i inside world first here waiting k some_times =
      dite (ℕ_discrete i k)
      (λ q. (
        omega (arith, inside, ap length world, q),
        subst (λ n. 0 < pair_times n k w.claims) (sym first)
            (subst (λ cs. 0 < pair_times v.first k cs) (sym here.0.claims) (subst (λ n. 0 < pair_times v.first k (v.claims ++ (v.first, n) ∷ [])) (sym q) (pairs-last v.first k v.claims))),
        subst (λ n. times_in n w.marks + times_in n (places ++ i ∷ []) ≡ 1) q
            (omega (arith, ap (times_in i) here.1.0, here.0.unmarked, times-append i places (i ∷ []), eqb-same i, none-there)),
      ))
      (λ ne. let h = visit-waits PutOff v w places i world first here waiting k (omega (arith, some_times, times-append k places (i ∷ []), same-ne i k ne)) in
      (h.0, h.1, omega (arith, h.2, times-append k places (i ∷ []), same-ne i k ne)))
    where
      none-there : times_in i places ≡ 0
      none-there = dite (ℕ_discrete (times_in i places) 0) (λ e. e) (λ ne. absurd (other-waits v places i i waiting here.0.unclaimed (omega (arith, ne)) refl))

  pub noted-waits : (visit : Visit) (v w : View T) (places more : List ℕ) (i : ℕ) → i < length v.world → w.world ≡ v.world → w.first ≡ v.first → Visits visit v i w → Waiting v places
      → (more ≡ places) ⊎ ((visit ≡ PutOff) × (more ≡ places ++ i ∷ [])) → Waiting w more
  noted-waits visit v w places more i inside world first here waiting noted =
      ⊎_elim
      (λ e. subst (λ ps. Waiting w ps) (sym e) (visit-waits visit v w places i world first here waiting))
      (λ e. subst (λ ps. Waiting w ps) (sym e.1) (put-off-waits v w places i inside world first (subst (λ x. Visits x v i w) e.0 here) waiting))
      noted

  pub none-waits : (v : View T) (places : List ℕ) → places ≡ [] → Waiting v places
  none-waits v places e i some_times = absurd (omega (arith, ap (times_in i) e, some_times))

  -- what is known of the last one
  pub last-waits : (v : View T) (places rest : List ℕ) (i : ℕ) → places ≡ rest ++ i ∷ [] → Waiting v places
      → (i < length v.world) × (0 < pair_times v.first i v.claims) × (times_in i v.marks ≡ 0) × (times_in i rest ≡ 0)
  last-waits v places rest i e waiting =
      let count : times_in i places ≡ times_in i rest + 1 = ap (times_in i) e ∙ times-append i rest (i ∷ []) ∙ omega (arith, eqb-same i) in
      let h = waiting i (omega (arith, count)) in
      (h.0, h.1, omega (arith, h.2, count), omega (arith, h.2, count))

  -- the others wait still after it was tried
  pub rest-waits : (is_done : Bool) (v w : View T) (places rest : List ℕ) (i : ℕ) → w.world ≡ v.world → w.first ≡ v.first → w.claims ≡ v.claims → places ≡ rest ++ i ∷ []
      → Ended is_done v i w → Waiting v places → Waiting w rest
  rest-waits is_done v w places rest i world first claims e ended waiting k some_times =
      let last = last-waits v places rest i e waiting in
      let ne : i ≢ k = λ q. omega (arith, some_times, subst (λ n. times_in n rest ≡ 0) q last.3) in
      let h = waiting k (omega (arith, ap (times_in k) e, times-append k rest (i ∷ []), some_times)) in (
        omega (arith, h.0, ap length world),
        subst (λ n. 0 < pair_times n k w.claims) (sym first) (subst (λ cs. 0 < pair_times v.first k cs) (sym claims) h.1),
        omega (arith, h.2, ap (times_in k) e, times-append k rest (i ∷ []), same-ne i k ne, ended-else is_done v w i k ne ended),
      )
    where
      ended-else : (is_done : Bool) (v w : View T) (i k : ℕ) → i ≢ k → Ended is_done v i w → times_in k w.marks ≡ times_in k v.marks
      ended-else true v w i k ne ended = omega (arith, ap (times_in k) ended, times-append k v.marks (i ∷ []), same-ne i k ne)
      ended-else false v w i k ne ended = ap (times_in k) ended.0

  pub finishes-nothing : (v : View T) → Finishes v v
  finishes-nothing v = record { claims = refl; seen = refl; marks = λ i. omega arith; many = omega arith }

  pub finishes-one : (is_done : Bool) (u v w : View T) (i : ℕ) → Finishes u v → w.claims ≡ v.claims → w.seen ≡ v.seen → Ended is_done v i w → Finishes u w
  finishes-one true u v w i so_far claims seen ended =
      record {
        claims = claims ∙ so_far.claims;
        seen = seen ∙ so_far.seen;
        marks = λ k. omega (arith, so_far.marks k, ap (times_in k) ended, times-append k v.marks (i ∷ []));
        many = omega (arith, so_far.many, ap length ended, length-append v.marks (i ∷ []));
      }
  finishes-one false u v w i so_far claims seen ended =
      record {
        claims = claims ∙ so_far.claims;
        seen = seen ∙ so_far.seen;
        marks = λ k. omega (arith, so_far.marks k, ap (times_in k) ended.0);
        many = omega (arith, so_far.many, ap length ended.0);
      }

  pub went-again : (u v w : View T) → WentOver u v → Finishes v w → Loses v w → WentOver u w
  went-again u v w h k loses =
      record {
        visited = λ i inside. visited-still v w i [] [] (k.claims ∙ sym (append-nil v.claims)) (k.seen ∙ sym (append-nil v.seen)) (h.visited i inside);
        accounts = omega (arith, h.accounts, ap length k.claims, k.many, loses.more);
      }

  pub finishes-still : (v w : View T) → Finishes v w → FinishesClaims v → FinishesClaims w
  finishes-still v w k h by i claimed = omega (arith, k.marks i, h by i (subst (λ cs. 0 < pair_times by i cs) k.claims claimed))

  pub goes-nowhere : (from : ℕ) (v : View T) → GoesOver from from v v
  goes-nowhere from v =
      record { visited = λ i above below. absurd (omega (arith, above, below)); still = λ i h. h; accounts = omega arith; alone = λ alone h. h }

  -- one place more
  pub goes-on : (visit : Visit) (from i : ℕ) (u v w : View T) → GoesOver from i u v → Visits visit v i w → Loses v w → (IsAlone u → IsAlone v)
      → GoesOver from (i + 1) u w
  goes-on visit from i u v w so_far here loses alone =
      let one : Accounts v w = visit-accounts visit v w i here loses in
      record {
        visited =
            λ k above below. visit-adds visit v w i k here
            (⊎_elim (λ less. inr (so_far.visited k above less)) (λ not_less. inl (omega (arith, below, not_less))) (cases_lt k i));
        still = λ k h. visit-adds visit v w i k here (inr (so_far.still k h));
        accounts = omega (arith, so_far.accounts, one);
        alone = λ is h. finishes-more visit v w i here (loses.alone (alone is)) (so_far.alone is h);
      }

  -- from the start to the end, and from the first place to the start
  pub goes-round : (start : ℕ) (u v w : View T) → GoesOver start (length u.world) u v → GoesOver 0 start v w → WentOver u w
  goes-round start u v w h k =
      record {
        visited = λ i inside. ⊎_elim (λ less. k.visited i (omega arith) less) (λ not_less. k.still i (h.visited i (omega (arith, not_less)) inside)) (cases_lt i start);
        accounts = omega (arith, h.accounts, k.accounts);
      }

module _ {X T Q : Type 0} {g : Ghosts X T Q} where
  pub worked-same : (a : Seat X T Q g) → (view a).hand ≡ Empty → Worked a a
  worked-same a empty = record { table = refl; hand = empty; world = refl; goal = refl; first = refl; end = refl; all = refl }

  pub worked-on : (a b c : Seat X T Q g) → Worked a b → Worked b c → Worked a c
  worked-on a b c h k =
      record {
        table = k.table ∙ h.table;
        hand = k.hand;
        world = k.world ∙ h.world;
        goal = k.goal ∙ h.goal;
        first = k.first ∙ h.first;
        end = k.end ∙ h.end;
        all = k.all ∙ h.all;
      }

  pub alone-worked : (a b : Seat X T Q g) → Worked a b → IsAlone (view a) → IsAlone (view b)
  alone-worked a b h alone = (h.first ∙ alone.0, h.end ∙ alone.1 ∙ sym h.all)

  pub looked-worked : (a b : Seat X T Q g) → Looked a b → Worked a b
  looked-worked a b h =
      let same = h.unchanged in
      record { table = h.table; hand = h.hand; world = same.world; goal = same.goal; first = same.first; end = same.end; all = same.all }

  -- a finished tile was put under a lock
  pub puts : (a b c : Seat X T Q g) (i : ℕ) → seat_name b ≡ seat_name a → Unchanged (view a) (view b) → seat_name c ≡ seat_name b
      → view c ≡ with_no_hand (with_mark (view b) i)
      → Worked a c × ((view c).claims ≡ (view a).claims) × ((view c).seen ≡ (view a).seen) × Ended true (view a) i (view c) × ((view c).lost ≡ (view b).lost)
  puts a b c i name kept again e = (
    record {
      table = again ∙ name;
      hand = ap (λ x. x.hand) e;
      world = ap (λ x. x.world) e ∙ kept.world;
      goal = ap (λ x. x.goal) e ∙ kept.goal;
      first = ap (λ x. x.first) e ∙ kept.first;
      end = ap (λ x. x.end) e ∙ kept.end;
      all = ap (λ x. x.all) e ∙ kept.all;
    },
    ap (λ x. x.claims) e ∙ kept.claims,
    ap (λ x. x.seen) e ∙ kept.seen,
    ap (λ x. x.marks) e ∙ ap (λ ms. ms ++ i ∷ []) kept.marks,
    ap (λ x. x.lost) e,
  )

  pub claim-worked : (a b : Seat X T Q g) (i : ℕ) → (view a).hand ≡ Empty → seat_name b ≡ seat_name a → view b ≡ with_claim (view a) i
      → Worked a b
  claim-worked a b i empty name e =
      record {
        table = name;
        hand = ap (λ x. x.hand) e ∙ empty;
        world = ap (λ x. x.world) e;
        goal = ap (λ x. x.goal) e;
        first = ap (λ x. x.first) e;
        end = ap (λ x. x.end) e;
        all = ap (λ x. x.all) e;
      }

  pub seen-worked : (a b : Seat X T Q g) (i who : ℕ) → (view a).hand ≡ Empty → seat_name b ≡ seat_name a → view b ≡ with_seen (view a) i who
      → Worked a b
  seen-worked a b i who empty name e =
      record {
        table = name;
        hand = ap (λ x. x.hand) e ∙ empty;
        world = ap (λ x. x.world) e;
        goal = ap (λ x. x.goal) e;
        first = ap (λ x. x.first) e;
        end = ap (λ x. x.end) e;
        all = ap (λ x. x.all) e;
      }

  module _ (table : TileTable X T Q g) (fits : List T → Type 0) (finished : List T → List T) where
    pub ready-on : (a b : Seat X T Q g) → Ready table fits finished a → Worked a b → Ready table fits finished b
    ready-on a b ready h =
        record {
          at = h.table ∙ ready.at;
          hand = h.hand;
          fits = subst fits (sym h.world) ready.fits;
          goal = h.goal ∙ ready.goal ∙ ap finished (sym h.world);
        }

    pub ready-first : (a : Seat X T Q g) (world : List T) (workers : ℕ) → IsAt table a → view a ≡ opening_view world (finished world) workers → fits world
        → Ready table fits finished a
    ready-first a world workers at e made =
        record {
          at = at;
          hand = ap (λ x. x.hand) e;
          fits = subst fits (sym (ap (λ x. x.world) e)) made;
          goal = ap (λ x. x.goal) e ∙ ap finished (sym (ap (λ x. x.world) e));
        }

    pub ready-lower : (a b : Seat X T Q g) (cut : ℕ) → Ready table fits finished a → seat_name b ≡ seat_name a → view b ≡ lower cut (view a)
        → Ready table fits finished b
    ready-lower a b cut ready name e =
        record {
          at = name ∙ ready.at;
          hand = ap (λ x. x.hand) e ∙ ready.hand;
          fits = subst fits (sym (ap (λ x. x.world) e)) ready.fits;
          goal = ap (λ x. x.goal) e ∙ ready.goal ∙ ap finished (sym (ap (λ x. x.world) e));
        }

    pub ready-upper : (a b : Seat X T Q g) (cut : ℕ) → Ready table fits finished a → seat_name b ≡ seat_name a → view b ≡ upper cut (view a)
        → Ready table fits finished b
    ready-upper a b cut ready name e =
        record {
          at = name ∙ ready.at;
          hand = ap (λ x. x.hand) e;
          fits = subst fits (sym (ap (λ x. x.world) e)) ready.fits;
          goal = ap (λ x. x.goal) e ∙ ready.goal ∙ ap finished (sym (ap (λ x. x.world) e));
        }

  -- a seat that was cut, whose parts worked and were put together again
  pub worked-joined : (a low up low_then up_then both : Seat X T Q g) (cut : ℕ) → view low ≡ lower cut (view a) → seat_name low ≡ seat_name a
      → view up ≡ upper cut (view a) → Worked low low_then → Worked up up_then
      → seat_name both ≡ seat_name low_then → view both ≡ joined_views (view low_then) (view up_then) → Worked a both
  worked-joined a low up low_then up_then both cut l name u h k again e =
      record {
        table = again ∙ h.table ∙ name;
        hand = ap (λ x. x.hand) e ∙ h.hand;
        world = ap (λ x. x.world) e ∙ h.world ∙ ap (λ x. x.world) l;
        goal = ap (λ x. x.goal) e ∙ h.goal ∙ ap (λ x. x.goal) l;
        first = ap (λ x. x.first) e ∙ h.first ∙ ap (λ x. x.first) l;
        end = ap (λ x. x.end) e ∙ k.end ∙ ap (λ x. x.end) u;
        all = ap (λ x. x.all) e ∙ h.all ∙ ap (λ x. x.all) l;
      }

  -- the upper seat is the next one
  pub next-range : (a low up low_then up_then : Seat X T Q g) (cut : ℕ) → view low ≡ lower cut (view a) → view up ≡ upper cut (view a)
      → Worked low low_then → Worked up up_then → (view up_then).first ≡ (view low_then).end
  next-range a low up low_then up_then cut l u h k = k.first ∙ ap (λ x. x.first) u ∙ sym (h.end ∙ ap (λ x. x.end) l)

  -- the tiles of the table at its end
  pub tiles-left : (a b : Seat X T Q g) (world goal : List T) (workers : ℕ) (closed : List (Closed X T Q)) → view a ≡ opening_view world goal workers → Worked a b
      → ClosedBy (view b) closed → TilesOf world goal closed
  tiles-left a b world goal workers closed e h by =
      let w : (view b).world ≡ world = h.world ∙ ap (λ x. x.world) e in
      let f : (view b).goal ≡ goal = h.goal ∙ ap (λ x. x.goal) e in
      record {
        many = by.many ∙ ap length w;
        stands =
            λ i c at. subst (λ ts. At (tiles_by c.done ts goal) i c.tile) w
            (subst (λ ts. At (tiles_by c.done (view b).world ts) i c.tile) f (by.stands i c at));
      }

  -- what two halves did is what both did
  pub both-went : (a low up low_then up_then both : Seat X T Q g) (cut : ℕ) → view low ≡ lower cut (view a) → view up ≡ upper cut (view a)
      → view both ≡ joined_views (view low_then) (view up_then) → WentOver (view low) (view low_then) → WentOver (view up) (view up_then)
      → WentOver (view a) (view both)
  both-went a low up low_then up_then both cut l u e h k =
      record {
        visited =
            λ i inside. visited-still (view low_then) (view both) i (view up_then).claims (view up_then).seen (ap (λ x. x.claims) e) (ap (λ x. x.seen) e)
            (h.visited i (omega (arith, inside, ap (λ x. length x.world) l)));
        accounts =
            omega (
              arith,
              h.accounts,
              k.accounts,
              ap (λ x. length x.claims) l,
              ap (λ x. length x.marks) l,
              ap (λ x. length x.lost) l,
              ap (λ x. length x.claims) u,
              ap (λ x. length x.marks) u,
              ap (λ x. length x.lost) u,
              ap (λ x. length x.claims) e,
              ap (λ x. length x.marks) e,
              ap (λ x. length x.lost) e,
              length-append (view low_then).claims (view up_then).claims,
              length-append (view low_then).marks (view up_then).marks,
              length-append (view low_then).lost (view up_then).lost,
            );
      }
