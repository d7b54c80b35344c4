-- what each atomic step owes the table: a new view and an act that keep the rule, and what the step tells
use Rattle.std.proofs.Common.{◌≡◌, ℕ, zero, suc, ◌+◌, ◌*◌, ◌<◌, ◌≤◌, Bool, true, false, List, [], ◌∷◌, ◌++◌, length, refl, ap, sym, ◌∙◌, subst, eqb, arith}
use Rattle.std.specs.Prelude.{Option, Some, None, slice_index, slice_set}
use prog.Atomic.{either}
use Rattle.atomic_table.specs.Table.{Act, keeps, takes, gives, stepped, Valid, carried_after, Allows}
use Rattle.tile_machine.specs.At.{At}
use Rattle.tile_table.specs.declared.view.View.{View}
use Rattle.tile_table.specs.declared.view.Hand.TheVariants.{Empty, Holds}
use Rattle.tile_table.specs.Counts.{bit, times_in, pair_times, total}
use Rattle.tile_table.specs.Views.{tiles_by, claiming, marking, taking, with_claim, with_seen, with_take, with_known, with_lost, with_mark, with_no_hand}
use Rattle.tile_table.specs.Shows.{Table, Shows, Knows, claim_of, lock_of, mark_of}
use Rattle.tile_table.specs.Inner.Steps.{Sat, claim_read, claim_seen, claimed, claim_told, tried, lock_told, Took, LostTo, marked, freed}
use Rattle.tile_table.proofs.Bits.{bit-le, both-some, same-some}
use Rattle.tile_table.proofs.Sums.{times-append, pairs-append}
use Rattle.tile_table.proofs.Words.{write-same, either-hit, either-miss}
use Rattle.tile_table.proofs.Facts.{own-mark, not-yet, another, tile-there, tile-home, bit-true, bit-false}
use Rattle.tile_table.proofs.Looks.{looked}
use Rattle.tile_table.proofs.Taking.{takes-lock}
use Rattle.tile_table.proofs.Freeing.{frees-lock}
use Rattle.tile_table.proofs.Claiming.{claims-place, unmarked, unclaimed}
use Rattle.tile_table.proofs.MarkSet.{sets-mark}

-- the list of a seat has one pair more
one-more : (a b j h : ℕ) (xs : List (ℕ × ℕ)) (P : Type 0) → 0 < pair_times a b (xs ++ (j, h) ∷ []) → (0 < pair_times a b xs → P) → (j ≡ a → h ≡ b → P) → P
one-more a b j h xs P pos old new =
    let m = pairs-append a b xs ((j, h) ∷ []) in
    cases (pair_times a b xs) refl m
  where
    cases : (n : ℕ) → pair_times a b xs ≡ n → pair_times a b (xs ++ (j, h) ∷ []) ≡ pair_times a b xs + pair_times a b ((j, h) ∷ []) → P
    cases zero e m = let t = both-some j h a b (omega (arith, pos, m, e)) in new t.0 t.1
    cases (suc n) e m = old (omega (arith, e))

module _ {T : Type 0} where
  -- a step of the seat `id` in this state, which has found n in the word i: the word becomes x
  abbrev pub Goes : Table T → ℕ → Sat T → ℕ → ℕ → (Sat T → Type 0) → Type 0
  Goes s id me i x told = (w : View T) × (a : Act (Option T)) × Valid s.homes me.1 a × Shows (stepped s i x id me.1 w a) × told (w, carried_after me.1 a)

  -- the seat knows more, and the word keeps its number
  reads-on : (s : Table T) → Shows s → (id : ℕ) (me : Sat T) (i n x : ℕ) (w : View T) (told : Sat T → Type 0)
      → slice_index s.words i ≡ n → x ≡ n → Shows record { words = s.words; homes = s.homes; views = slice_set s.views id w } → told (w, me.1)
      → Goes s id me i x told
  reads-on s sh id me i n x w told found same-x shows says =
      (w, keeps, tt, subst (λ ws. Shows record { words = ws; homes = s.homes; views = slice_set s.views id w }) (sym (write-same s.words i x (found ∙ sym same-x))) shows, says)

  saw-claim : (s : Table T) → Shows s → (id : ℕ) (me : Sat T) (i by x : ℕ) → Knows s id me.0 → me.0.first < me.0.end → claim_of s i ≡ by + 1 → x ≡ by + 1
      → Goes s id me (3 * i) x (λ r. r ≡ (with_seen me.0 i by, me.1))
  saw-claim s sh id me i by x at live found e =
      let v = me.0 in
      reads-on s sh id me (3 * i) (by + 1) x (with_seen v i by) (λ r. r ≡ (with_seen v i by, me.1)) found e
      (looked s sh id v at live (v.seen ++ (i, by) ∷ []) v.lost v.known
      (λ a b h. one-more a b i by v.seen (claim_of s a ≡ b + 1) h (λ p. sh.reads.seen id v a b at p) (λ p q. subst (λ n. claim_of s n ≡ b + 1) p (found ∙ ap (λ n. n + 1) q)))
      (λ j h p. sh.reads.lost id v j h at p)
      (λ j p. sh.reads.known id v j at p))
      refl

  had-claim : (s : Table T) → Shows s → (id : ℕ) (me : Sat T) (i x : ℕ) → Knows s id me.0 → me.0.first < me.0.end → i < length s.homes → claim_of s i ≡ 0 → x ≡ me.0.first + 1
      → Goes s id me (3 * i) x (λ r. (r ≡ (with_claim me.0 i, me.1)) × (times_in i me.0.marks ≡ 0) × ((by : ℕ) → pair_times by i me.0.claims ≡ 0))
  had-claim s sh id me i x at live inside found e =
      let v = me.0 in (
        with_claim v i,
        keeps,
        tt,
        subst (λ n. Shows (stepped s (3 * i) n id me.1 (with_claim v i) keeps)) (sym e) (claims-place s sh id v i at live found inside),
        (refl, unmarked s sh id v i at found, unclaimed s sh id v i at found),
      )

  sees-at : (s : Table T) → Shows s → (id : ℕ) (me : Sat T) (i : ℕ) → Knows s id me.0 → me.0.first < me.0.end → (n : ℕ) → claim_of s i ≡ n
      → Goes s id me (3 * i) n (claim_read i me n)
  sees-at s sh id me i at live zero found =
      let v = me.0 in
      reads-on s sh id me (3 * i) 0 0 v (λ r. r ≡ me) found refl
      (looked s sh id v at live v.seen v.lost v.known (λ a b p. sh.reads.seen id v a b at p) (λ j h p. sh.reads.lost id v j h at p) (λ j p. sh.reads.known id v j at p))
      refl
  sees-at s sh id me i at live (suc by) found = saw-claim s sh id me i by (suc by) at live (omega (arith, found)) (omega arith)

  -- the look at a claim word
  pub sees-claim : (slots id : ℕ) (me : Sat T) (i : ℕ) → me.0.first < me.0.end → Allows Shows slots id me (3 * i) (λ n. n) (claim_seen (3 * i) me)
  sees-claim slots id me i live s sh len at fits =
      let g = sees-at s sh id me i at live (claim_of s i) refl in (
        g.0,
        g.1,
        g.2,
        g.3,
        λ j e. subst (λ n. claim_read n me (claim_of s i) (g.0, carried_after me.1 g.1)) (omega (arith, e)) g.4,
      )

  claims-at : (s : Table T) → Shows s → (id : ℕ) (me : Sat T) (i number : ℕ) → Knows s id me.0 → me.0.first < me.0.end → i < length s.homes → number ≡ me.0.first
      → (n : ℕ) → claim_of s i ≡ n → Goes s id me (3 * i) (either (eqb n 0) (number + 1) n) (claim_told i me n)
  claims-at s sh id me i number at live inside own zero found = had-claim s sh id me i _ at live inside found (either-hit 0 0 (number + 1) refl ∙ ap (λ n. n + 1) own)
  claims-at s sh id me i number at live inside own (suc by) found = saw-claim s sh id me i by _ at live (omega (arith, found)) (either-miss (suc by) 0 (number + 1) (λ e. omega arith) ∙ omega arith)

  -- the exchange on a claim word
  pub claims : (slots id : ℕ) (me : Sat T) (i number : ℕ) → me.0.first < me.0.end → number ≡ me.0.first → i < slots
      → Allows Shows slots id me (3 * i) (λ n. either (eqb n 0) (number + 1) n) (claimed (3 * i) me)
  claims slots id me i number live own inside s sh len at fits =
      let g = claims-at s sh id me i number at live (omega (arith, len, inside)) own (claim_of s i) refl in (
        g.0,
        g.1,
        g.2,
        g.3,
        λ j e. subst (λ n. claim_told n me (claim_of s i) (g.0, carried_after me.1 g.1)) (omega (arith, e)) g.4,
      )

  -- the seat knows the place as marked
  saw-marked : (s : Table T) → Shows s → (id : ℕ) (me : Sat T) (j x : ℕ) → Knows s id me.0 → me.0.first < me.0.end → lock_of s j ≡ 1 → x ≡ 1
      → Goes s id me (3 * j + 1) x (λ r. r ≡ (with_known me.0 j, me.1))
  saw-marked s sh id me j x at live found e =
      let v = me.0 in
      let mark : mark_of s j ≡ 1 = sym (sh.marks.free j (omega (arith, found))) ∙ found in
      reads-on s sh id me (3 * j + 1) 1 x (with_known v j) (λ r. r ≡ (with_known v j, me.1)) found e
      (looked s sh id v at live v.seen v.lost (v.known ++ j ∷ [])
      (λ i by p. sh.reads.seen id v i by at p)
      (λ i h p. sh.reads.lost id v i h at p)
      (λ i p. known-more i (times_in i v.known) refl p))
      refl
    where
      known-more : (i n : ℕ) → times_in i me.0.known ≡ n → 0 < times_in i (me.0.known ++ j ∷ []) → mark_of s i ≡ 1
      known-more i zero e p =
          subst (λ n. mark_of s n ≡ 1) (same-some j i (omega (arith, times-append i me.0.known (j ∷ []), p, e))) (sym (sh.marks.free j (omega (arith, found))) ∙ found)
      known-more i (suc n) e p = sh.reads.known id me.0 i at (omega (arith, e))

  -- another held the lock
  saw-holder : (s : Table T) → Shows s → (id : ℕ) (me : Sat T) (j h x : ℕ) → Knows s id me.0 → me.0.first < me.0.end → me.0.hand ≡ Empty → lock_of s j ≡ h + 2 → x ≡ h + 2
      → Goes s id me (3 * j + 1) x (LostTo me j h)
  saw-holder s sh id me j h x at live empty found e =
      let v = me.0 in
      let a = another s sh id v j h at live empty found in
      reads-on s sh id me (3 * j + 1) (h + 2) x (with_lost v j h) (LostTo me j h) found e
      (looked s sh id v at live v.seen (v.lost ++ (j, h) ∷ []) v.known
      (λ i by p. sh.reads.seen id v i by at p)
      (λ p q pos. one-more p q j h v.lost (0 < total (taking q p) s.views) pos (λ t. sh.reads.lost id v p q at t) (λ c d. subst (λ n. 0 < total (taking q n) s.views) c (subst (λ n. 0 < total (taking n j) s.views) d a.1)))
      (λ i p. sh.reads.known id v i at p))
      (refl, a.0)

  -- the lock was free, with this spelling
  had-lock : (s : Table T) → Shows s → (id : ℕ) (me : Sat T) (j x : ℕ) (m : Bool) → Knows s id me.0 → me.0.first < me.0.end → me.0.hand ≡ Empty → j < length s.homes
      → lock_of s j ≡ bit m → x ≡ me.0.first + 2
      → Goes s id me (3 * j + 1) x (Took me j m)
  had-lock s sh id me j x m at live empty inside found e =
      let v = me.0 in
      let le : bit m ≤ 1 = bit-le m in
      let mark : mark_of s j ≡ bit m = sym (sh.marks.free j (omega (arith, found, le))) ∙ found in
      let t = tile-there s sh id v j m at live inside in
      let act : Act (Option T) = takes j (Some t.0) in (
        with_take v j m,
        act,
        sh.homes j m t.0 found (tile-home s sh id v j m t.0 at live found t.1),
        subst (λ n. Shows (stepped s (3 * j + 1) n id me.1 (with_take v j m) act)) (sym e) (takes-lock s sh id v j m at live empty found inside),
        record {
          tile = t.0;
          after = refl;
          stands = t.1;
          own_mark = λ p. bit-true m (omega (arith, own-mark s sh id v j at p, mark));
          own_claim = λ p nil. bit-false m (sym mark ∙ not-yet s sh id v j at p nil);
        },
      )

  tries-at : (s : Table T) → Shows s → (id : ℕ) (me : Sat T) (m : Bool) (j number : ℕ) → Knows s id me.0 → me.0.first < me.0.end → me.0.hand ≡ Empty → j < length s.homes → number ≡ me.0.first
      → (m ≡ true → 0 < times_in j me.0.known)
      → (n : ℕ) → lock_of s j ≡ n → Goes s id me (3 * j + 1) (either (eqb n (bit m)) (number + 2) n) (lock_told m j me n)
  tries-at s sh id me false j number at live empty inside own known zero found =
      had-lock s sh id me j _ false at live empty inside found (either-hit 0 0 (number + 2) refl ∙ ap (λ n. n + 2) own)
  tries-at s sh id me false j number at live empty inside own known (suc zero) found = saw-marked s sh id me j _ at live found (either-miss 1 0 (number + 2) (λ e. omega arith))
  tries-at s sh id me false j number at live empty inside own known (suc (suc h)) found =
      saw-holder s sh id me j h _ at live empty (omega (arith, found)) (either-miss (suc (suc h)) 0 (number + 2) (λ e. omega arith) ∙ omega arith)
  tries-at s sh id me true j number at live empty inside own known zero found =
      absurd (omega (arith, sh.reads.known id me.0 j at (known refl), sh.marks.free j (omega (arith, found)), found))
  tries-at s sh id me true j number at live empty inside own known (suc zero) found =
      had-lock s sh id me j _ true at live empty inside found (either-hit 1 1 (number + 2) refl ∙ ap (λ n. n + 2) own)
  tries-at s sh id me true j number at live empty inside own known (suc (suc h)) found =
      saw-holder s sh id me j h _ at live empty (omega (arith, found)) (either-miss (suc (suc h)) 1 (number + 2) (λ e. omega arith) ∙ omega arith)

  -- the exchange on a lock word, with either spelling. The spelling "free, marked" is tried where the place is known as marked
  pub tries : (slots id : ℕ) (me : Sat T) (m : Bool) (j number : ℕ) → me.0.first < me.0.end → me.0.hand ≡ Empty → number ≡ me.0.first → j < slots → (m ≡ true → 0 < times_in j me.0.known)
      → Allows Shows slots id me (3 * j + 1) (λ n. either (eqb n (bit m)) (number + 2) n) (tried m (3 * j + 1) me)
  tries slots id me m j number live empty own inside known s sh len at fits =
      let g = tries-at s sh id me m j number at live empty (omega (arith, len, inside)) own known (lock_of s j) refl in (
        g.0,
        g.1,
        g.2,
        g.3,
        λ i e. subst (λ n. lock_told m n me (lock_of s j) (g.0, carried_after me.1 g.1)) (omega (arith, e)) g.4,
      )

  -- the store to a mark word, while the value is out
  pub marks : (slots id : ℕ) (me : Sat T) (v : View T) (j : ℕ) (m : Bool) → me ≡ (v, (j, None) ∷ []) → v.first < v.end → v.hand ≡ Holds j m → 0 < claiming v.first j v → marking j v ≡ 0
      → Allows Shows slots id me (3 * j + 2) (λ _. 1) (λ _. marked (3 * j + 2) me)
  marks slots id me v j m is live has mine nil =
      subst (λ x. Allows Shows slots id x (3 * j + 2) (λ _. 1) (λ _. marked (3 * j + 2) x)) (sym is)
      (λ s sh len at fits. (
        with_mark v j,
        keeps,
        tt,
        sets-mark s sh id v j m at live has mine nil,
        λ i e. let same : j ≡ i = omega (arith, e) in (
          mark-same v j i same,
          ap (λ n. (n, None) ∷ []) same,
        ),
      ))
    where
      mark-same : (v : View T) (j i : ℕ) → j ≡ i → ◌≡◌ {A = Sat T} (with_mark v j, (j, None) ∷ []) (with_mark v i, (j, None) ∷ [])
      mark-same v j i same = ap (λ n. (with_mark v n, (j, None) ∷ [])) same

  -- the store to the lock word of the place in hand, whose value is in its slot again
  pub frees : (slots id : ℕ) (me : Sat T) (v : View T) (j n : ℕ) (m : Bool) (t : T) → me ≡ (v, (j, Some t) ∷ []) → v.first < v.end
      → v.hand ≡ Holds j m → At (tiles_by m v.world v.goal) j t → n ≡ bit m
      → Allows Shows slots id me (3 * j + 1) (λ _. n) (λ _. freed me)
  frees slots id me v j n m t is live has stands spelled =
      subst (λ x. Allows Shows slots id x (3 * j + 1) (λ _. n) (λ _. freed x)) (sym is)
      (λ s sh len at fits.
      let w = sh.one_world.worlds id v at live in
      let stood : At (tiles_by m sh.world sh.goal) j t = subst (λ g. At (tiles_by m sh.world g) j t) w.1 (subst (λ x. At (tiles_by m x v.goal) j t) w.0 stands) in (
        with_no_hand v,
        gives,
        tt,
        subst (λ x. Shows (stepped s (3 * j + 1) x id ((j, Some t) ∷ []) (with_no_hand v) gives)) (sym spelled) (frees-lock s sh id v j m t at live has stood),
        (refl, (j, t, refl)),
      ))
