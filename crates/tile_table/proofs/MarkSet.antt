-- a seat sets the mark of the place in hand, which it has claimed
use Rattle.std.proofs.Common.{◌≡◌, ℕ, ◌+◌, ◌*◌, ◌<◌, ◌≢◌, Bool, true, List, [], ◌∷◌, ◌++◌, length, refl, ap, sym, ◌∙◌, subst, arith}
use Rattle.std.specs.Prelude.{slice_index, slice_set}
use Rattle.std.proofs.lemmas.List.{length-set}
use mathlib.Core.Logic.{dite}
use native.Mathlib.Decide.{ℕ_discrete}
use Rattle.tile_table.specs.declared.view.View.{View}
use Rattle.tile_table.specs.declared.view.Hand.TheVariants.{Holds}
use Rattle.tile_table.specs.Counts.{bit, same_bit, times_in}
use Rattle.tile_table.specs.Views.{held, claiming, marking, holding, with_mark}
use Rattle.tile_table.specs.Shows.{Table, Shows, Knows, claim_of, lock_of, mark_of}
use Rattle.tile_table.proofs.Bits.{same-eq, same-ne, both-eq, within}
use Rattle.tile_table.proofs.Sums.{times-append}
use Rattle.tile_table.proofs.Words.{read-here, read-else}
use Rattle.tile_table.proofs.Hands.{same-place, same-mark, word-of-hand, inside-of-word}
use Rattle.tile_table.proofs.Facts.{lives, one-seat, not-yet}
use Rattle.tile_table.proofs.Rebuilt.{Keeps, become, rebuilt}

module _ {T : Type 0} where
  -- no other seat holds the place
  one-holder : (s : Table T) → Shows s → (k l i : ℕ) (v u : View T) (m n : Bool) → Knows s k v → Knows s l u → v.first < v.end → v.hand ≡ Holds i m → u.hand ≡ Holds i n → l ≡ k
  one-holder s sh k l i v u m n at bt live a b =
      let p : lock_of s i ≡ v.first + 2 = word-of-hand s sh k v i m at a in
      let q : lock_of s i ≡ u.first + 2 = word-of-hand s sh l u i n bt b in
      let pos : holding u.first i u ≡ 1 = ap (held u.first i u.first) b ∙ both-eq u.first i u.first i refl refl in
      let alive : u.first < u.end = lives s sh l u bt (holding u.first i) refl (omega (arith, pos)) in
      one-seat s sh k l v.first v u at bt (omega (arith, within v.first v.first v.end (omega arith) live)) (omega (arith, within u.first v.first u.end (omega arith) (omega arith)))

  pub sets-mark : (s : Table T) → (sh : Shows s) → (k : ℕ) (v : View T) (j : ℕ) (m : Bool) → Knows s k v → v.first < v.end
      → v.hand ≡ Holds j m → 0 < claiming v.first j v → marking j v ≡ 0
      → Shows (become s (slice_set s.words (3 * j + 2) 1) s.homes k (with_mark v j))
  sets-mark s sh k v j m at live has mine nil =
      let word : ℕ = 3 * j + 2 in
      let ws : List ℕ = slice_set s.words word 1 in
      let w : View T = with_mark v j in
      let was : lock_of s j ≡ v.first + 2 = word-of-hand s sh k v j m at has in
      let inside : j < length s.homes = inside-of-word s sh j v.first was in
      let clear : mark_of s j ≡ 0 = not-yet s sh k v j at mine nil in
      let there : word < length s.words = omega (arith, sh.one_world.words, inside) in
      let here : slice_index ws word ≡ 1 = read-here s.words word 1 there in
      let else : (b : ℕ) → b ≢ word → slice_index ws b ≡ slice_index s.words b = λ b ne. read-else s.words word b 1 ne in
      let on : (n i : ℕ) → holding n i v ≡ held n i v.first (Holds j m) = λ n i. ap (held n i v.first) has in
      let locks : (i : ℕ) → slice_index ws (3 * i + 1) ≡ lock_of s i = λ i. else (3 * i + 1) (λ e. omega arith) in
      let marks : (i : ℕ) → i ≢ j → slice_index ws (3 * i + 2) ≡ mark_of s i = λ i ne. else (3 * i + 2) (λ e. ne (omega arith)) in
      let claims : (i : ℕ) → slice_index ws (3 * i) ≡ claim_of s i = λ i. else (3 * i) (λ e. omega arith) in
      let more : (i : ℕ) → marking i w ≡ marking i v + times_in i (j ∷ []) = λ i. times-append i v.marks (j ∷ []) in
      let set : (i : ℕ) → i ≡ j → slice_index ws (3 * i + 2) ≡ 1 = λ i e. subst (λ x. slice_index ws (3 * x + 2) ≡ 1) (sym e) here in
      let keep : Keeps s sh.world sh.goal k v w ws s.homes =
      record {
        words = length-set s.words word 1;
        slots = refl;
        holders = λ n i. omega (arith, sh.locks.holders n i, on n i, ap (λ x. same_bit x (n + 2)) (locks i));
        taken = λ i n e. sh.locks.taken k v i m at (has ∙ ap (λ x. Holds x m) (same-place j i true n e));
        more_takes = λ n i. omega arith;
        claims = λ n i. omega (arith, sh.claims n i, ap (λ x. same_bit x (n + 1)) (claims i));
        claims_stay = λ n i e. claims i ∙ e;
        marks =
            λ i. dite (ℕ_discrete i j)
            (λ e. omega (arith, more i, sh.marks.marks i, set i e, subst (λ x. mark_of s x ≡ 0) (sym e) clear, same-eq j i (sym e)))
            (λ ne. omega (arith, more i, sh.marks.marks i, marks i ne, same-ne j i (λ e. ne (sym e))));
        once = λ i. dite (ℕ_discrete i j) (λ e. omega (arith, set i e)) (λ ne. omega (arith, sh.marks.once i, marks i ne));
        marks_stay = λ i e. dite (ℕ_discrete i j) (λ q. set i q) (λ ne. marks i ne ∙ e);
        free =
            λ i low. dite (ℕ_discrete i j)
            (λ e. absurd (omega (arith, locks i, low, subst (λ x. lock_of s x ≡ v.first + 2) (sym e) was)))
            (λ ne. omega (arith, locks i, marks i ne, sh.marks.free i (omega (arith, locks i, low))));
        hand = λ i n e. set i (sym (same-place j i true n e)) ∙ ap bit (same-mark j i true n e);
        hands =
            λ l u i n bt ne e. dite (ℕ_discrete i j)
            (λ q. absurd (ne (one-holder s sh k l j v u m n at bt live has (e ∙ ap (λ x. Holds x n) q))))
            (λ no. marks i no ∙ sh.marks.hands l u i n bt e);
        claimed =
            λ i h. dite (ℕ_discrete i j)
            (λ e. (v.first, subst (λ x. 0 < claiming v.first x v) (sym e) mine))
            (λ ne. sh.marks.claimed k v i at (omega (arith, more i, same-ne j i (λ e. ne (sym e)), h)));
        homes = λ i n u e stands. sh.homes i n u (sym (locks i) ∙ e) stands;
      }
      in rebuilt s sh k v at live ws s.homes (Holds j true) v.claims v.takes (v.marks ++ j ∷ []) keep
