-- a seat with an empty hand takes a free lock
use Rattle.std.proofs.Common.{◌≡◌, ℕ, ◌+◌, ◌*◌, ◌<◌, ◌≤◌, ◌≢◌, Bool, List, [], ◌∷◌, ◌++◌, length, refl, ap, sym, ◌∙◌, subst, arith}
use Rattle.std.specs.Prelude.{Option, slice_index, slice_set}
use Rattle.std.proofs.lemmas.List.{length-set}
use mathlib.Core.Option.{Option as Maybe, none}
use mathlib.Core.Logic.{dite}
use native.Mathlib.Decide.{ℕ_discrete}
use Rattle.atomic_table.proofs.Lists.{set_else}
use Rattle.tile_table.specs.declared.view.View.{View}
use Rattle.tile_table.specs.declared.view.Hand.TheVariants.{Empty, Holds}
use Rattle.tile_table.specs.Counts.{bit, same_bit, total}
use Rattle.tile_table.specs.Views.{held, holding, with_take}
use Rattle.tile_table.specs.Shows.{Table, Shows, Knows, claim_of, lock_of, mark_of}
use Rattle.tile_table.proofs.Bits.{bit-le, same-ne, same-shift, both-same, both-other, both-eq}
use Rattle.tile_table.proofs.Sums.{pairs-append}
use Rattle.tile_table.proofs.Words.{read-here, read-else}
use Rattle.tile_table.proofs.Hands.{same-place, same-mark}
use Rattle.tile_table.proofs.Rebuilt.{Keeps, become, rebuilt}

module _ {T : Type 0} where
  pub takes-lock : (s : Table T) → (sh : Shows s) → (k : ℕ) (v : View T) (j : ℕ) (m : Bool) → Knows s k v → v.first < v.end
      → v.hand ≡ Empty → lock_of s j ≡ bit m → j < length s.homes
      → Shows (become s (slice_set s.words (3 * j + 1) (v.first + 2)) (slice_set s.homes j none) k (with_take v j m))
  takes-lock s sh k v j m at live empty free inside =
      let word : ℕ = 3 * j + 1 in
      let ws : List ℕ = slice_set s.words word (v.first + 2) in
      let hs : List (Maybe (Option T)) = slice_set s.homes j none in
      let w : View T = with_take v j m in
      let le : bit m ≤ 1 = bit-le m in
      let there : word < length s.words = omega (arith, sh.one_world.words, inside) in
      let here : slice_index ws word ≡ v.first + 2 = read-here s.words word (v.first + 2) there in
      let else : (b : ℕ) → b ≢ word → slice_index ws b ≡ slice_index s.words b = λ b ne. read-else s.words word b (v.first + 2) ne in
      let mark : mark_of s j ≡ bit m = sym (sh.marks.free j (omega (arith, free, le))) ∙ free in
      let off : (n i : ℕ) → holding n i v ≡ 0 = λ n i. ap (held n i v.first) empty in
      let lock : (i : ℕ) → i ≢ j → slice_index ws (3 * i + 1) ≡ lock_of s i = λ i ne. else (3 * i + 1) (λ e. ne (omega arith)) in
      let marks : (i : ℕ) → slice_index ws (3 * i + 2) ≡ mark_of s i = λ i. else (3 * i + 2) (λ e. omega arith) in
      let claims : (i : ℕ) → slice_index ws (3 * i) ≡ claim_of s i = λ i. else (3 * i) (λ e. omega arith) in
      let keep : Keeps s sh.world sh.goal k v w ws hs =
      record {
        words = length-set s.words word (v.first + 2);
        slots = length-set s.homes j none;
        holders =
            λ n i. dite (ℕ_discrete i j)
            (λ e. subst (λ x. total (holding n x) s.views + holding n x w ≡ same_bit (slice_index ws (3 * x + 1)) (n + 2) + holding n x v) (sym e)
            (omega (arith, both-same v.first j n j refl, off n j, sh.locks.holders n j, same-ne (lock_of s j) (n + 2) (λ q. omega (arith, free, le)), ap (λ x. same_bit x (n + 2)) here, same-shift v.first n 2)))
            (λ ne. omega (arith, both-other v.first j n i (λ e. ne (sym e)), off n i, sh.locks.holders n i, ap (λ x. same_bit x (n + 2)) (lock i ne)));
        taken = λ i n e. omega (arith, pairs-append v.first i v.takes ((v.first, j) ∷ []), both-eq v.first j v.first i refl (same-place j i m n e));
        more_takes = λ n i. omega (arith, pairs-append n i v.takes ((v.first, j) ∷ []));
        claims = λ n i. omega (arith, sh.claims n i, ap (λ x. same_bit x (n + 1)) (claims i));
        claims_stay = λ n i e. claims i ∙ e;
        marks = λ i. omega (arith, sh.marks.marks i, marks i);
        once = λ i. omega (arith, sh.marks.once i, marks i);
        marks_stay = λ i e. marks i ∙ e;
        free =
            λ i low. dite (ℕ_discrete i j)
            (λ e. absurd (omega (arith, subst (λ x. slice_index ws (3 * x + 1) < 2) e low, here)))
            (λ ne. omega (arith, lock i ne, marks i, sh.marks.free i (omega (arith, lock i ne, low))));
        hand = λ i n e. subst (λ x. slice_index ws (3 * x + 2) ≡ bit n) (same-place j i m n e) (marks j ∙ mark ∙ ap bit (same-mark j i m n e));
        hands = λ l u i n bt ne e. marks i ∙ sh.marks.hands l u i n bt e;
        claimed = λ i h. sh.marks.claimed k v i at h;
        homes =
            λ i n t e stands. dite (ℕ_discrete i j)
            (λ q. let le2 : bit n ≤ 1 = bit-le n in absurd (omega (arith, subst (λ x. slice_index ws (3 * x + 1) ≡ bit n) q e, here, le2)))
            (λ ne. set_else s.homes j i none ne ∙ sh.homes i n t (sym (lock i ne) ∙ e) stands);
      }
      in rebuilt s sh k v at live ws hs (Holds j m) v.claims (v.takes ++ (v.first, j) ∷ []) v.marks keep
