-- a seat claims a place that nobody has claimed
use Rattle.std.proofs.Common.{◌≡◌, ℕ, ◌+◌, ◌*◌, ◌<◌, ◌≢◌, List, [], ◌∷◌, ◌++◌, length, refl, ap, sym, ◌∙◌, subst, arith}
use Rattle.std.specs.Prelude.{slice_index, slice_set}
use Rattle.std.proofs.lemmas.List.{length-set}
use mathlib.Core.Logic.{dite}
use native.Mathlib.Decide.{ℕ_discrete}
use Rattle.tile_table.specs.declared.view.View.{View}
use Rattle.tile_table.specs.Counts.{same_bit, pair_times, total}
use Rattle.tile_table.specs.Views.{claiming, marking, with_claim}
use Rattle.tile_table.specs.Shows.{Table, Shows, Knows, claim_of, lock_of, mark_of}
use Rattle.tile_table.proofs.Bits.{same-ne, same-shift, both-same, both-other}
use Rattle.tile_table.proofs.Sums.{pairs-append}
use Rattle.tile_table.proofs.Words.{read-here, read-else}
use Rattle.tile_table.proofs.Facts.{own-claim}
use Rattle.tile_table.proofs.Rebuilt.{Keeps, become, rebuilt}

module _ {T : Type 0} where
  -- what nobody has claimed the seat hasn't marked
  pub unmarked : (s : Table T) → Shows s → (k : ℕ) (v : View T) (i : ℕ) → Knows s k v → claim_of s i ≡ 0 → marking i v ≡ 0
  unmarked s sh k v i at free =
      dite (ℕ_discrete (marking i v) 0) (λ e. e)
      (λ ne. let c = sh.marks.claimed k v i at (omega arith) in absurd (omega (arith, own-claim s sh k v c.0 i at c.1, free)))

  -- and hasn't claimed
  pub unclaimed : (s : Table T) → Shows s → (k : ℕ) (v : View T) (i : ℕ) → Knows s k v → claim_of s i ≡ 0 → (by : ℕ) → claiming by i v ≡ 0
  unclaimed s sh k v i at free by =
      dite (ℕ_discrete (claiming by i v) 0) (λ e. e)
      (λ ne. absurd (omega (arith, own-claim s sh k v by i at (omega arith), free)))

  pub claims-place : (s : Table T) → (sh : Shows s) → (k : ℕ) (v : View T) (j : ℕ) → Knows s k v → v.first < v.end
      → claim_of s j ≡ 0 → j < length s.homes
      → Shows (become s (slice_set s.words (3 * j) (v.first + 1)) s.homes k (with_claim v j))
  claims-place s sh k v j at live free inside =
      let word : ℕ = 3 * j in
      let ws : List ℕ = slice_set s.words word (v.first + 1) in
      let w : View T = with_claim v j in
      let there : word < length s.words = omega (arith, sh.one_world.words, inside) in
      let here : slice_index ws word ≡ v.first + 1 = read-here s.words word (v.first + 1) there in
      let else : (b : ℕ) → b ≢ word → slice_index ws b ≡ slice_index s.words b = λ b ne. read-else s.words word b (v.first + 1) ne in
      let locks : (i : ℕ) → slice_index ws (3 * i + 1) ≡ lock_of s i = λ i. else (3 * i + 1) (λ e. omega arith) in
      let marks : (i : ℕ) → slice_index ws (3 * i + 2) ≡ mark_of s i = λ i. else (3 * i + 2) (λ e. omega arith) in
      let claims : (i : ℕ) → i ≢ j → slice_index ws (3 * i) ≡ claim_of s i = λ i ne. else (3 * i) (λ e. ne (omega arith)) in
      let more : (n i : ℕ) → claiming n i w ≡ claiming n i v + pair_times n i ((v.first, j) ∷ []) = λ n i. pairs-append n i v.claims ((v.first, j) ∷ []) in
      let keep : Keeps s sh.world sh.goal k v w ws s.homes =
      record {
        words = length-set s.words word (v.first + 1);
        slots = refl;
        holders = λ n i. omega (arith, sh.locks.holders n i, ap (λ x. same_bit x (n + 2)) (locks i));
        taken = λ i n e. sh.locks.taken k v i n at e;
        more_takes = λ n i. omega arith;
        claims =
            λ n i. dite (ℕ_discrete i j)
            (λ e. subst (λ x. total (claiming n x) s.views + claiming n x w ≡ same_bit (slice_index ws (3 * x)) (n + 1) + claiming n x v) (sym e)
            (omega (arith, more n j, both-same v.first j n j refl, sh.claims n j, same-ne (claim_of s j) (n + 1) (λ q. omega (arith, free)), ap (λ x. same_bit x (n + 1)) here, same-shift v.first n 1)))
            (λ ne. omega (arith, more n i, both-other v.first j n i (λ e. ne (sym e)), sh.claims n i, ap (λ x. same_bit x (n + 1)) (claims i ne)));
        claims_stay =
            λ n i e. dite (ℕ_discrete i j)
            (λ q. absurd (omega (arith, subst (λ x. claim_of s x ≡ n + 1) q e, free)))
            (λ ne. claims i ne ∙ e);
        marks = λ i. omega (arith, sh.marks.marks i, marks i);
        once = λ i. omega (arith, sh.marks.once i, marks i);
        marks_stay = λ i e. marks i ∙ e;
        free = λ i low. omega (arith, locks i, marks i, sh.marks.free i (omega (arith, locks i, low)));
        hand = λ i n e. marks i ∙ sh.marks.hands k v i n at e;
        hands = λ l u i n bt ne e. marks i ∙ sh.marks.hands l u i n bt e;
        claimed = λ i h. let c = sh.marks.claimed k v i at h in (c.0, omega (arith, more c.0 i, c.1));
        homes = λ i n u e stands. sh.homes i n u (sym (locks i) ∙ e) stands;
      }
      in rebuilt s sh k v at live ws s.homes v.hand (v.claims ++ (v.first, j) ∷ []) v.takes v.marks keep
