-- a seat gives the lock back that it holds, with the tile that the mark says
use Rattle.std.proofs.Common.{◌≡◌, ℕ, ◌+◌, ◌*◌, ◌<◌, ◌≤◌, ◌≢◌, Bool, true, false, List, length, refl, ap, sym, ◌∙◌, subst, arith}
use Rattle.std.specs.Prelude.{Option, Some, slice_index, slice_set}
use Rattle.std.proofs.lemmas.List.{length-set}
use Rattle.std.proofs.Math.ListN.{get_elem?}
use mathlib.Core.Option.{Option as Maybe, some, some-injective}
use mathlib.Core.Logic.{dite}
use native.Mathlib.Decide.{ℕ_discrete}
use Rattle.atomic_table.proofs.Lists.{set_here, set_else}
use Rattle.tile_machine.specs.At.{At}
use Rattle.tile_table.specs.declared.view.View.{View}
use Rattle.tile_table.specs.declared.view.Hand.TheVariants.{Empty, Holds}
use Rattle.tile_table.specs.Counts.{bit, same_bit, total}
use Rattle.tile_table.specs.Views.{tiles_by, held, holding, with_no_hand}
use Rattle.tile_table.specs.Shows.{Table, Shows, Knows, claim_of, lock_of, mark_of}
use Rattle.tile_table.proofs.Bits.{bit-le, same-ne, same-shift, both-same, both-other}
use Rattle.tile_table.proofs.Words.{read-here, read-else}
use Rattle.tile_table.proofs.Hands.{not-empty, word-of-hand, inside-of-word}
use Rattle.tile_table.proofs.Rebuilt.{Keeps, become, rebuilt}

pub bit-injective : (m n : Bool) → bit m ≡ bit n → m ≡ n
bit-injective true true e = refl
bit-injective true false e = absurd (omega arith)
bit-injective false true e = absurd (omega arith)
bit-injective false false e = refl

module _ {T : Type 0} where
  -- one tile stands at a place
  one-tile : (world goal : List T) (m n : Bool) (j : ℕ) (t u : T) → m ≡ n → At (tiles_by m world goal) j t → At (tiles_by n world goal) j u → t ≡ u
  one-tile world goal m n j t u e a b =
      some-injective t u (sym a ∙ ap (λ x. get_elem? (tiles_by x world goal) j) e ∙ b)

  pub frees-lock : (s : Table T) → (sh : Shows s) → (k : ℕ) (v : View T) (j : ℕ) (m : Bool) (t : T) → Knows s k v → v.first < v.end
      → v.hand ≡ Holds j m → At (tiles_by m sh.world sh.goal) j t
      → Shows (become s (slice_set s.words (3 * j + 1) (bit m)) (slice_set s.homes j (some (Some t))) k (with_no_hand v))
  frees-lock s sh k v j m t at live has stood =
      let word : ℕ = 3 * j + 1 in
      let ws : List ℕ = slice_set s.words word (bit m) in
      let hs : List (Maybe (Option T)) = slice_set s.homes j (some (Some t)) in
      let w : View T = with_no_hand v in
      let le : bit m ≤ 1 = bit-le m in
      let was : lock_of s j ≡ v.first + 2 = word-of-hand s sh k v j m at has in
      let inside : j < length s.homes = inside-of-word s sh j v.first was in
      let there : word < length s.words = omega (arith, sh.one_world.words, inside) in
      let here : slice_index ws word ≡ bit m = read-here s.words word (bit m) there in
      let else : (b : ℕ) → b ≢ word → slice_index ws b ≡ slice_index s.words b = λ b ne. read-else s.words word b (bit m) ne in
      let mark : mark_of s j ≡ bit m = sh.marks.hands k v j m at has in
      let on : (n i : ℕ) → holding n i v ≡ held n i v.first (Holds j m) = λ n i. ap (held n i v.first) has in
      let lock : (i : ℕ) → i ≢ j → slice_index ws (3 * i + 1) ≡ lock_of s i = λ i ne. else (3 * i + 1) (λ e. ne (omega arith)) in
      let marks : (i : ℕ) → slice_index ws (3 * i + 2) ≡ mark_of s i = λ i. else (3 * i + 2) (λ e. omega arith) in
      let claims : (i : ℕ) → slice_index ws (3 * i) ≡ claim_of s i = λ i. else (3 * i) (λ e. omega arith) in
      let keep : Keeps s sh.world sh.goal k v w ws hs =
      record {
        words = length-set s.words word (bit m);
        slots = length-set s.homes j (some (Some t));
        holders =
            λ n i. dite (ℕ_discrete i j)
            (λ e. subst (λ x. total (holding n x) s.views + holding n x w ≡ same_bit (slice_index ws (3 * x + 1)) (n + 2) + holding n x v) (sym e)
            (omega (arith, both-same v.first j n j refl, on n j, sh.locks.holders n j, same-ne (bit m) (n + 2) (λ q. omega (arith, le)), ap (λ x. same_bit x (n + 2)) here, ap (λ x. same_bit x (n + 2)) was, same-shift v.first n 2)))
            (λ ne. omega (arith, both-other v.first j n i (λ e. ne (sym e)), on n i, sh.locks.holders n i, ap (λ x. same_bit x (n + 2)) (lock i ne)));
        taken = λ i n e. absurd (not-empty i n e);
        more_takes = λ n i. omega arith;
        claims = λ n i. omega (arith, sh.claims n i, ap (λ x. same_bit x (n + 1)) (claims i));
        claims_stay = λ n i e. claims i ∙ e;
        marks = λ i. omega (arith, sh.marks.marks i, marks i);
        once = λ i. omega (arith, sh.marks.once i, marks i);
        marks_stay = λ i e. marks i ∙ e;
        free =
            λ i low. dite (ℕ_discrete i j)
            (λ e. subst (λ x. slice_index ws (3 * x + 1) ≡ slice_index ws (3 * x + 2)) (sym e) (here ∙ sym (marks j ∙ mark)))
            (λ ne. omega (arith, lock i ne, marks i, sh.marks.free i (omega (arith, lock i ne, low))));
        hand = λ i n e. absurd (not-empty i n e);
        hands = λ l u i n bt ne e. marks i ∙ sh.marks.hands l u i n bt e;
        claimed = λ i h. sh.marks.claimed k v i at h;
        homes =
            λ i n u e stands. dite (ℕ_discrete i j)
            (λ q. let b : bit m ≡ bit n = sym here ∙ subst (λ x. slice_index ws (3 * x + 1) ≡ bit n) q e in
            let one : t ≡ u = one-tile sh.world sh.goal m n j t u (bit-injective m n b) stood (subst (λ x. At (tiles_by n sh.world sh.goal) x u) q stands) in
            subst (λ x. get_elem? hs x ≡ some (some (Some u))) (sym q) (set_here s.homes j (some (Some t)) inside ∙ ap (λ y. some (some (Some y))) one))
            (λ ne. set_else s.homes j i (some (Some t)) ne ∙ sh.homes i n u (sym (lock i ne) ∙ e) stands);
      }
      in rebuilt s sh k v at live ws hs Empty v.claims v.takes v.marks keep
