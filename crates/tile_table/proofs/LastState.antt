-- what a table holds at its end, when one seat has all the numbers and holds no lock
use Rattle.std.proofs.Common.{◌≡◌, ℕ, zero, suc, ◌+◌, ◌-◌, ◌*◌, ◌<◌, ◌≤◌, ◌≢◌, ◌⊎◌, inl, inr, ⊎_elim, List, [], ◌∷◌, ◌++◌, length, refl, ap, sym, ◌∙◌, subst, eqb, nat_lt, arith}
use Rattle.std.specs.Prelude.{Option, Some, None, slice_index}
use Rattle.std.proofs.lemmas.Bool.Decides.{nat_tests}
use Rattle.std.proofs.Math.ListN.{get_elem?}
use mathlib.Core.Option.{some, some-injective, some-ne-none}
use mathlib.Core.Logic.{dite}
use native.Mathlib.Decide.{dec_lt}
use Rattle.atomic_table.specs.Table.{Final, Seen}
use Rattle.tile_machine.specs.At.{At}
use Rattle.tile_table.specs.declared.view.View.{View}
use Rattle.tile_table.specs.declared.view.Hand.TheVariants.{Empty}
use Rattle.tile_table.specs.declared.seat.Closed.{Closed}
use Rattle.tile_table.specs.Counts.{bit, times_in, total}
use Rattle.tile_table.specs.Views.{tiles_by, held, nobody, covering, marking, holding}
use Rattle.tile_table.specs.Shows.{Table, Shows, Knows, lock_of, mark_of}
use Rattle.tile_table.proofs.Bits.{same-eq, within, below-some}
use Rattle.tile_table.proofs.Sums.{total-has}
use Rattle.tile_table.proofs.Facts.{one-seat, tile-there, tile-home}

module _ {V : Type 0} where
  total-none : (f : V → ℕ) (l : List V) → ((j : ℕ) (u : V) → get_elem? l j ≡ some u → f u ≡ 0) → total f l ≡ 0
  total-none f [] h = refl
  total-none f (x ∷ xs) h = omega (arith, h zero x refl, total-none f xs (λ j u at. h (suc j) u at))

  -- the other views have no part in the sum
  total-only : (f : V → ℕ) (l : List V) (k : ℕ) (v : V) → get_elem? l k ≡ some v → ((j : ℕ) (u : V) → get_elem? l j ≡ some u → j ≢ k → f u ≡ 0) → total f l ≡ f v
  total-only f [] k v at h = absurd (some-ne-none v (sym at))
  total-only f (x ∷ xs) zero v at h =
      let e : f x ≡ f v = ap f (some-injective x v at) in omega (arith, e, total-none f xs (λ j u bt. h (suc j) u bt (λ e. omega arith)))
  total-only f (x ∷ xs) (suc k) v at h = omega (arith, h zero x refl (λ e. omega arith), total-only f xs k v at (λ j u bt ne. h (suc j) u bt (λ e. ne (omega arith))))

  at-snoc : (l : List V) (a b : V) (j : ℕ) → get_elem? (l ++ a ∷ []) j ≡ some b → (get_elem? l j ≡ some b) ⊎ ((j ≡ length l) × (a ≡ b))
  at-snoc [] a b zero e = inr (refl, some-injective a b e)
  at-snoc [] a b (suc j) e = absurd (some-ne-none b (sym e))
  at-snoc (x ∷ xs) a b zero e = inl e
  at-snoc (x ∷ xs) a b (suc j) e = ⊎_elim (λ t. inl t) (λ t. inr (ap suc t.0, t.1)) (at-snoc xs a b j e)

index-of : (l : List ℕ) (i n : ℕ) → get_elem? l i ≡ some n → slice_index l i ≡ n
index-of [] i n e = absurd (some-ne-none n (sym e))
index-of (x ∷ xs) zero n e = some-injective x n e
index-of (x ∷ xs) (suc i) n e = index-of xs i n e

bit-eq : (n : ℕ) → n ≤ 1 → n ≡ bit (eqb n 1)
bit-eq n h = grind (arith, nat_tests)

marked-test : (n m : ℕ) → n ≡ m → n ≤ 1 → eqb n 1 ≡ nat_lt 0 m
marked-test n m e h = grind (arith, nat_tests)

module _ {T : Type 0} where
  -- one seat with all the numbers: the others have ended
  alone : (s : Table T) → Shows s → (id : ℕ) (v : View T) → Knows s id v → v.first < v.end → v.first ≡ 0 → v.end ≡ v.all
      → (j : ℕ) (u : View T) → Knows s j u → j ≢ id → u ≡ nobody
  alone s sh id v at live first all j u bt ne =
      dite (dec_lt u.first u.end)
      (λ alive.
      let c : covering u.first u ≡ 1 = within u.first u.first u.end (omega arith) alive in
      let below : u.first < sh.workers = below-some u.first sh.workers (omega (arith, c, total-has (covering u.first) s.views j u bt, sh.one_world.ranges u.first)) in
      let mine : covering u.first v ≡ 1 = within v.first u.first v.end (omega (arith, first)) (omega (arith, below, all, (sh.one_world.worlds id v at live).2)) in
      absurd (ne (one-seat s sh id j u.first v u at bt (omega (arith, mine)) (omega (arith, c)))))
      (λ no. sh.one_world.ended j u bt (omega arith))

  pub closes-at : (words : List ℕ) (slots : List (Option T)) (id : ℕ) (v : View T) → Final (Seen Shows id v) words slots
      → v.first < v.end → v.first ≡ 0 → v.end ≡ v.all → v.hand ≡ Empty
      → (i n : ℕ) → i < length v.world → get_elem? words (3 * i + 2) ≡ some n
      → (eqb n 1 ≡ nat_lt 0 (times_in i v.marks)) × ((t : T) × At (tiles_by (eqb n 1) v.world v.goal) i t × (get_elem? slots i ≡ some (Some t)))
  closes-at words slots id v final live first all empty i n inside read =
      let s = final.0 in let sh = final.1.0 in let at = final.1.1 in
      let others = alone s sh id v at live first all in
      let sum : (f : View T → ℕ) → f nobody ≡ 0 → total f s.views ≡ f v = λ f z. total-only f s.views id v at (λ j u bt ne. ap f (others j u bt ne) ∙ z) in
      let mark : mark_of s i ≡ n = ap (λ ws. slice_index ws (3 * i + 2)) final.2 ∙ index-of words (3 * i + 2) n read in
      let marks : n ≡ times_in i v.marks = sym mark ∙ sym (sh.marks.marks i) ∙ sum (marking i) refl in
      let small : n ≤ 1 = omega (arith, mark, sh.marks.once i) in
      let free : lock_of s i < 2 =
      dite (dec_lt (lock_of s i) 2) (λ h. h)
      (λ ne. absurd (omega (arith, sh.locks.holders (lock_of s i - 2) i, sum (holding (lock_of s i - 2) i) refl, ap (held (lock_of s i - 2) i v.first) empty, same-eq (lock_of s i) (lock_of s i - 2 + 2) (omega arith)))) in
      let word : lock_of s i ≡ bit (eqb n 1) = sh.marks.free i free ∙ mark ∙ bit-eq n small in
      let place : i < length s.homes = omega (arith, inside, ap length (sh.one_world.worlds id v at live).0, sh.one_world.world_places) in
      let t = tile-there s sh id v i (eqb n 1) at live place in (
        marked-test n (times_in i v.marks) marks small,
        (t.0, t.1, final.4 i (Some t.0) (sh.homes i (eqb n 1) t.0 word (tile-home s sh id v i (eqb n 1) t.0 at live word t.1))),
      )

  abbrev tile-or : T → Option T → T
  tile-or d None = d
  tile-or d (Some t) = t

  -- the tile that was found in a slot
  pub same-tile : (slots : List (Option T)) (i : ℕ) (x : Option T) (t u : T) → get_elem? slots i ≡ some x → x ≡ Some u → get_elem? slots i ≡ some (Some t) → t ≡ u
  same-tile slots i x t u a e b = ap (tile-or t) (some-injective (Some t) x (sym b ∙ a) ∙ e)

module _ {X T Q : Type 0} where
  -- the tiles so far are those of a table's end
  pub record ClosedSoFar (v : View T) (tiles : List (Closed X T Q)) : Type 0 where
    pub done : (i : ℕ) (c : Closed X T Q) → At tiles i c → c.done ≡ nat_lt 0 (times_in i v.marks)
    pub stands : (i : ℕ) (c : Closed X T Q) → At tiles i c → At (tiles_by c.done v.world v.goal) i c.tile

  pub none-closed : (v : View T) (tiles : List (Closed X T Q)) → tiles ≡ [] → ClosedSoFar v tiles
  none-closed v tiles e =
      subst (λ ts. ClosedSoFar v ts) (sym e)
      record { done = λ i c at. absurd (some-ne-none c (sym at)); stands = λ i c at. absurd (some-ne-none c (sym at)) }

  pub one-more-closed : (v : View T) (tiles : List (Closed X T Q)) (c : Closed X T Q) → ClosedSoFar v tiles
      → c.done ≡ nat_lt 0 (times_in (length tiles) v.marks) → At (tiles_by c.done v.world v.goal) (length tiles) c.tile
      → ClosedSoFar v (tiles ++ c ∷ [])
  one-more-closed v tiles c so done stands =
      record {
        done =
            λ i d at. ⊎_elim (λ t. so.done i d t)
            (λ t. subst (λ x. x.done ≡ nat_lt 0 (times_in i v.marks)) t.1 (subst (λ n. c.done ≡ nat_lt 0 (times_in n v.marks)) (sym t.0) done))
            (at-snoc tiles c d i at);
        stands =
            λ i d at. ⊎_elim (λ t. so.stands i d t)
            (λ t. subst (λ x. At (tiles_by x.done v.world v.goal) i x.tile) t.1 (subst (λ n. At (tiles_by c.done v.world v.goal) n c.tile) (sym t.0) stands))
            (at-snoc tiles c d i at);
      }
