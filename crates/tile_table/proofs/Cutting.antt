-- a range is cut in two, and two ranges are put together
use Rattle.std.proofs.Common.{◌≡◌, ℕ, zero, suc, ◌+◌, ◌<◌, ◌≤◌, ◌⊎◌, inl, inr, ⊎_elim, Bool, ◌&&◌, nat_le, nat_lt, List, [], ◌∷◌, ◌++◌, refl, ap, sym, ◌∙◌, subst, arith}
use Rattle.std.specs.Prelude.{slice_set}
use Rattle.std.proofs.Math.ListN.{get_elem?}
use mathlib.Core.Option.{some}
use Rattle.atomic_table.specs.Table.{Splits, Joins}
use Rattle.atomic_table.proofs.Lists.{at_snoc, set_else}
use Rattle.tile_table.specs.declared.view.View.{View}
use Rattle.tile_table.specs.declared.view.Hand.TheVariants.{Empty, Holds}
use Rattle.tile_table.specs.Counts.{bit, times_in, pair_times, total}
use Rattle.tile_table.specs.Views.{held, nobody, lower, upper, joined_views, covering, claiming, taking, marking, holding}
use Rattle.tile_table.specs.Shows.{Shows, claim_of, mark_of}
use Rattle.tile_table.proofs.Bits.{cut, no-range}
use Rattle.tile_table.proofs.Sums.{total-append, total-set, each-set, times-append, pairs-append}
use Rattle.tile_table.proofs.Hands.{not-empty}

part_of : (a b : ℕ) → 0 < a + b → (0 < a) ⊎ (0 < b)
part_of zero b h = inr (omega arith)
part_of (suc a) b h = inl (omega arith)

module _ {V : Type 0} where
  -- a fact of each view, after one was added at the end
  pub each-snoc : (P : V → Type 0) (l : List V) (a : V) → P a → ((j : ℕ) (v : V) → get_elem? l j ≡ some v → P v) → (j : ℕ) (v : V) → get_elem? (l ++ a ∷ []) j ≡ some v → P v
  each-snoc P l a here others j v at = ⊎_elim (λ t. others j v t) (λ e. subst P e here) (at_snoc l a v j at)

  -- the sum over views of which one was cut in two
  total-cut : (f : V → ℕ) (l : List V) (k : ℕ) (v a b : V) → get_elem? l k ≡ some v → f a + f b ≡ f v → total f (slice_set l k a ++ b ∷ []) ≡ total f l
  total-cut f l k v a b at e = omega (arith, total-append f (slice_set l k a) (b ∷ []), total-set f l k v a at, e)

  -- and of which two were put together, and the other was ended
  total-joined : (f : V → ℕ) (l : List V) (k i : ℕ) (v w a e : V) → get_elem? l k ≡ some v → get_elem? (slice_set l k a) i ≡ some w → f a ≡ f v + f w → f e ≡ 0
      → total f (slice_set (slice_set l k a) i e) ≡ total f l
  total-joined f l k i v w a e at bt s z = omega (arith, total-set f l k v a at, total-set f (slice_set l k a) i w e bt, s, z)

module _ {T : Type 0} where
  pub splits : (id : ℕ) (v : View T) (x : ℕ) → v.first < x → x < v.end → Splits Shows id v (lower x v) (upper x v)
  splits id v x above below s sh at =
      let views : List (View T) = slice_set s.views id (lower x v) ++ upper x v ∷ [] in
      let o = sh.one_world in
      let each : (P : View T → Type 0) → P (lower x v) → P (upper x v) → ((j : ℕ) (u : View T) → get_elem? s.views j ≡ some u → P u) → (j : ℕ) (u : View T) → get_elem? views j ≡ some u → P u =
      λ P low up others. each-snoc P (slice_set s.views id (lower x v)) (upper x v) up (each-set (λ j u. P u) s.views id (lower x v) low (λ j u bt ne. others j u bt)) in
      let sums : (f : View T → ℕ) → f (lower x v) + f (upper x v) ≡ f v → total f views ≡ total f s.views = λ f e. total-cut f s.views id v (lower x v) (upper x v) at e in
      let takes : (n i : ℕ) → total (taking n i) views ≡ total (taking n i) s.views = λ n i. sums (taking n i) (omega arith) in
      let live : v.first < v.end = omega (arith, above, below) in
      record {
        world = sh.world;
        goal = sh.goal;
        workers = sh.workers;
        one_world =
            record {
              words = o.words;
              world_places = o.world_places;
              goal_places = o.goal_places;
              worlds = each (λ u. u.first < u.end → (u.world ≡ sh.world) × (u.goal ≡ sh.goal) × (u.all ≡ sh.workers)) (λ h. o.worlds id v at live) (λ h. o.worlds id v at live) o.worlds;
              ranges = λ n. sums (covering n) (cut v.first x v.end n (omega (arith, above)) (omega (arith, below))) ∙ o.ranges n;
              ended = each (λ u. u.end ≤ u.first → u ≡ nobody) (λ h. absurd (omega (arith, above, h))) (λ h. absurd (omega (arith, below, h))) o.ended;
            };
        locks =
            record {
              holders = λ n i. sums (holding n i) (omega arith) ∙ sh.locks.holders n i;
              taken =
                  λ j u i m bt. each (λ u. (i : ℕ) (m : Bool) → u.hand ≡ Holds i m → 0 < taking u.first i u) (λ i m e. sh.locks.taken id v i m at e) (λ i m e. absurd (not-empty i m e)) (λ j u bt i m e. sh.locks.taken j u i m bt e) j u bt i m;
            };
        claims = λ n i. sums (claiming n i) (omega arith) ∙ sh.claims n i;
        marks =
            record {
              marks = λ i. sums (marking i) (omega arith) ∙ sh.marks.marks i;
              once = sh.marks.once;
              free = sh.marks.free;
              hands = λ j u i m bt. each (λ u. (i : ℕ) (m : Bool) → u.hand ≡ Holds i m → mark_of s i ≡ bit m) (λ i m e. sh.marks.hands id v i m at e) (λ i m e. absurd (not-empty i m e)) (λ j u bt i m e. sh.marks.hands j u i m bt e) j u bt i m;
              claimed = λ j u i bt. each (λ u. (i : ℕ) → 0 < marking i u → (n : ℕ) × (0 < claiming n i u)) (λ i h. sh.marks.claimed id v i at h) (λ i h. absurd (omega (arith, h))) (λ j u bt i h. sh.marks.claimed j u i bt h) j u bt i;
            };
        homes = sh.homes;
        reads =
            record {
              known = λ j u i bt. each (λ u. (i : ℕ) → 0 < times_in i u.known → mark_of s i ≡ 1) (λ i h. sh.reads.known id v i at h) (λ i h. absurd (omega (arith, h))) (λ j u bt i h. sh.reads.known j u i bt h) j u bt i;
              seen = λ j u i by bt. each (λ u. (i by : ℕ) → 0 < pair_times i by u.seen → claim_of s i ≡ by + 1) (λ i by h. sh.reads.seen id v i by at h) (λ i by h. absurd (omega (arith, h))) (λ j u bt i by h. sh.reads.seen j u i by bt h) j u bt i by;
              lost =
                  λ j u i h bt. each (λ u. (i h : ℕ) → 0 < pair_times i h u.lost → 0 < total (taking h i) views)
                  (λ i h p. omega (arith, takes h i, sh.reads.lost id v i h at p))
                  (λ i h p. absurd (omega (arith, p)))
                  (λ j u bt i h p. omega (arith, takes h i, sh.reads.lost j u i h bt p)) j u bt i h;
            };
      }

  pub joins : (id other : ℕ) (v w : View T) → v.first < v.end → w.first < w.end → w.first ≡ v.end → w.hand ≡ Empty → Joins Shows id v other w (joined_views v w) nobody
  joins id other v w live alive next empty s sh at apart bt =
      let both : View T = joined_views v w in
      let views : List (View T) = slice_set (slice_set s.views id both) other nobody in
      let o = sh.one_world in
      let wt : get_elem? s.views other ≡ some w = sym (set_else s.views id other both apart) ∙ bt in
      let each : (P : View T → Type 0) → P both → P nobody → ((j : ℕ) (u : View T) → get_elem? s.views j ≡ some u → P u) → (j : ℕ) (u : View T) → get_elem? views j ≡ some u → P u =
      λ P one none others. each-set (λ j u. P u) (slice_set s.views id both) other nobody none (λ j u bt ne. each-set (λ j u. P u) s.views id both one (λ j u bt ne. others j u bt) j u bt) in
      let sums : (f : View T → ℕ) → f both ≡ f v + f w → f nobody ≡ 0 → total f views ≡ total f s.views = λ f e z. total-joined f s.views id other v w both nobody at bt e z in
      let takes : (n i : ℕ) → total (taking n i) views ≡ total (taking n i) s.views = λ n i. sums (taking n i) (pairs-append n i v.takes w.takes) refl in
      let ranges : (n : ℕ) → covering n both ≡ covering n v + covering n w =
      λ n. sym (subst (λ m. covering n v + bit (nat_le m n && nat_lt n w.end) ≡ covering n both) (sym next) (cut v.first v.end w.end n (omega (arith, live)) (omega (arith, next, alive)))) in
      record {
        world = sh.world;
        goal = sh.goal;
        workers = sh.workers;
        one_world =
            record {
              words = o.words;
              world_places = o.world_places;
              goal_places = o.goal_places;
              worlds = each (λ u. u.first < u.end → (u.world ≡ sh.world) × (u.goal ≡ sh.goal) × (u.all ≡ sh.workers)) (λ h. o.worlds id v at live) (λ h. absurd (omega (arith, h))) o.worlds;
              ranges = λ n. sums (covering n) (ranges n) (no-range n) ∙ o.ranges n;
              ended = each (λ u. u.end ≤ u.first → u ≡ nobody) (λ h. absurd (omega (arith, live, next, alive, h))) (λ h. refl) o.ended;
            };
        locks =
            record {
              holders = λ n i. sums (holding n i) (omega (arith, ap (held n i w.first) empty)) refl ∙ sh.locks.holders n i;
              taken =
                  λ j u i m bt. each (λ u. (i : ℕ) (m : Bool) → u.hand ≡ Holds i m → 0 < taking u.first i u)
                  (λ i m e. omega (arith, pairs-append v.first i v.takes w.takes, sh.locks.taken id v i m at e)) (λ i m e. absurd (not-empty i m e)) (λ j u bt i m e. sh.locks.taken j u i m bt e) j u bt i m;
            };
        claims = λ n i. sums (claiming n i) (pairs-append n i v.claims w.claims) refl ∙ sh.claims n i;
        marks =
            record {
              marks = λ i. sums (marking i) (times-append i v.marks w.marks) refl ∙ sh.marks.marks i;
              once = sh.marks.once;
              free = sh.marks.free;
              hands = λ j u i m bt. each (λ u. (i : ℕ) (m : Bool) → u.hand ≡ Holds i m → mark_of s i ≡ bit m) (λ i m e. sh.marks.hands id v i m at e) (λ i m e. absurd (not-empty i m e)) (λ j u bt i m e. sh.marks.hands j u i m bt e) j u bt i m;
              claimed =
                  λ j u i bt. each (λ u. (i : ℕ) → 0 < marking i u → (n : ℕ) × (0 < claiming n i u))
                  (λ i h. ⊎_elim
                  (λ p. let c = sh.marks.claimed id v i at p in (c.0, omega (arith, pairs-append c.0 i v.claims w.claims, c.1)))
                  (λ p. let c = sh.marks.claimed other w i wt p in (c.0, omega (arith, pairs-append c.0 i v.claims w.claims, c.1)))
                  (part_of (marking i v) (marking i w) (omega (arith, times-append i v.marks w.marks, h))))
                  (λ i h. absurd (omega (arith, h))) (λ j u bt i h. sh.marks.claimed j u i bt h) j u bt i;
            };
        homes = sh.homes;
        reads =
            record {
              known =
                  λ j u i bt. each (λ u. (i : ℕ) → 0 < times_in i u.known → mark_of s i ≡ 1)
                  (λ i h. ⊎_elim (λ p. sh.reads.known id v i at p) (λ p. sh.reads.known other w i wt p) (part_of (times_in i v.known) (times_in i w.known) (omega (arith, times-append i v.known w.known, h))))
                  (λ i h. absurd (omega (arith, h))) (λ j u bt i h. sh.reads.known j u i bt h) j u bt i;
              seen =
                  λ j u i by bt. each (λ u. (i by : ℕ) → 0 < pair_times i by u.seen → claim_of s i ≡ by + 1)
                  (λ i by h. ⊎_elim (λ p. sh.reads.seen id v i by at p) (λ p. sh.reads.seen other w i by wt p) (part_of (pair_times i by v.seen) (pair_times i by w.seen) (omega (arith, pairs-append i by v.seen w.seen, h))))
                  (λ i by h. absurd (omega (arith, h))) (λ j u bt i by h. sh.reads.seen j u i by bt h) j u bt i by;
              lost =
                  λ j u i h bt. each (λ u. (i h : ℕ) → 0 < pair_times i h u.lost → 0 < total (taking h i) views)
                  (λ i h p. ⊎_elim
                  (λ q. omega (arith, takes h i, sh.reads.lost id v i h at q))
                  (λ q. omega (arith, takes h i, sh.reads.lost other w i h wt q))
                  (part_of (pair_times i h v.lost) (pair_times i h w.lost) (omega (arith, pairs-append i h v.lost w.lost, p))))
                  (λ i h p. absurd (omega (arith, p)))
                  (λ j u bt i h p. omega (arith, takes h i, sh.reads.lost j u i h bt p)) j u bt i h;
            };
      }
