-- lists of f of each number, and the worker of a seat
use Rattle.std.proofs.Common.{◌≡◌, ℕ, zero, suc, ◌+◌, ◌<◌, ◌≤◌, ◌≢◌, Bool, true, false, ◌&&◌, List, [], ◌∷◌, length, refl, ap, sym, ◌∙◌, eqb, nat_lt, arith}
use Rattle.std.specs.Prelude.{Some, None, slice_get, slice_set, if◌then◌else◌}
use Rattle.std.proofs.lemmas.Bool.Decides.{nat_tests}
use Rattle.std.proofs.Math.ListN.{get_elem?}
use mathlib.Core.Option.{some, some-injective, some-ne-none}
use Rattle.tile_machine.specs.State.{worker_of, cell_of, if_live}
use Rattle.tile_table.specs.declared.view.View.{View}
use Rattle.tile_table.specs.Views.{covering}
use Rattle.tile_table.specs.Shows.{Table, Shows, Knows}
use Rattle.tile_table.specs.Events.{listed, worker_of_view, is_worker, worker_at, shown, cell_at}
use Rattle.tile_table.proofs.Bits.{within, below-some}
use Rattle.tile_table.proofs.Sums.{total-has}
use Rattle.tile_table.proofs.Facts.{one-seat}

module _ {A : Type 0} where
  pub get-listed : (f : ℕ → A) (i n j : ℕ) → j < n → slice_get (listed f i n) j ≡ Some (f (i + j))
  get-listed f i zero j h = absurd (omega arith)
  get-listed f i (suc n) zero h = ap (λ k. Some (f k)) (omega arith)
  get-listed f i (suc n) (suc j) h = get-listed f (suc i) n j (omega arith) ∙ ap (λ k. Some (f k)) (omega arith)

  pub same-listed : (f g : ℕ → A) (i n : ℕ) → ((k : ℕ) → i ≤ k → f k ≡ g k) → listed f i n ≡ listed g i n
  same-listed f g i zero h = refl
  same-listed f g i (suc n) h = ap (λ x. x ∷ listed f (suc i) n) (h i (omega arith)) ∙ ap (λ xs. g i ∷ xs) (same-listed f g (suc i) n (λ k le. h k (omega arith)))

  pub set-listed : (f g : ℕ → A) (i n j : ℕ) (x : A) → x ≡ g (i + j) → ((k : ℕ) → k ≢ i + j → f k ≡ g k) → slice_set (listed f i n) j x ≡ listed g i n
  set-listed f g i zero j x here h = refl
  set-listed f g i (suc n) zero x here h =
      ap (λ y. y ∷ listed f (suc i) n) (here ∙ ap g (omega arith)) ∙ ap (λ xs. g i ∷ xs) (same-listed f g (suc i) n (λ k le. h k (λ e. omega (arith, e, le))))
  set-listed f g i (suc n) (suc j) x here h =
      ap (λ y. y ∷ slice_set (listed f (suc i) n) j x) (h i (λ e. omega (arith, e))) ∙ ap (λ xs. g i ∷ xs) (set-listed f g (suc i) n j x (here ∙ ap g (omega arith)) (λ k ne. h k (λ e. ne (omega (arith, e)))))

  pub choose : (b : Bool) (x y z : A) → (b ≡ true → x ≡ z) → (b ≡ false → y ≡ z) → (if b then x else y) ≡ z
  choose true x y z t f = t refl
  choose false x y z t f = f refl

module _ {T : Type 0} where
  pub named-by : (v : View T) (n : ℕ) → is_worker n v ≡ true → (v.first ≡ n) × (v.first < v.end)
  named-by v n e = grind (arith, nat_tests)

  names-itself : (v : View T) → v.first < v.end → is_worker v.first v ≡ true
  names-itself v live = grind (arith, nat_tests)

  pub worker-found : (l : List (View T)) (k : ℕ) (v : View T) → get_elem? l k ≡ some v → v.first < v.end
      → ((j : ℕ) (u : View T) → get_elem? l j ≡ some u → is_worker v.first u ≡ true → j ≡ k) → worker_at l v.first ≡ worker_of_view v
  worker-found [] k v at live one = absurd (some-ne-none v (sym at))
  worker-found (x ∷ xs) zero v at live one =
      let e : x ≡ v = some-injective x v at in
      choose (is_worker v.first x) (worker_of_view x) (worker_at xs v.first) (worker_of_view v) (λ t. ap worker_of_view e)
      (λ f. absurd (grind (arith, names-itself v live, ap (is_worker v.first) e, f)))
  worker-found (x ∷ xs) (suc k) v at live one =
      choose (is_worker v.first x) (worker_of_view x) (worker_at xs v.first) (worker_of_view v)
      (λ t. absurd (omega (arith, one zero x refl t)))
      (λ f. worker-found xs k v at live (λ j u bt t. omega (arith, one (suc j) u bt t)))

  -- a seat's worker
  pub worker-here : (s : Table T) → Shows s → (k : ℕ) (v : View T) → Knows s k v → v.first < v.end → worker_at s.views v.first ≡ worker_of_view v
  worker-here s sh k v at live =
      worker-found s.views k v at live
      (λ j u bt t.
      let n = named-by u v.first t in
      one-seat s sh k j v.first v u at bt (omega (arith, within v.first v.first v.end (omega arith) live)) (omega (arith, within u.first v.first u.end (omega (arith, n.0)) (omega (arith, n.0, n.1)))))

  -- and it lives
  pub worker-lives : (s : Table T) → (sh : Shows s) → (inside : ℕ → Bool) (k : ℕ) (v : View T) → Knows s k v → v.first < v.end
      → worker_of (shown sh.workers inside s) v.first ≡ Some (worker_of_view v)
  worker-lives s sh inside k v at live =
      let below : v.first < sh.workers =
      below-some v.first sh.workers (omega (arith, within v.first v.first v.end (omega arith) live, total-has (covering v.first) s.views k v at, sh.one_world.ranges v.first)) in
      ap if_live (get-listed (worker_at s.views) 0 sh.workers v.first below ∙ ap (λ n. Some (worker_at s.views n)) (omega arith) ∙ ap (λ w. Some w) (worker-here s sh k v at live))
      ∙ choose (nat_lt v.first v.end) (Some (worker_of_view v)) None (Some (worker_of_view v)) (λ t. refl) (λ f. absurd (grind (arith, nat_tests)))

  -- a view changes, and its worker doesn't
  pub workers-same : (l : List (View T)) (k : ℕ) (v w : View T) → get_elem? l k ≡ some v → worker_of_view w ≡ worker_of_view v → (n : ℕ) → worker_at (slice_set l k w) n ≡ worker_at l n
  workers-same [] k v w at e n = refl
  workers-same (x ∷ xs) zero v w at e n =
      let q : worker_of_view w ≡ worker_of_view x = e ∙ ap worker_of_view (sym (some-injective x v at)) in
      ap (λ y. if (eqb y.first n && nat_lt y.first y.end) then y else worker_at xs n) q
  workers-same (x ∷ xs) (suc k) v w at e n = ap (λ y. if is_worker n x then worker_of_view x else y) (workers-same xs k v w at e n)

  -- a view changes, and the workers of other numbers don't
  pub workers-else : (l : List (View T)) (k : ℕ) (v w : View T) → get_elem? l k ≡ some v → w.first ≡ v.first → (n : ℕ) → n ≢ v.first → worker_at (slice_set l k w) n ≡ worker_at l n
  workers-else [] k v w at e n ne = refl
  workers-else (x ∷ xs) zero v w at e n ne =
      let q : x.first ≡ v.first = ap (λ u. u.first) (some-injective x v at) in
      choose (is_worker n w) (worker_of_view w) (worker_at xs n) (worker_at (x ∷ xs) n)
      (λ t. absurd (ne (sym ((named-by w n t).0) ∙ e)))
      (λ f. sym (choose (is_worker n x) (worker_of_view x) (worker_at xs n) (worker_at xs n) (λ t. absurd (ne (sym ((named-by x n t).0) ∙ q))) (λ g. refl)))
  workers-else (x ∷ xs) (suc k) v w at e n ne = ap (λ y. if is_worker n x then worker_of_view x else y) (workers-else xs k v w at e n ne)

  -- a place of the table
  pub cell-there : (s : Table T) → (workers : ℕ) (inside : ℕ → Bool) (i : ℕ) → i < length s.homes → cell_of (shown workers inside s) i ≡ Some (cell_at s inside i)
  cell-there s workers inside i h = get-listed (cell_at s inside) 0 (length s.homes) i h ∙ ap (λ n. Some (cell_at s inside n)) (omega arith)
