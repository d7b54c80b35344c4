-- what the rule says of one seat
use Rattle.std.proofs.Common.{◌≡◌, ℕ, ◌+◌, ◌<◌, ◌≤◌, ◌≢◌, Bool, true, false, length, refl, ap, sym, ◌∙◌, subst, nat_lt, eqb, arith}
use Rattle.std.proofs.Math.ListN.{get_elem?}
use mathlib.Core.Option.{some}
use mathlib.Core.Logic.{dite}
use native.Mathlib.Decide.{ℕ_discrete, dec_lt}
use Rattle.tile_machine.specs.At.{At}
use Rattle.tile_table.specs.declared.view.View.{View}
use Rattle.tile_table.specs.declared.view.Hand.{Hand}
use Rattle.tile_table.specs.declared.view.Hand.TheVariants.{Empty, Holds}
use Rattle.tile_table.specs.Counts.{bit, same_bit, total}
use Rattle.tile_table.specs.Views.{tiles_by, held, nobody, covering, claiming, taking, marking, holding, IsAnother}
use Rattle.tile_table.specs.Shows.{Table, Shows, Knows, claim_of, lock_of, mark_of}
use Rattle.tile_table.proofs.Bits.{bit-le, same-eq, same-some, both-some, within, outside, below-some}
use Rattle.tile_table.proofs.Sums.{total-has, total-two, total-some, one-view, has-length}

-- who holds a place has it in hand
pub held-some : (w i number : ℕ) (h : Hand) → 0 < held w i number h → (m : Bool) × (number ≡ w) × (h ≡ Holds i m)
held-some w i number Empty pos = absurd (omega arith)
held-some w i number (Holds j m) pos = let b = both-some number j w i pos in (m, b.0, ap (λ n. Holds n m) b.1)

pub bit-true : (m : Bool) → 0 < bit m → m ≡ true
bit-true true h = refl
bit-true false h = absurd (omega arith)

pub bit-false : (m : Bool) → bit m ≡ 0 → m ≡ false
bit-false true h = absurd (omega arith)
bit-false false h = refl

module _ {T : Type 0} where
  -- a view with a part in something lives
  pub lives : (s : Table T) → Shows s → (k : ℕ) (v : View T) → Knows s k v → (f : View T → ℕ) → f nobody ≡ 0 → 0 < f v → v.first < v.end
  lives s sh k v at f nil pos =
      dite (dec_lt v.first v.end) (λ h. h)
      (λ ne. let e : v ≡ nobody = sh.one_world.ended k v at (omega arith) in let n : f v ≡ f nobody = ap f e in absurd (omega arith))

  -- two living seats with one number are one
  pub one-seat : (s : Table T) → Shows s → (k j x : ℕ) (v u : View T) → Knows s k v → Knows s j u → 0 < covering x v → 0 < covering x u → j ≡ k
  one-seat s sh k j x v u at bt a b =
      dite (ℕ_discrete j k) (λ e. e)
      (λ ne. absurd (omega (arith, total-two (covering x) s.views k j v u at bt ne, sh.one_world.ranges x, bit-le (nat_lt x sh.workers))))

  -- a mark of the seat's own is set
  pub own-mark : (s : Table T) → Shows s → (k : ℕ) (v : View T) (j : ℕ) → Knows s k v → 0 < marking j v → mark_of s j ≡ 1
  own-mark s sh k v j at pos = omega (arith, total-has (marking j) s.views k v at, sh.marks.marks j, sh.marks.once j)

  -- what a claim of the seat's says of the word
  pub own-claim : (s : Table T) → Shows s → (k : ℕ) (v : View T) (w j : ℕ) → Knows s k v → 0 < claiming w j v → claim_of s j ≡ w + 1
  own-claim s sh k v w j at pos =
      same-some (claim_of s j) (w + 1) (omega (arith, total-has (claiming w j) s.views k v at, sh.claims w j))

  marked-by : (s : Table T) → Shows s → (k : ℕ) (v : View T) (j : ℕ) → Knows s k v → 0 < claiming v.first j v → marking j v ≡ 0
      → (i : ℕ) (u : View T) → Knows s i u → 0 < marking j u → ⊥
  marked-by s sh k v j at mine nil i u bt pos =
      let c = sh.marks.claimed i u j bt pos in
      let a : claim_of s j ≡ v.first + 1 = own-claim s sh k v v.first j at mine in
      let b : claim_of s j ≡ c.0 + 1 = own-claim s sh i u c.0 j bt c.1 in
      let one : c.0 ≡ v.first = omega arith in
      let its : 0 < claiming v.first j u = subst (λ w. 0 < claiming w j u) one c.1 in
      let le : same_bit (claim_of s j) (v.first + 1) ≤ 1 = bit-le (eqb (claim_of s j) (v.first + 1)) in
      dite (ℕ_discrete i k)
      (λ e. let q : u ≡ v = one-view s.views i u v bt (subst (λ n. get_elem? s.views n ≡ some v) (sym e) at) in
      let r : marking j u ≡ marking j v = ap (marking j) q in omega arith)
      (λ ne. omega (arith, total-two (claiming v.first j) s.views k i v u at bt ne, sh.claims v.first j))

  -- a place that the seat has claimed and not marked isn't marked
  pub not-yet : (s : Table T) → Shows s → (k : ℕ) (v : View T) (j : ℕ) → Knows s k v → 0 < claiming v.first j v → marking j v ≡ 0 → mark_of s j ≡ 0
  not-yet s sh k v j at mine nil =
      dite (ℕ_discrete (mark_of s j) 0) (λ e. e)
      (λ ne. let t = total-some (marking j) s.views (omega (arith, sh.marks.marks j)) in
      absurd (marked-by s sh k v j at mine nil t.0 t.1 t.2 t.3))

  -- the seat that a lock word names, as another seat with empty hands finds it
  pub another : (s : Table T) → Shows s → (k : ℕ) (v : View T) (j h : ℕ) → Knows s k v → v.first < v.end → v.hand ≡ Empty → lock_of s j ≡ h + 2
      → IsAnother h v × (0 < total (taking h j) s.views)
  another s sh k v j h at live empty word =
      let one : total (holding h j) s.views ≡ 1 = sh.locks.holders h j ∙ same-eq (lock_of s j) (h + 2) word in
      let t = total-some (holding h j) s.views (omega arith) in
      let i = t.0 in let u = t.1 in let bt = t.2 in
      let its = held-some h j u.first u.hand t.3 in
      let number : u.first ≡ h = its.1 in
      let alive : u.first < u.end = lives s sh i u bt (holding h j) refl t.3 in
      let c : covering h u ≡ 1 = within u.first h u.end (omega arith) (omega arith) in
      let all : h < sh.workers = below-some h sh.workers (omega (arith, total-has (covering h) s.views i u bt, sh.one_world.ranges h)) in
      let apart : i ≢ k = λ e.
      let q : u ≡ v = one-view s.views i u v bt (subst (λ n. get_elem? s.views n ≡ some v) (sym e) at) in
      let n : held h j u.first u.hand ≡ held h j v.first v.hand = ap (λ x. held h j x.first x.hand) q in
      let z : held h j v.first v.hand ≡ 0 = ap (held h j v.first) empty in
      let pos : 0 < held h j u.first u.hand = t.3 in omega arith in
      let le : bit (nat_lt h sh.workers) ≤ 1 = bit-le (nat_lt h sh.workers) in
      let mine : covering h v ≡ 0 = omega (arith, total-two (covering h) s.views k i v u at bt apart, sh.one_world.ranges h) in
      let took : 0 < taking u.first j u = sh.locks.taken i u j its.0 bt its.2 in
      let took' : 0 < taking h j u = subst (λ n. 0 < taking n j u) number took in (
        (subst (λ n. h < n) (sym (sh.one_world.worlds k v at live).2) all, outside v.first h v.end mine),
        omega (arith, total-has (taking h j) s.views i u bt),
      )

  -- a tile for each place, whichever the mark says
  pub tile-there : (s : Table T) → Shows s → (k : ℕ) (v : View T) (j : ℕ) (m : Bool) → Knows s k v → v.first < v.end → j < length s.homes
      → (t : T) × At (tiles_by m v.world v.goal) j t
  tile-there s sh k v j true at live h = has-length v.goal j (omega (arith, ap length (sh.one_world.worlds k v at live).1, sh.one_world.goal_places))
  tile-there s sh k v j false at live h = has-length v.world j (omega (arith, ap length (sh.one_world.worlds k v at live).0, sh.one_world.world_places))

  -- and at home where its lock is free
  pub tile-home : (s : Table T) → (sh : Shows s) → (k : ℕ) (v : View T) (j : ℕ) (m : Bool) (t : T) → Knows s k v → v.first < v.end → lock_of s j ≡ bit m
      → At (tiles_by m v.world v.goal) j t → At (tiles_by m sh.world sh.goal) j t
  tile-home s sh k v j m t at live word stands =
      let w = sh.one_world.worlds k v at live in
      subst (λ g. At (tiles_by m sh.world g) j t) w.1 (subst (λ x. At (tiles_by m x v.goal) j t) w.0 stands)
