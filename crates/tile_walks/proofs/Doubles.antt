-- Numbers that stand side by side, and tiles in order of their keys.
use Rattle.std.proofs.Common.{◌≡◌, ℕ, zero, suc, ◌+◌, ◌<◌, ◌≤◌, ◌^◌, List, [], ◌∷◌, length, Option, Some, None, true, refl, sym, ◌∙◌, ap, subst, arith, inl, inr}
use Rattle.std.specs.Prelude.{All, slice_index, slice_index_or, nat_eq, nat_lt, nat_le, ◌&&◌}
use Rattle.std.specs.Int.{from_bool}
use Rattle.std.specs.List.Sorted.{IsSortedByKey, IsPermutation}
use Rattle.std.specs.Ordering.{nat_cmp}
use Rattle.std.proofs.lemmas.Bool.{cases_lt, and_parts, eqb-true, eq-eqb, ltb-true}
use Rattle.std.proofs.lemmas.Bool.Decides.{eqb_tells}
use Rattle.std.proofs.lemmas.Map.Keys.{ge_from_not_lt}
use Rattle.std.proofs.lemmas.List.{length-map}
use Rattle.std.proofs.lemmas.List.Sums.{sum_by-cons}
use Rattle.std.proofs.lemmas.List.Sorted.{sum_by-IsPermutation}
use Rattle.graph_id.specs.GraphId.{level_of, tile_of_id, id_of, invalid}
use Rattle.tile_geometry.specs.Grid.{tile_count}
use Rattle.tile_bytes.specs.declared.tile.Tile.{Tile}
use Rattle.tile_bytes.specs.Header.{names_tile}
use Rattle.tile_bytes.specs.Tiles.{PassesChecks}
use Rattle.tile_walks.specs.Keys.{key_of, keys_of, ids_of, Rise, IsLeastDouble, IsLeastTwice, tiles_with}
use Rattle.tile_walks.proofs.IdLaws.{whole}

pub ended : (ids : List ℕ) (n i : ℕ) (found : Option ℕ) → IsLeastDouble ids i found → (n ≤ 0 → found ≡ None) → n ≤ i → (1 ≤ n → i ≤ n) → IsLeastDouble ids n found
ended ids n i found h none past upto = elim (cases_lt 0 n) [
  | inl some ↦ let same : i ≡ n = omega (arith, past, upto some) in subst (λ m. IsLeastDouble ids m found) same h
  | inr empty ↦ subst (IsLeastDouble ids n) (sym (none empty)) (λ k inside same. omega (arith, empty, inside))
]

-- ---- numbers that rise from one to the next

pub climb : (f : ℕ → ℕ) (n : ℕ) → ((k : ℕ) → suc k < n → f k ≤ f (suc k)) → (i d j : ℕ) → i + d ≡ j → j < n → f i ≤ f j
climb f n up i zero j e inside = let same : i ≡ j = omega (arith, e) in subst (λ m. f i ≤ f m) same (omega arith)
climb f n up i (suc d) zero e inside = absurd (omega (arith, e))
climb f n up i (suc d) (suc j) e inside =
    let below = climb f n up i d j (omega (arith, e)) (omega (arith, inside)) in
    let last = up j inside in
    omega (arith, below, last)

pub climb_strictly : (f : ℕ → ℕ) (n : ℕ) → ((k : ℕ) → suc k < n → f k < f (suc k)) → (i d j : ℕ) → i + suc d ≡ j → j < n → f i < f j
climb_strictly f n up i d zero e inside = absurd (omega (arith, e))
climb_strictly f n up i d (suc j) e inside =
    let below = climb f n (λ k h. let u = up k h in omega (arith, u)) i d j (omega (arith, e)) (omega (arith, inside)) in
    let last = up j inside in
    omega (arith, below, last)

pub rise_from : (keys : List ℕ) → ((k : ℕ) → suc k < length keys → slice_index keys k < slice_index keys (suc k)) → Rise keys
rise_from keys up zero zero below inside = absurd (omega (arith, below))
rise_from keys up zero (suc j) below inside = climb_strictly (slice_index keys) (length keys) up zero j (suc j) (omega arith) inside
rise_from keys up (suc i) zero below inside = absurd (omega (arith, below))
rise_from keys up (suc i) (suc j) below inside = climb_strictly (slice_index keys) (length keys) up (suc i) (pred j i) (suc j) (gap j i (omega (arith, below))) inside
  where
    pred : ℕ → ℕ → ℕ
    pred zero i = zero
    pred (suc j) zero = j
    pred (suc j) (suc i) = pred j i

    gap : (j i : ℕ) → i < j → suc i + suc (pred j i) ≡ suc j
    gap zero i h = absurd (omega (arith, h))
    gap (suc j) zero h = omega arith
    gap (suc j) (suc i) h = let e = gap j i (omega (arith, h)) in omega (arith, e)

-- ---- tiles by their keys

-- an id that names a tile
names : (id : ℕ) → names_tile id ≡ true → (id < 2 ^ 46) × (id_of id ≡ 0)
names id h =
    let (front, last) = and_parts (nat_lt id invalid && nat_le (level_of id) 2 && nat_lt (tile_of_id id) (tile_count (level_of id))) (nat_eq (id_of id) 0) h in
    let (less, count) = and_parts (nat_lt id invalid && nat_le (level_of id) 2) (nat_lt (tile_of_id id) (tile_count (level_of id))) front in
    let (valid, level) = and_parts (nat_lt id invalid) (nat_le (level_of id) 2) less in
    let below = ltb-true id invalid valid in
    (omega (arith, below), eqb-true (id_of id) 0 last)

-- such ids with one key are one
one_id : (a b : ℕ) → names_tile a ≡ true → names_tile b ≡ true → key_of a ≡ key_of b → a ≡ b
one_id a b h k e =
    let (p, q) = names a h in
    let (r, s) = names b k in
    let x = whole a p in
    let y = whole b r in
    omega (arith, e, p, q, r, s)

abbrev KeysSorted : List Tile → Type 0
KeysSorted ts = IsSortedByKey (λ t. key_of t.id) nat_cmp ts

abbrev pub Named : List Tile → Type 0
Named ts = (k : ℕ) → k < length ts → names_tile (slice_index (ids_of ts) k) ≡ true

-- the key at a place is that of the id there
key_there : (ts : List Tile) (k : ℕ) → k < length ts → slice_index (keys_of ts) k ≡ key_of (slice_index (ids_of ts) k)
key_there [] k h = absurd (omega (arith, h))
key_there (t ∷ ts) zero h = refl
key_there (t ∷ ts) (suc k) h = key_there ts k (omega (arith, h))

key_with : (ts : List Tile) (k : ℕ) (d : Tile) → k < length ts → slice_index (keys_of ts) k ≡ key_of (slice_index_or ts k d).id
key_with [] k d h = absurd (omega (arith, h))
key_with (t ∷ ts) zero d h = refl
key_with (t ∷ ts) (suc k) d h = key_with ts k d (omega (arith, h))

abbrev Weak : List Tile → Type 0
Weak ts = (k : ℕ) → suc k < length ts → slice_index (keys_of ts) k ≤ slice_index (keys_of ts) (suc k)

weakly : (ts : List Tile) → KeysSorted ts → Weak ts
weakly [] sorted k h = absurd (omega (arith, h))
weakly (t ∷ ts) sorted k h =
    let e : suc k ≡ k + 1 = omega arith in
    let up : key_of (slice_index_or (t ∷ ts) k t).id ≤ key_of (slice_index_or (t ∷ ts) (k + 1) t).id = ge_from_not_lt (key_of (slice_index_or (t ∷ ts) (k + 1) t).id) (key_of (slice_index_or (t ∷ ts) k t).id) (sorted k t (omega arith) (omega (arith, h))) in
    let a = key_with (t ∷ ts) k t (omega (arith, h)) in
    let b = ap (slice_index (keys_of (t ∷ ts))) e ∙ key_with (t ∷ ts) (k + 1) t (omega (arith, h)) in
    omega (arith, up, a, b)

-- tiles of which no two neighbours have one id have keys that rise
pub keys_rise : (ts : List Tile) → KeysSorted ts → Named ts → IsLeastDouble (ids_of ts) (length ts) None → Rise (keys_of ts)
keys_rise ts sorted named none =
    let n = length-map ts (λ t. key_of t.id) in
    rise_from (keys_of ts) (λ k h. let inside : suc k < length ts = omega (arith, h, n) in
    elim (cases_lt (slice_index (keys_of ts) k) (slice_index (keys_of ts) (suc k))) [
      | inl below ↦ below
      | inr over ↦
          let up = weakly ts sorted k inside in
          let same : key_of (slice_index (ids_of ts) k) ≡ key_of (slice_index (ids_of ts) (suc k)) =
          sym (key_there ts k (omega (arith, inside))) ∙ (omega (arith, up, over) ∙ key_there ts (suc k) inside) in
          absurd (none k inside (one_id _ _ (named k (omega (arith, inside))) (named (suc k) inside) same))
    ])

-- ---- how many tiles have an id

with_cons : (id : ℕ) (t : Tile) (ts : List Tile) → tiles_with id (t ∷ ts) ≡ from_bool (nat_eq t.id id) + tiles_with id ts
with_cons id t ts = sum_by-cons (λ t. from_bool (nat_eq t.id id)) t ts

own_counts : (id : ℕ) (t : Tile) → t.id ≡ id → from_bool (nat_eq t.id id) ≡ 1
own_counts id t e = ap from_bool (eq-eqb t.id id e)

-- a tile with the id counts
pub one_with : (ts : List Tile) (id k : ℕ) → k < length ts → slice_index (ids_of ts) k ≡ id → 1 ≤ tiles_with id ts
one_with [] id k h is = absurd (omega (arith, h))
one_with (t ∷ ts) id zero h is = let c = with_cons id t ts in let o = own_counts id t is in omega (arith, c, o)
one_with (t ∷ ts) id (suc k) h is = let c = with_cons id t ts in let o = one_with ts id k (omega (arith, h)) is in omega (arith, c, o)

-- so do two neighbours
pub two_with : (ts : List Tile) (id k : ℕ) → suc k < length ts → slice_index (ids_of ts) k ≡ id → slice_index (ids_of ts) (suc k) ≡ id → 2 ≤ tiles_with id ts
two_with [] id k h is next = absurd (omega (arith, h))
two_with (t ∷ ts) id zero h is next =
    let c = with_cons id t ts in
    let o = own_counts id t is in
    let r = one_with ts id zero (omega (arith, h)) next in
    omega (arith, c, o, r)
two_with (t ∷ ts) id (suc k) h is next = let c = with_cons id t ts in let o = two_with ts id k (omega (arith, h)) is next in omega (arith, c, o)

-- where a tile counts it stands
some_with : (ts : List Tile) (id : ℕ) → 1 ≤ tiles_with id ts → (k : ℕ) × (k < length ts) × (slice_index (ids_of ts) k ≡ id)
some_with [] id h = absurd (omega (arith, h))
some_with (t ∷ ts) id h = elim (eqb_tells t.id id) [
  | inl here ↦ (zero, omega arith, here.1)
  | inr other ↦
      let c = with_cons id t ts in
      let o : from_bool (nat_eq t.id id) ≡ 0 = ap from_bool other.0 in
      let (k, inside, is) = some_with ts id (omega (arith, c, o, h)) in
      (suc k, omega (arith, inside), is)
]

-- where two tiles have an id, two neighbours have
pub neighbours_with : (ts : List Tile) (id : ℕ) → Weak ts → Named ts → 2 ≤ tiles_with id ts → (k : ℕ) × (suc k < length ts) × (slice_index (ids_of ts) k ≡ id) × (slice_index (ids_of ts) (suc k) ≡ id)
neighbours_with [] id weak named h = absurd (omega (arith, h))
neighbours_with (t ∷ ts) id weak named h = elim (eqb_tells t.id id) [
  | inl here ↦
      let c = with_cons id t ts in
      let o = own_counts id t here.1 in
      let (j, inside, is) = some_with ts id (omega (arith, c, o, h)) in
      let all : suc j < length (t ∷ ts) = omega (arith, inside) in
      let far = climb (slice_index (keys_of (t ∷ ts))) (length (t ∷ ts)) weak 1 j (suc j) (omega arith) all in
      let near = weak 0 (omega (arith, all)) in
      let end = key_there (t ∷ ts) (suc j) all ∙ ap key_of is in
      let start = key_there (t ∷ ts) 0 (omega arith) ∙ ap key_of here.1 in
      let next = key_there (t ∷ ts) 1 (omega (arith, all)) in
      let same : key_of (slice_index (ids_of (t ∷ ts)) 1) ≡ key_of (slice_index (ids_of (t ∷ ts)) 0) =
      sym next ∙ (omega (arith, far, near, end, start) ∙ key_there (t ∷ ts) 0 (omega arith)) in
      (zero, omega (arith, all), here.1, one_id _ _ (named 1 (omega (arith, all))) (named 0 (omega arith)) same ∙ here.1)
  | inr other ↦
      let c = with_cons id t ts in
      let o : from_bool (nat_eq t.id id) ≡ 0 = ap from_bool other.0 in
      let (k, inside, is, next) = neighbours_with ts id (λ k h. weak (suc k) (omega (arith, h))) (λ k h. named (suc k) (omega (arith, h))) (omega (arith, c, o, h)) in
      (suc k, omega (arith, inside), is, next)
]

-- the least double of sorted tiles is the least id that two of the given tiles have
pub least_is : (given ts : List Tile) (id : ℕ) → IsPermutation given ts → KeysSorted ts → Named ts → IsLeastDouble (ids_of ts) (length ts) (Some id) → IsLeastTwice given id
least_is given ts id moved sorted named ((k, inside, is, next), least) = record {
  twice = let same = sum_by-IsPermutation (λ t. from_bool (nat_eq t.id id)) given ts moved in let two = two_with ts id k inside is next in omega (arith, same, two);
  least = λ other two.
      let same = sum_by-IsPermutation (λ t. from_bool (nat_eq t.id other)) given ts moved in
      let (j, there, one, same_next) = neighbours_with ts other (weakly ts sorted) named (omega (arith, same, two)) in
      let below = least j there (one ∙ sym same_next) in
      omega (arith, below, one);
}

-- keys that rise are those of tiles of which no two have one id
pub once_each : (given ts : List Tile) (id : ℕ) → IsPermutation given ts → Named ts → Rise (keys_of ts) → 2 ≤ tiles_with id given → ⊥
once_each given ts id moved named rises two =
    let same = sum_by-IsPermutation (λ t. from_bool (nat_eq t.id id)) given ts moved in
    let n = length-map ts (λ t. key_of t.id) in
    let up : (k : ℕ) → suc k < length ts → slice_index (keys_of ts) k < slice_index (keys_of ts) (suc k) = λ k h. rises k (suc k) (omega arith) (omega (arith, h, n)) in
    let (k, inside, one, next) = neighbours_with ts id (λ k h. let u = up k h in omega (arith, u)) named (omega (arith, same, two)) in
    let u = up k inside in
    let a = key_there ts k (omega (arith, inside)) ∙ ap key_of one in
    let b = key_there ts (suc k) inside ∙ ap key_of next in
    omega (arith, u, a, b)

-- tiles that pass the checks have ids that name tiles
pub named_from : (ts : List Tile) → All PassesChecks ts → Named ts
named_from [] all k h = absurd (omega (arith, h))
named_from (t ∷ ts) all k h =
    subst (λ id. names_tile id ≡ true) (sym (id_there (t ∷ ts) k t h)) (all k t h).id
  where
    id_there : (ts : List Tile) (k : ℕ) (d : Tile) → k < length ts → slice_index (ids_of ts) k ≡ (slice_index_or ts k d).id
    id_there [] k d h = absurd (omega (arith, h))
    id_there (t ∷ ts) zero d h = refl
    id_there (t ∷ ts) (suc k) d h = id_there ts k d (omega (arith, h))

pub moved_double : (now ts : List Tile) (o p : Option ℕ) → now ≡ ts → o ≡ p → IsLeastDouble (ids_of now) (length now) o → IsLeastDouble (ids_of ts) (length ts) p
moved_double now ts o p same is h = subst (λ l. IsLeastDouble (ids_of l) (length l) p) same (subst (IsLeastDouble (ids_of now) (length now)) is h)

pub no_double : (now ts : List Tile) (o : Option ℕ) → now ≡ ts → ((x : ℕ) → o ≡ Some x → ⊥) → IsLeastDouble (ids_of now) (length now) o → IsLeastDouble (ids_of ts) (length ts) None
no_double now ts None same none h = moved_double now ts None None same refl h
no_double now ts (Some x) same none h = absurd (none x refl)
