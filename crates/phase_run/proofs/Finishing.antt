-- the tiles that were put off, finished one after the other
use Rattle.std.proofs.Common.{◌≡◌, ◌≢◌, ℕ, zero, suc, ◌+◌, ◌<◌, ◌≤◌, Bool, true, false, List, [], ◌∷◌, length, map, set, get_or, refl, ap, sym, ◌∙◌, subst, inl, inr, ◌⊎◌, ⊎_elim, arith}
use Rattle.std.proofs.lemmas.Bool.{cases_lt}
use Rattle.std.proofs.lemmas.List.{length-map}
use Rattle.std.proofs.Math.ListN.{get_elem?, length-set}
use mathlib.Core.Option.{some, some-injective}
use Rattle.tile_machine.specs.At.{At}
use Rattle.tile_machine.proofs.Bridges.{at_read, at-map, read_at}
use Rattle.tile_table.specs.declared.seat.Closed.{Closed}
use Rattle.tile_table.specs.Views.{tiles_by}
use Rattle.phase_run.specs.Inner.Rest.{TilesOf, ByFlags}

same-or-not : (i k : ℕ) → (i ≡ k) ⊎ (k ≢ i)
same-or-not zero zero = inl refl
same-or-not zero (suc k) = inr (λ e. absurd (omega (arith, e)))
same-or-not (suc i) zero = inr (λ e. absurd (omega (arith, e)))
same-or-not (suc i) (suc k) = ⊎_elim (λ e. inl (ap suc e)) (λ n. inr (λ e. n (omega (arith, e)))) (same-or-not i k)

module _ {A : Type 0} where
  has-place : (xs : List A) (k : ℕ) → k < length xs → (x : A) × At xs k x
  has-place [] k h = absurd (omega (arith, h))
  has-place (x ∷ xs) zero h = (x, refl)
  has-place (x ∷ xs) (suc k) h = has-place xs k (omega (arith, h))

  get-set-here : (xs : List A) (i : ℕ) (y : A) → i < length xs → get_elem? (set xs i y) i ≡ some y
  get-set-here [] i y h = absurd (omega (arith, h))
  get-set-here (x ∷ xs) zero y h = refl
  get-set-here (x ∷ xs) (suc i) y h = get-set-here xs i y (omega (arith, h))

  get-set-else : (xs : List A) (i j : ℕ) (y : A) → j ≢ i → get_elem? (set xs i y) j ≡ get_elem? xs j
  get-set-else [] i j y h = refl
  get-set-else (x ∷ xs) zero zero y h = absurd (h refl)
  get-set-else (x ∷ xs) zero (suc j) y h = refl
  get-set-else (x ∷ xs) (suc i) zero y h = refl
  get-set-else (x ∷ xs) (suc i) (suc j) y h = get-set-else xs i j y (λ e. h (ap suc e))

  -- lists that agree at each place are one
  same-places : (xs ys : List A) → length xs ≡ length ys → ((k : ℕ) → k < length xs → get_elem? xs k ≡ get_elem? ys k) → xs ≡ ys
  same-places [] [] many each = refl
  same-places [] (y ∷ ys) many each = absurd (omega (arith, many))
  same-places (x ∷ xs) [] many each = absurd (omega (arith, many))
  same-places (x ∷ xs) (y ∷ ys) many each =
      ap (λ z. z ∷ xs) (some-injective x y (each 0 (omega arith)))
      ∙ ap (λ zs. y ∷ zs) (same-places xs ys (omega (arith, many)) (λ k h. each (suc k) (omega (arith, h))))

module _ {A B : Type 0} (f : A → B) where
  head-same : (x y : A) (xs ys : List A) → map f (x ∷ xs) ≡ map f (y ∷ ys) → f x ≡ f y
  head-same x y xs ys e = cc e

  tail-same : (x y : A) (xs ys : List A) → map f (x ∷ xs) ≡ map f (y ∷ ys) → map f xs ≡ map f ys
  tail-same x y xs ys e = cc e

  image-here : (x y z : A) → f z ≡ f y → (some x ≡ some y) ⊎ (some x ≡ some z) → f x ≡ f y
  image-here x y z e h = ⊎_elim (λ t. ap f (some-injective x y t)) (λ t. ap f (some-injective x z t) ∙ e) h

  -- of two lists with one list of images, each place has one of the elements: then the images are the same
  same-images : (xs ys zs : List A) → length xs ≡ length ys → map f zs ≡ map f ys
      → ((k : ℕ) → k < length xs → (get_elem? xs k ≡ get_elem? ys k) ⊎ (get_elem? xs k ≡ get_elem? zs k)) → map f xs ≡ map f ys
  same-images [] [] zs many images each = refl
  same-images [] (y ∷ ys) zs many images each = absurd (omega (arith, many))
  same-images (x ∷ xs) [] zs many images each = absurd (omega (arith, many))
  same-images (x ∷ xs) (y ∷ ys) [] many images each = absurd (omega (arith, ap length images))
  same-images (x ∷ xs) (y ∷ ys) (z ∷ zs) many images each =
      ap (λ b. b ∷ map f xs) (image-here x y z (head-same z y zs ys images) (each 0 (omega arith)))
      ∙ ap (λ bs. f y ∷ bs) (same-images xs ys zs (omega (arith, many)) (tail-same z y zs ys images) (λ k h. each (suc k) (omega (arith, h))))

-- the first places are done
abbrev pub AllBefore : List Bool → ℕ → Type 0
AllBefore done i = (k : ℕ) → k < i → At done k true

pub done-before : (done : List Bool) (i : ℕ) (d : Bool) → AllBefore done i → i < length done → get_or done i d ≡ true → AllBefore done (i + 1)
done-before done i d before inside on k h =
    ⊎_elim (before k) (λ not_less. let e : i ≡ k = omega (arith, h, not_less) in subst (λ n. At done n true) e (subst (λ b. At done i b) on (at_read done i d inside)))
    (cases_lt k i)

pub set-before : (done : List Bool) (i : ℕ) → AllBefore done i → i < length done → AllBefore (set done i true) (i + 1)
set-before done i before inside k h =
    ⊎_elim
    (λ less. get-set-else done i k true (λ e. absurd (omega (arith, e, less))) ∙ before k less)
    (λ not_less. let e : i ≡ k = omega (arith, h, not_less) in subst (λ n. At (set done i true) n true) e (get-set-here done i true inside))
    (cases_lt k i)

module _ {X T Q : Type 0} where
  -- the tiles and the flags apart
  pub apart : (world goal : List T) (closed : List (Closed X T Q)) (tiles : List T) (done : List Bool) → TilesOf world goal closed
      → tiles ≡ map (λ c. c.tile) closed → done ≡ map (λ c. c.done) closed → ByFlags world goal tiles done
  apart world goal closed tiles done of_table e d =
      record {
        many = ap length e ∙ length-map closed (λ c. c.tile) ∙ of_table.many;
        flags = ap length d ∙ length-map closed (λ c. c.done) ∙ of_table.many;
        stands =
            λ i flag at.
            let flagged : At (map (λ c. c.done) closed) i flag = subst (λ fs. At fs i flag) d at in
            let inside : i < length closed = omega (arith, (read_at (map (λ c. c.done) closed) i flag flagged).0, length-map closed (λ c. c.done)) in
            let one = has-place closed i inside in
            let same : one.0.done ≡ flag = some-injective one.0.done flag (sym (at-map (λ c. c.done) closed i one.0 one.1) ∙ flagged) in
            subst (λ ts. get_elem? ts i ≡ get_elem? (tiles_by flag world goal) i) (sym e)
            (at-map (λ c. c.tile) closed i one.0 one.1
            ∙ sym (subst (λ b. At (tiles_by b world goal) i one.0.tile) same (of_table.stands i one.0 one.1)));
      }

module _ {T : Type 0} where
  either : (flag : Bool) (world goal tiles : List T) (k : ℕ) → get_elem? tiles k ≡ get_elem? (tiles_by flag world goal) k
      → (get_elem? tiles k ≡ get_elem? world k) ⊎ (get_elem? tiles k ≡ get_elem? goal k)
  either true world goal tiles k e = inr e
  either false world goal tiles k e = inl e

  -- tiles of which each is the world's or the finished one show the parts of the world's
  pub shows-parts : {Q : Type 0} (readable : T → Q) (world goal tiles : List T) (done : List Bool) → ByFlags world goal tiles done
      → map readable goal ≡ map readable world → map readable tiles ≡ map readable world
  shows-parts readable world goal tiles done by same =
      same-images readable tiles world goal by.many same
      (λ k h.
      let flag = has-place done k (omega (arith, h, by.many, by.flags)) in
      either flag.0 world goal tiles k (by.stands k flag.0 flag.1))

  -- a tile that isn't done is the world's
  pub not-done : (world goal tiles : List T) (done : List Bool) (i : ℕ) (d : Bool) → ByFlags world goal tiles done → i < length done
      → get_or done i d ≡ false → get_elem? tiles i ≡ get_elem? world i
  not-done world goal tiles done i d by inside off =
      by.stands i false (subst (λ b. At done i b) off (at_read done i d inside))

  -- one more tile is finished
  pub one-finished : (world goal tiles : List T) (done : List Bool) (i : ℕ) (t : T) → ByFlags world goal tiles done → i < length tiles → At goal i t
      → ByFlags world goal (set tiles i t) (set done i true)
  one-finished world goal tiles done i t by inside at =
      record {
        many = length-set tiles i t ∙ by.many;
        flags = length-set done i true ∙ by.flags;
        stands =
            λ k flag flagged. ⊎_elim
            (λ same. subst (λ n. get_elem? (set tiles i t) n ≡ get_elem? (tiles_by flag world goal) n) same
            (subst (λ b. get_elem? (set tiles i t) i ≡ get_elem? (tiles_by b world goal) i)
            (some-injective true flag (sym (get-set-here done i true (omega (arith, inside, by.many, by.flags))) ∙ subst (λ n. At (set done i true) n flag) (sym same) flagged))
            (get-set-here tiles i t inside ∙ sym at)))
            (λ other. get-set-else tiles i k t other ∙ by.stands k flag (sym (get-set-else done i k true other) ∙ flagged))
            (same-or-not i k);
      }

  -- where all are done the tiles are the finished ones
  pub all-finished : (world goal tiles : List T) (done : List Bool) (n : ℕ) → ByFlags world goal tiles done → length goal ≡ length world → AllBefore done n → length tiles ≤ n
      → tiles ≡ goal
  all-finished world goal tiles done n by many before all =
      same-places tiles goal (by.many ∙ sym many) (λ k h. by.stands k true (before k (omega (arith, h, all))))
