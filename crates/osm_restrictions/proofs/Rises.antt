-- What stays in order of id where relations give rows.
use Rattle.std.proofs.Common.{◌≡◌, suc, refl, sym, subst, List, [], ◌∷◌, ℤ, arith}
use Rattle.std.specs.Prelude.{Option, Some, None, filter_map, All, AllPairs, ◌<ℤ◌}
use Rattle.std.specs.List.{cons_option}
use Rattle.std.proofs.lemmas.List.Elements.{All-nil, All-cons, All-tail, All-head}
use Rattle.std.proofs.lemmas.List.Kept.{AllPairs-cons}

-- later elements
rest_pairs : {X : Type 0} (R : X → X → Type 0) (x : X) (xs : List X) → AllPairs R (x ∷ xs) → AllPairs R xs
rest_pairs R x xs h i j d less inside = h (suc i) (suc j) d (omega (arith, less)) (omega (arith, inside))

first_pairs : {X : Type 0} (R : X → X → Type 0) (x : X) (xs : List X) → AllPairs R (x ∷ xs) → All (R x) xs
first_pairs R x xs h k d inside = h 0 (suc k) d (omega arith) (omega (arith, inside))

module _ {X Y : Type 0} (id : X → ℤ) (id_of : Y → ℤ) (give : X → Option Y) (same : (x : X) (y : Y) → give x ≡ Some y → id_of y ≡ id x) where
  above : (x : X) (y : Y) → give x ≡ Some y → (xs : List X) → All (λ z. id x <ℤ id z) xs → All (λ z. id_of y <ℤ id_of z) (filter_map give xs)
  above x y at [] h = All-nil (λ z. id_of y <ℤ id_of z)
  above x y at (z ∷ xs) h = by (give z) refl (above x y at xs (All-tail (λ z. id x <ℤ id z) z xs h))
    where
      by : (o : Option Y) → give z ≡ o → All (λ z. id_of y <ℤ id_of z) (filter_map give xs) → All (λ z. id_of y <ℤ id_of z) (cons_option o (filter_map give xs))
      by None at_z rest = rest
      by (Some w) at_z rest =
          All-cons (λ z. id_of y <ℤ id_of z) w (filter_map give xs)
          (subst (λ n. n <ℤ id_of w) (sym (same x y at)) (subst (λ n. id x <ℤ n) (sym (same z w at_z)) (All-head (λ z. id x <ℤ id z) z xs h)))
          rest

  pub given_rise : (xs : List X) → AllPairs (λ a b. id a <ℤ id b) xs → AllPairs (λ a b. id_of a <ℤ id_of b) (filter_map give xs)
  given_rise [] h = λ i j d less inside. absurd (omega (arith, inside))
  given_rise (x ∷ xs) h = by (give x) refl (given_rise xs (rest_pairs (λ a b. id a <ℤ id b) x xs h))
    where
      by : (o : Option Y) → give x ≡ o → AllPairs (λ a b. id_of a <ℤ id_of b) (filter_map give xs) → AllPairs (λ a b. id_of a <ℤ id_of b) (cons_option o (filter_map give xs))
      by None at rest = rest
      by (Some y) at rest =
          AllPairs-cons (λ a b. id_of a <ℤ id_of b) y (filter_map give xs)
          (above x y at xs (first_pairs (λ a b. id a <ℤ id b) x xs h)) rest
