-- Spots in order of their cells: those of one cell stand together.
use Rattle.std.proofs.Common.{◌≡◌, ℕ, zero, suc, ◌+◌, ◌<◌, ◌≤◌, ◌==◌, List, [], ◌∷◌, ◌++◌, length, take, drop, get_or, refl, sym, ap, ◌∙◌, subst, arith}
use Rattle.std.specs.Prelude.{sum_by, min, filter}
use Rattle.std.specs.List.Sorted.{IsNonDecreasingBy}
use Rattle.std.proofs.lemmas.Bool.{cond-false, ne_eqb}
use Rattle.std.proofs.lemmas.List.{get_or_default, get_or-drop, length-drop}
use Rattle.std.proofs.lemmas.List.Elements.{filter-append}
use Rattle.std.proofs.lemmas.List.Sums.{sum_by-append}
use Rattle.enhancer.specs.declared.spots.Spot.{Spot}

pub below_more : (spots : List Spot) (cell middle : ℕ) (e : Spot) → IsNonDecreasingBy (λ (s : Spot). s.cell) spots → middle < length spots → (get_or spots middle e).cell < cell
    → (j : ℕ) (d : Spot) → j < middle + 1 → (get_or spots j d).cell < cell
below_more spots cell middle e order inside low j d h =
    let r = order j middle d (omega (arith, h)) inside in
    let same : get_or spots middle e ≡ get_or spots middle d = get_or_default spots middle e d inside in
    let lower : (get_or spots middle d).cell < cell = subst (λ (s : Spot). s.cell < cell) same low in
    omega (arith, r, lower)

pub above_more : (spots : List Spot) (cell middle : ℕ) (e : Spot) → IsNonDecreasingBy (λ (s : Spot). s.cell) spots → middle < length spots → cell ≤ (get_or spots middle e).cell
    → (j : ℕ) (d : Spot) → middle ≤ j → j < length spots → cell ≤ (get_or spots j d).cell
above_more spots cell middle e order inside high j d h within =
    let r = order middle j d h within in
    let same : get_or spots middle e ≡ get_or spots middle d = get_or_default spots middle e d inside in
    let higher : cell ≤ (get_or spots middle d).cell = subst (λ (s : Spot). cell ≤ s.cell) same high in
    omega (arith, r, higher)

none_in : (cell : ℕ) (spots : List Spot) → ((j : ℕ) (d : Spot) → j < length spots → (get_or spots j d).cell ≡ cell → ⊥) → filter (λ s. s.cell == cell) spots ≡ []
none_in cell [] none = refl
none_in cell (s ∷ ss) none =
    cond-false (s.cell == cell) (s ∷ filter (λ s. s.cell == cell) ss) (filter (λ s. s.cell == cell) ss) (ne_eqb s.cell cell (none 0 s (omega arith)))
    ∙ none_in cell ss (λ j d inside. none (suc j) d (omega (arith, inside)))

pub none_before : (cell k : ℕ) (spots : List Spot) → ((j : ℕ) (d : Spot) → j < k → (get_or spots j d).cell < cell) → filter (λ s. s.cell == cell) (take k spots) ≡ []
none_before cell zero spots low = refl
none_before cell (suc k) [] low = refl
none_before cell (suc k) (s ∷ ss) low =
    cond-false (s.cell == cell) (s ∷ filter (λ s. s.cell == cell) (take k ss)) (filter (λ s. s.cell == cell) (take k ss)) (ne_eqb s.cell cell (λ e. let first = low 0 s (omega arith) in omega (arith, e, first)))
    ∙ none_before cell k ss (λ j d h. low (suc j) d (omega (arith, h)))

take_drop : {X : Type 0} (k : ℕ) (xs : List X) → take k xs ++ drop k xs ≡ xs
take_drop zero xs = refl
take_drop (suc k) [] = refl
take_drop (suc k) (x ∷ xs) = ap (λ ys. x ∷ ys) (take_drop k xs)

past_it : (a b : ℕ) → b ≤ a → (a ≡ b → ⊥) → b + 1 ≤ a
past_it a b h other = omega (arith, h, other)

module _ (spots : List Spot) (cell k : ℕ) (f : Spot → ℕ) where
  parts : sum_by f (filter (λ s. s.cell == cell) spots) ≡ sum_by f (filter (λ s. s.cell == cell) (take k spots)) + sum_by f (filter (λ s. s.cell == cell) (drop k spots))
  parts =
      ap (λ ss. sum_by f (filter (λ s. s.cell == cell) ss)) (sym (take_drop k spots))
      ∙ ap (sum_by f) (filter-append (λ s. s.cell == cell) (take k spots) (drop k spots))
      ∙ sum_by-append f (filter (λ s. s.cell == cell) (take k spots)) (filter (λ s. s.cell == cell) (drop k spots))

  -- where enough is added, the rest changes nothing
  pub enough : (total sum : ℕ) → sum ≡ min 15_000_000 (total + sum_by f (filter (λ s. s.cell == cell) (take k spots))) → sum ≡ 15_000_000
      → sum ≡ min 15_000_000 (total + sum_by f (filter (λ s. s.cell == cell) spots))
  enough total sum so_far full = let p = parts in omega (arith, p, so_far, full)

  -- where a spot is in a higher cell, so are those behind it
  pub past_cell : (e : Spot) (total sum : ℕ) → IsNonDecreasingBy (λ (s : Spot). s.cell) spots → k < length spots → ((get_or spots k e).cell ≡ cell → ⊥)
      → ((j : ℕ) (d : Spot) → k ≤ j → j < length spots → cell ≤ (get_or spots j d).cell)
      → sum ≡ min 15_000_000 (total + sum_by f (filter (λ s. s.cell == cell) (take k spots)))
      → sum ≡ min 15_000_000 (total + sum_by f (filter (λ s. s.cell == cell) spots))
  past_cell e total sum order inside other above so_far =
      let here = above k e (omega arith) inside in
      let high : cell + 1 ≤ (get_or spots k e).cell = past_it (get_or spots k e).cell cell here other in
      let rest : filter (λ s. s.cell == cell) (drop k spots) ≡ [] =
      none_in cell (drop k spots) (λ j d h same.
      let over = above_more spots (cell + 1) k e order inside high (k + j) d (omega arith) (omega (arith, h, length-drop k spots)) in
      let at : get_or (drop k spots) j d ≡ get_or spots (k + j) d = get_or-drop k spots j d in
      let there : (get_or spots (k + j) d).cell ≡ cell = subst (λ (s : Spot). s.cell ≡ cell) at same in
      omega (arith, over, there)) in
      let p = parts in
      let none : sum_by f (filter (λ s. s.cell == cell) (drop k spots)) ≡ 0 = ap (sum_by f) rest in
      omega (arith, p, none, so_far)
