-- A step is one of a single piece, at a single place.
use Rattle.std.proofs.Common.{◌≡◌, ℕ, zero, suc, ◌+◌, ◌-◌, ◌<◌, ◌≤◌, refl, sym, ◌∙◌, ap, subst, List, [], ◌∷◌, ◌++◌, length, ℤ, Bool, true, false, cond, inl, inr, arith}
use Rattle.std.proofs.lemmas.Bool.{both_ways, cases_order}
use Rattle.std.proofs.lemmas.List.{nil_from_length}
use Rattle.osm_model.specs.declared.extract.Extract.{Extract}
use Rattle.road_pieces.specs.declared.steps.Step.{Step}
use Rattle.road_pieces.specs.DirectedPiece.{DirectedPiece}
use Rattle.road_pieces.specs.Runs.{is_junction}
use Rattle.road_pieces.specs.Steps.{node}
use Rattle.road_pieces.specs.Pieces.{IsPiece, up, down, steps}
use Rattle.road_pieces.proofs.Patterns.{same_head, same_tail, not_nil}

-- where a step stands among the steps of a part of a run: there are so many before and after it
record IsAmong (way : ℤ) (number from count : ℕ) (forward : Bool) (s : Step) (before after : List Step) : Type 0 where
  same_way : s.way ≡ way
  same_run : s.run ≡ number
  same_direction : s.forward ≡ forward
  low : from ≤ s.segment
  high : s.segment < from + count
  all : length before + suc (length after) ≡ count
  place : s.segment ≡ from + cond forward (length before) (length after)

length-up : (way : ℤ) (number count from : ℕ) → length (up way number from count) ≡ count
length-up way number zero from = refl
length-up way number (suc count) from = ap suc (length-up way number count (from + 1))

length-down : (way : ℤ) (number count from : ℕ) → length (down way number from count) ≡ count
length-down way number zero from = refl
length-down way number (suc count) from = ap suc (length-down way number count from)

in_up : (way : ℤ) (number count from : ℕ) (s : Step) (c d : List Step) → up way number from count ≡ c ++ s ∷ d → IsAmong way number from count true s c d
in_up way number zero from s c d h = absurd (not_nil c d s h)
in_up way number (suc count) from s [] d h =
    let e = same_head _ s _ d h in
    let left : length d ≡ count = ap length (sym (same_tail _ s _ d h)) ∙ length-up way number count (from + 1) in
    let here : s.segment ≡ from = ap (λ t. t.segment) (sym e) in
    record {
      same_way = ap (λ t. t.way) (sym e);
      same_run = ap (λ t. t.run) (sym e);
      same_direction = ap (λ t. t.forward) (sym e);
      low = omega arith;
      high = omega arith;
      all = omega arith;
      place = omega arith;
    }
in_up way number (suc count) from s (t ∷ c) d h =
    let in_rest : IsAmong way number (from + 1) count true s c d =
    in_up way number count (from + 1) s c d (same_tail _ t _ (c ++ s ∷ d) h) in
    record {
      same_way = in_rest.same_way;
      same_run = in_rest.same_run;
      same_direction = in_rest.same_direction;
      low = omega (arith, in_rest.low);
      high = omega (arith, in_rest.high);
      all = omega (arith, in_rest.all);
      place = omega (arith, in_rest.place);
    }

in_down : (way : ℤ) (number count from : ℕ) (s : Step) (c d : List Step) → down way number from count ≡ c ++ s ∷ d → IsAmong way number from count false s c d
in_down way number zero from s c d h = absurd (not_nil c d s h)
in_down way number (suc count) from s [] d h =
    let e = same_head _ s _ d h in
    let left : length d ≡ count = ap length (sym (same_tail _ s _ d h)) ∙ length-down way number count from in
    let here : s.segment ≡ from + count = ap (λ t. t.segment) (sym e) in
    record {
      same_way = ap (λ t. t.way) (sym e);
      same_run = ap (λ t. t.run) (sym e);
      same_direction = ap (λ t. t.forward) (sym e);
      low = omega arith;
      high = omega arith;
      all = omega arith;
      place = omega arith;
    }
in_down way number (suc count) from s (t ∷ c) d h =
    let in_rest : IsAmong way number from count false s c d =
    in_down way number count from s c d (same_tail _ t _ (c ++ s ∷ d) h) in
    record {
      same_way = in_rest.same_way;
      same_run = in_rest.same_run;
      same_direction = in_rest.same_direction;
      low = in_rest.low;
      high = omega (arith, in_rest.high);
      all = omega (arith, in_rest.all);
      place = in_rest.place;
    }

-- the same of a directed piece
among_at : (way : ℤ) (number from to : ℕ) (forward : Bool) (s : Step) (c d : List Step) → steps (record { way = way; run = number; from = from; to = to; forward = forward }) ≡ c ++ s ∷ d → IsAmong way number from (to - from) forward s c d
among_at way number from to true s c d h = in_up way number (to - from) from s c d h
among_at way number from to false s c d h = in_down way number (to - from) from s c d h

abbrev Among : DirectedPiece → Step → List Step → List Step → Type 0
Among p s c d = IsAmong p.way p.run p.from (p.to - p.from) p.forward s c d

among : (p : DirectedPiece) (s : Step) (c d : List Step) → steps p ≡ c ++ s ∷ d → Among p s c d
among p s c d h = among_at p.way p.run p.from p.to p.forward s c d h

-- a piece has a step
some_at : (way : ℤ) (number from to : ℕ) (forward : Bool) → from < to → (s : Step) × ((ts : List Step) × (steps (record { way = way; run = number; from = from; to = to; forward = forward }) ≡ s ∷ ts))
some_at way number from to true h =
    (record { way = way; run = number; segment = from; forward = true }, (up way number (from + 1) (to - from - 1), ap (up way number from) {x = to - from} {y = suc (to - from - 1)} (omega arith)))
some_at way number from to false h =
    (record { way = way; run = number; segment = from + (to - from - 1); forward = false }, (down way number from (to - from - 1), ap (down way number from) {x = to - from} {y = suc (to - from - 1)} (omega arith)))

module _ (x : Extract) where
  pub some : (p : DirectedPiece) → IsPiece x p → (s : Step) × ((ts : List Step) × (steps p ≡ s ∷ ts))
  some p is = some_at p.way p.run p.from p.to p.forward is.rises

  -- a step that is the last one of a piece has nothing after it there
  lone_at : (forward : Bool) (from count k : ℕ) (a c d : List Step) → k ≡ from + cond forward (length a) 0 → k ≡ from + cond forward (length c) (length d) → length a + 1 ≡ count → length c + suc (length d) ≡ count → length d ≡ 0
  lone_at true from count k a c d h n e f = omega arith
  lone_at false from count k a c d h n e f = omega arith

  pub lone : (p : DirectedPiece) (s : Step) (a c d : List Step) → IsPiece x p → steps p ≡ a ++ s ∷ [] → steps p ≡ c ++ s ∷ d → d ≡ []
  lone p s a c d is h n =
      let one : Among p s a [] = among p s a [] h in
      let two : Among p s c d = among p s c d n in
      nil_from_length d (lone_at p.forward p.from (p.to - p.from) s.segment a c d one.place two.place (omega (arith, one.all)) two.all)

  -- two pieces of a run that have a segment in common begin at one place and end at one
  abbrev at : ℤ → ℕ → ℕ → Bool
  at way number k = is_junction x (node x way number k)

  record Interval (way : ℤ) (number from to : ℕ) : Type 0 where
    begins : at way number from ≡ true
    ends : at way number to ≡ true
    plain : (k : ℕ) → from < k → k < to → at way number k ≡ false

  not_below : (way : ℤ) (number from to from' to' k : ℕ) → Interval way number from to → Interval way number from' to' → from ≤ k → k < to → from' ≤ k → k < to' → from < from' → ⊥
  not_below way number from to from' to' k i j a b c d h =
      both_ways (at way number from') (i.plain from' h (omega arith)) j.begins

  not_above : (way : ℤ) (number from to from' to' k : ℕ) → Interval way number from to → Interval way number from' to' → from ≤ k → k < to → from' ≤ k → k < to' → to < to' → ⊥
  not_above way number from to from' to' k i j a b c d h =
      both_ways (at way number to) (j.plain to (omega arith) h) i.ends

  same_from : (way : ℤ) (number from to from' to' k : ℕ) → Interval way number from to → Interval way number from' to' → from ≤ k → k < to → from' ≤ k → k < to' → from ≡ from'
  same_from way number from to from' to' k i j a b c d =
      elim (cases_order from from') [
        | inl e ↦ e
        | inr other ↦ elim other [
          | inl h ↦ absurd (not_below way number from to from' to' k i j a b c d h)
          | inr h ↦ absurd (not_below way number from' to' from to k j i c d a b h)
        ]
      ]

  same_to : (way : ℤ) (number from to from' to' k : ℕ) → Interval way number from to → Interval way number from' to' → from ≤ k → k < to → from' ≤ k → k < to' → to ≡ to'
  same_to way number from to from' to' k i j a b c d =
      elim (cases_order to to') [
        | inl e ↦ e
        | inr other ↦ elim other [
          | inl h ↦ absurd (not_above way number from to from' to' k i j a b c d h)
          | inr h ↦ absurd (not_above way number from' to' from to k j i c d a b h)
        ]
      ]

  interval : (p : DirectedPiece) (way : ℤ) (number : ℕ) → p.way ≡ way → p.run ≡ number → IsPiece x p → Interval way number p.from p.to
  interval p way number e f is =
      subst (λ w. Interval w number p.from p.to) e (subst (λ n. Interval p.way n p.from p.to) f (record { begins = is.begins; ends = is.ends; plain = is.plain }))

  pub same : (p q : DirectedPiece) (s : Step) (a b c d : List Step) → IsPiece x p → IsPiece x q → steps p ≡ a ++ s ∷ b → steps q ≡ c ++ s ∷ d → p ≡ q
  same p q s a b c d is_p is_q h n =
      let one : Among p s a b = among p s a b h in
      let two : Among q s c d = among q s c d n in
      let i : Interval s.way s.run p.from p.to = interval p s.way s.run (sym one.same_way) (sym one.same_run) is_p in
      let j : Interval s.way s.run q.from q.to = interval q s.way s.run (sym two.same_way) (sym two.same_run) is_q in
      let below_p : s.segment < p.to = omega (arith, one.high, is_p.rises) in
      let below_q : s.segment < q.to = omega (arith, two.high, is_q.rises) in
      let from : p.from ≡ q.from = same_from s.way s.run p.from p.to q.from q.to s.segment i j one.low below_p two.low below_q in
      let to : p.to ≡ q.to = same_to s.way s.run p.from p.to q.from q.to s.segment i j one.low below_p two.low below_q in
      let way : p.way ≡ q.way = sym one.same_way ∙ two.same_way in
      let number : p.run ≡ q.run = sym one.same_run ∙ two.same_run in
      let forward : p.forward ≡ q.forward = sym one.same_direction ∙ two.same_direction in
      λ i. record { way = way i; run = number i; from = from i; to = to i; forward = forward i }
