-- The length of the course of a piece is the sum over its segments, in either direction.
use Rattle.std.proofs.Common.{◌≡◌, ℕ, zero, suc, ◌+◌, ◌-◌, ◌<◌, refl, sym, ◌∙◌, ap, List, ◌∷◌, length, map, take, drop, ℤ, pos, Bool, true, false, arith}
use Rattle.std.proofs.lemmas.List.{drop_more}
use Rattle.std.proofs.lemmas.List.Sums.{sum_by-cons}
use Rattle.fixed_geo.specs.Length.{length_cm}
use Rattle.fixed_geo.specs.declared.points.Point.{Point}
use Rattle.osm_model.specs.declared.extract.Extract.{Extract}
use Rattle.road_pieces.specs.declared.steps.Step.{Step}
use Rattle.road_pieces.specs.Runs.{run}
use Rattle.road_pieces.specs.Steps.{node}
use Rattle.road_pieces.specs.Pieces.{up, down}
use Rattle.road_pieces.specs.Lengths.{point, step_cm, steps_cm, piece_cm}
use Rattle.road_pieces.specs.Rows.{course_cm, course_cm_from}

module _ (x : Extract) (way : ℤ) (number : ℕ) where
  abbrev step_at : ℕ → Step
  step_at k = record { way = way; run = number; segment = k; forward = true }

  abbrev sum_up : ℕ → ℕ → ℕ
  sum_up from count = steps_cm x (up way number from count)

  first_step : (count from : ℕ) → sum_up from (suc count) ≡ step_cm x (step_at from) + sum_up (from + 1) count
  first_step count from = sum_by-cons (step_cm x) (step_at from) (up way number (from + 1) count)

  last_step : (count from : ℕ) → sum_up from (suc count) ≡ sum_up from count + step_cm x (step_at (from + count))
  last_step zero from =
      let same : step_cm x (step_at from) ≡ step_cm x (step_at (from + 0)) = ap (λ k. step_cm x (step_at k)) {x = from} {y = from + 0} (omega arith) in
      first_step 0 from ∙ omega (arith, same)
  last_step (suc count) from =
      let last : step_cm x (step_at (from + 1 + count)) ≡ step_cm x (step_at (from + suc count)) = ap (λ k. step_cm x (step_at k)) {x = from + 1 + count} {y = from + suc count} (omega arith) in
      omega (arith, first_step (suc count) from, first_step count from, last_step count (from + 1), last)

  sum_down : (count from : ℕ) → steps_cm x (down way number from count) ≡ sum_up from count
  sum_down zero from = refl
  sum_down (suc count) from =
      let first = sum_by-cons (step_cm x) (record { way = way; run = number; segment = from + count; forward = false }) (down way number from count) in
      omega (arith, first, sum_down count from, last_step count from)

  -- a piece is as long in the one direction as in the other
  pub length_either_way : (from to : ℕ) (forward : Bool) → piece_cm x (record { way = way; run = number; from = from; to = to; forward = true }) ≡ piece_cm x (record { way = way; run = number; from = from; to = to; forward = forward })
  length_either_way from to true = refl
  length_either_way from to false = sym (sum_down (to - from) from)

  abbrev its_nodes : List ℤ
  its_nodes = run x way number

  abbrev its_point : ℕ → Point
  its_point k = point x.nodes (node x way number k)

  course_sum : (count from : ℕ) → from + count < length its_nodes → course_cm (map (point x.nodes) (take (suc count) (drop from its_nodes))) ≡ sum_up from count
  course_sum zero from h =
      ap (λ l. course_cm (map (point x.nodes) (take 1 l))) (drop_more its_nodes from (pos 0) (omega arith))
  course_sum (suc count) from h =
      let here : drop from its_nodes ≡ node x way number from ∷ drop (from + 1) its_nodes = drop_more its_nodes from (pos 0) (omega arith) in
      let next : drop (from + 1) its_nodes ≡ node x way number (from + 1) ∷ drop (from + 1 + 1) its_nodes = drop_more its_nodes (from + 1) (pos 0) (omega arith) in
      let rest : course_cm_from (its_point (from + 1)) (map (point x.nodes) (take count (drop (from + 1 + 1) its_nodes))) ≡ sum_up (from + 1) count =
      ap (λ l. course_cm (map (point x.nodes) (take (suc count) l))) (sym next) ∙ course_sum count (from + 1) (omega arith) in
      ap (λ l. course_cm (map (point x.nodes) (take (suc (suc count)) l))) (here ∙ ap (λ l. node x way number from ∷ l) next) ∙ (ap (λ n. length_cm (its_point from) (its_point (from + 1)) + n) rest ∙ sym (first_step count from))

  pub length_of_course : (from to : ℕ) → from < to → to < length its_nodes → course_cm (map (point x.nodes) (take (suc (to - from)) (drop from its_nodes))) ≡ piece_cm x (record { way = way; run = number; from = from; to = to; forward = true })
  length_of_course from to h l = course_sum (to - from) from (omega arith)
