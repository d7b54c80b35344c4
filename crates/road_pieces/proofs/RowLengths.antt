-- The length of a course between two places of a run is the sum of its steps, in either direction.
use Rattle.std.proofs.Common.{◌≡◌, ℕ, zero, suc, ◌+◌, ◌-◌, ◌<◌, refl, sym, ◌∙◌, ap, List, ◌∷◌, length, map, take, drop, ℤ, pos, Bool, true, false, arith}
use Rattle.std.proofs.lemmas.List.{drop_more}
use Rattle.std.proofs.lemmas.List.Sums.{sum_by-cons}
use Rattle.fixed_geo.specs.Length.{length_cm}
use Rattle.fixed_geo.specs.declared.points.Point.{Point}
use Rattle.osm_model.specs.declared.extract.Extract.{Extract}
use Rattle.road_pieces.specs.declared.steps.Step.{Step}
use Rattle.road_pieces.specs.Runs.{run}
use Rattle.road_pieces.specs.Steps.{node}
use Rattle.road_pieces.specs.Pieces.{up, down}
use Rattle.road_pieces.specs.Lengths.{point, step_cm, steps_cm, piece_cm}
use Rattle.road_pieces.specs.Rows.{course, course_cm, course_cm_from}

module _ (x : Extract) (way : ℤ) (number : ℕ) where
  abbrev ahead : ℕ → Step
  ahead k = record { way = way; run = number; segment = k; forward = true }

  abbrev pub up_cm : ℕ → ℕ → ℕ
  up_cm from count = steps_cm x (up way number from count)

  up_cm_step : (count from : ℕ) → up_cm from (suc count) ≡ step_cm x (ahead from) + up_cm (from + 1) count
  up_cm_step count from = sum_by-cons (step_cm x) (ahead from) (up way number (from + 1) count)

  -- with one segment more at the end
  up_cm_more : (count from : ℕ) → up_cm from (suc count) ≡ up_cm from count + step_cm x (ahead (from + count))
  up_cm_more zero from =
      up_cm_step 0 from ∙ omega (arith, ap (λ k. step_cm x (ahead k)) {x = from} {y = from + 0} (omega arith))
  up_cm_more (suc count) from =
      let last : step_cm x (ahead (from + 1 + count)) ≡ step_cm x (ahead (from + suc count)) = ap (λ k. step_cm x (ahead k)) {x = from + 1 + count} {y = from + suc count} (omega arith) in
      omega (arith, up_cm_step (suc count) from, up_cm_step count from, up_cm_more count (from + 1), last)

  down_cm : (count from : ℕ) → steps_cm x (down way number from count) ≡ up_cm from count
  down_cm zero from = refl
  down_cm (suc count) from =
      let first = sum_by-cons (step_cm x) (record { way = way; run = number; segment = from + count; forward = false }) (down way number from count) in
      omega (arith, first, down_cm count from, up_cm_more count from)

  pub directed_cm : (from to : ℕ) (forward : Bool) → piece_cm x (record { way = way; run = number; from = from; to = to; forward = forward }) ≡ up_cm from (to - from)
  directed_cm from to true = refl
  directed_cm from to false = down_cm (to - from) from

  abbrev nodes : List ℤ
  nodes = run x way number

  abbrev at : ℕ → Point
  at k = point x.nodes (node x way number k)

  part_cm : (count from : ℕ) → from + count < length nodes → course_cm (map (point x.nodes) (take (suc count) (drop from nodes))) ≡ up_cm from count
  part_cm zero from h =
      ap (λ l. course_cm (map (point x.nodes) (take 1 l))) (drop_more nodes from (pos 0) (omega arith))
  part_cm (suc count) from h =
      let here : drop from nodes ≡ node x way number from ∷ drop (from + 1) nodes = drop_more nodes from (pos 0) (omega arith) in
      let next : drop (from + 1) nodes ≡ node x way number (from + 1) ∷ drop (from + 1 + 1) nodes = drop_more nodes (from + 1) (pos 0) (omega arith) in
      let rest : course_cm_from (at (from + 1)) (map (point x.nodes) (take count (drop (from + 1 + 1) nodes))) ≡ up_cm (from + 1) count =
      ap (λ l. course_cm (map (point x.nodes) (take (suc count) l))) (sym next) ∙ part_cm count (from + 1) (omega arith) in
      ap (λ l. course_cm (map (point x.nodes) (take (suc (suc count)) l))) (here ∙ ap (λ l. node x way number from ∷ l) next) ∙ (ap (λ n. length_cm (at from) (at (from + 1)) + n) rest ∙ sym (up_cm_step count from))

  pub course_cm_is : (from to : ℕ) → from < to → to < length nodes → course_cm (course x.nodes nodes from to) ≡ up_cm from (to - from)
  course_cm_is from to h l =
      ap (λ n. course_cm (map (point x.nodes) (take n (drop from nodes)))) {x = to + 1 - from} {y = suc (to - from)} (omega arith) ∙ part_cm (to - from) from (omega arith)
