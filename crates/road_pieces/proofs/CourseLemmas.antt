-- The length of a course, summed segment by segment.
use Rattle.std.proofs.Common.{◌≡◌, ℕ, ◌+◌, ◌-◌, ◌*◌, ◌<◌, ◌≤◌, refl, sym, ◌∙◌, ap, List, [], ◌∷◌, length, get_or, drop, pos, arith}
use Rattle.std.proofs.lemmas.List.{drop_more, drop_all, get_or_default}
use Rattle.fixed_geo.specs.declared.points.Point.{Point}
use Rattle.fixed_geo.specs.Length.{length_cm}
use Rattle.road_pieces.specs.Rows.{course_cm, course_cm_from}

-- after the segments up to place i - 1, with what the rest gives; no segment is longer than 2^32
pub record IsSummed (points : List Point) (cm i : ℕ) : Type 0 where
  pub sum : (d : Point) → cm + course_cm_from (get_or points (i - 1) d) (drop i points) ≡ course_cm points
  pub bound : cm ≤ 4_294_967_296 * (i - 1)

pub summed_first : (points : List Point) → IsSummed points 0 1
summed_first [] = record { sum = λ d. refl; bound = omega arith }
summed_first (p ∷ points) = record { sum = λ d. omega arith; bound = omega arith }

pub summed_more : (points : List Point) (cm i : ℕ) (p q : Point) (step : ℕ) → 1 ≤ i → i < length points → p ≡ get_or points (i - 1) p → q ≡ get_or points i q → step ≡ length_cm p q → step < 4_294_967_296 → IsSummed points cm i → IsSummed points (cm + step) (i + 1)
summed_more points cm i p q step low h is_p is_q long short s = record {
  sum = λ d. let before : course_cm_from (get_or points (i - 1) p) (drop i points) ≡ course_cm_from p (q ∷ drop (i + 1) points) =
      ap (λ a. course_cm_from a (drop i points)) (sym is_p) ∙ ap (course_cm_from p) (drop_more points i q h ∙ ap (λ a. a ∷ drop (i + 1) points) (sym is_q)) in
      let after : course_cm_from (get_or points (i + 1 - 1) d) (drop (i + 1) points) ≡ course_cm_from q (drop (i + 1) points) =
      ap (λ a. course_cm_from a (drop (i + 1) points)) (ap (λ k. get_or points k d) {x = i + 1 - 1} {y = i} (omega arith) ∙ (get_or_default points i d q h ∙ sym is_q)) in
      omega (arith, s.sum p, before, after, long);
  bound = omega (arith, s.bound);
}

pub summed_all : (points : List Point) (cm i : ℕ) → length points ≤ i → IsSummed points cm i → cm ≡ course_cm points
summed_all points cm i h s =
    let d : Point = record { lat = pos 0; lon = pos 0 } in
    omega (arith, s.sum d, ap (course_cm_from (get_or points (i - 1) d)) (drop_all i points h))
