use Rattle.std.proofs.Common.{◌≡◌, ℕ, ◌*◌, ◌/◌, refl, sym, ap, ◌∙◌, arith, pos, neg_ℤ}
use Rattle.fixed_geo.specs.declared.points.Point.{Point}
use Rattle.fixed_geo.specs.Root.{IsWholeRoot, whole_root_of}
use Rattle.fixed_geo.specs.Length.{mean_latitude, cosine_of, latitude_difference, short_way, longitude_difference, west_east, square_length, length_cm}
use Rattle.fixed_geo.proofs.RootLaws.{only_root}
use Rattle.fixed_geo.proofs.lengths.worked_lengths.Goals as goal

-- the length, by the square and its root
by_root : (a b : Point) (square root cm : ℕ) → square_length a b ≡ square → IsWholeRoot root square → root * 11132 / 10000 ≡ cm → length_cm a b ≡ cm
unfolding length_cm
by_root a b square root cm squared is e =
    ap (λ n. whole_root_of n * 11132 / 10000) squared ∙ ap (λ r. r * 11132 / 10000) (sym (only_root {r = root} {n = square} is)) ∙ e

pub returns-clause-equator : goal.returns-clause-equator
unfolding mean_latitude cosine_of latitude_difference short_way longitude_difference west_east square_length
returns-clause-equator c =
    by_root (record { lat = pos 0; lon = pos 0 }) (record { lat = pos 0; lon = pos 10_000 }) 100000000 10000 11132 refl (record { not_above = omega arith; greatest = omega arith }) refl

pub returns-clause-sixty : goal.returns-clause-sixty
unfolding mean_latitude cosine_of latitude_difference short_way longitude_difference west_east square_length
returns-clause-sixty c =
    by_root (record { lat = pos 600_000_000; lon = pos 0 }) (record { lat = pos 600_000_000; lon = pos 10_000 }) 25000000 5000 5566 refl (record { not_above = omega arith; greatest = omega arith }) refl

pub returns-clause-across : goal.returns-clause-across
unfolding mean_latitude cosine_of latitude_difference short_way longitude_difference west_east square_length
returns-clause-across c =
    by_root (record { lat = pos 0; lon = pos 1_799_995_000 }) (record { lat = pos 0; lon = neg_ℤ (pos 1_799_995_000) }) 100000000 10000 11132 refl (record { not_above = omega arith; greatest = omega arith }) refl

pub returns-clause-itself : goal.returns-clause-itself
unfolding mean_latitude cosine_of latitude_difference short_way longitude_difference west_east square_length
returns-clause-itself c =
    by_root (record { lat = pos 412_500_000; lon = pos 7 }) (record { lat = pos 412_500_000; lon = pos 7 }) 0 0 0 refl (record { not_above = omega arith; greatest = omega arith }) refl

pub returns-clause-rounded_down : goal.returns-clause-rounded_down
unfolding mean_latitude cosine_of latitude_difference short_way longitude_difference west_east square_length
returns-clause-rounded_down c =
    by_root (record { lat = pos 0; lon = pos 0 }) (record { lat = pos 5; lon = pos 0 }) 25 5 5 refl (record { not_above = omega arith; greatest = omega arith }) refl
