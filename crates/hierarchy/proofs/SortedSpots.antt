-- Spots that were sorted.
use Rattle.std.proofs.Common.{◌≡◌, ℕ, Bool, true, false, ℤ, List, get_or, refl, sym, arith, cond, eq-eqb}
use Rattle.std.specs.Prelude.{AllPairs, int_lt, nat_lt, nat_eq}
use Rattle.std.specs.Ordering.{int_cmp, nat_cmp, ordering_then, is_lt}
use Rattle.std.specs.declared.cmp.Ordering.{Ordering}
use Rattle.std.specs.declared.cmp.Ordering.TheVariants.{Less, Equal, Greater}
use Rattle.std.specs.List.Sorted.{IsSortedByKey}
use Rattle.std.proofs.lemmas.Bool.{both_ways, ltb-false}
use Rattle.std.proofs.lemmas.Cmp.{then_total, on_total, nat_cmp_total, int_cmp_total}
use Rattle.std.proofs.lemmas.List.Sorted.{ranks_by, sorted_far}
use Rattle.hierarchy.specs.declared.spots.Spot.{Spot}
use Rattle.hierarchy.specs.Spots.{TilesRise}
use Rattle.hierarchy.proofs.LevelLemmas.{IsNotAfter}

-- the order by tile, then by OSM id
abbrev pub place_cmp : ℕ × ℤ → ℕ × ℤ → Ordering
place_cmp a b = ordering_then (nat_cmp a.0 b.0) (int_cmp a.1 b.1)

-- what isn't less, where the tests of the two parts say a, b and c, d
not_first : (a b : Bool) (o : Ordering) → is_lt (ordering_then (cond a Less (cond b Equal Greater)) o) ≡ false → a ≡ false
not_first true b o h = absurd (both_ways true h refl)
not_first false b o h = refl

not_second : (a b c d : Bool) → a ≡ false → b ≡ true → is_lt (ordering_then (cond a Less (cond b Equal Greater)) (cond c Less (cond d Greater Equal))) ≡ false → c ≡ false
not_second true b c d e f h = absurd (both_ways true e refl)
not_second false false c d e f h = absurd (both_ways false refl f)
not_second false true true d e f h = absurd (both_ways true h refl)
not_second false true false d e f h = refl

not_after : (s r : Spot) → is_lt (place_cmp (r.tile, r.osm) (s.tile, s.osm)) ≡ false → IsNotAfter s r
not_after s r h =
    let first : nat_lt r.tile s.tile ≡ false = not_first (nat_lt r.tile s.tile) (nat_eq r.tile s.tile) (int_cmp r.osm s.osm) h in
    record {
      tiles = ltb-false r.tile s.tile first;
      nodes = λ same. not_second (nat_lt r.tile s.tile) (nat_eq r.tile s.tile) (int_lt r.osm s.osm) (int_lt s.osm r.osm) first (eq-eqb r.tile s.tile (sym same)) h;
    }

pub pairs_from : (spots : List Spot) → IsSortedByKey (λ s. (s.tile, s.osm)) place_cmp spots → AllPairs IsNotAfter spots
pairs_from spots up i j d below inside =
    not_after (get_or spots i d) (get_or spots j d)
    (sorted_far (λ s r. is_lt (place_cmp (s.tile, s.osm) (r.tile, r.osm))) (ranks_by (then_total (on_total (λ (p : ℕ × ℤ). p.0) nat_cmp_total) (on_total (λ (p : ℕ × ℤ). p.1) int_cmp_total)) (λ s. (s.tile, s.osm))) spots up i j d (omega (arith, below)) inside)

pub tiles_rise : (spots : List Spot) → AllPairs IsNotAfter spots → TilesRise spots
tiles_rise spots pairs = record { rise = λ i j d below inside. (pairs i j d below inside).tiles }
