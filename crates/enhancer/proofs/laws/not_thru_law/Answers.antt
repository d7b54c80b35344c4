use Rattle.std.proofs.Common.{◌≡◌, true, refl}
use Rattle.std.proofs.lemmas.Bool.{and_parts, and_from, eqb-true, eq-eqb}
use Rattle.std.specs.Prelude.{◌==◌}
use Rattle.std.specs.Ordering.{int_eq}
use Rattle.std.specs.Cmp.{signed_Decides}
use Rattle.bounded_flood.proofs.Decided.{CutOff-from_true, true-from_CutOff}
use Rattle.enhancer.specs.declared.names.NodeName.{NodeName}
use Rattle.enhancer.specs.Graph.{same_node, near}
use Rattle.enhancer.proofs.laws.not_thru_law.Goals as goal

by_parts : (a b : NodeName) → same_node a b ≡ true → a ≡ b
by_parts a b h =
    let parts = and_parts (a.tile == b.tile) (int_eq a.osm b.osm) h in
    let t = eqb-true a.tile b.tile parts.0 in
    let o = (signed_Decides a.osm b.osm).0 parts.1 in
    λ i. record { tile = t i; osm = o i }

itself_same : (a : NodeName) → same_node a a ≡ true
itself_same a = and_from (a.tile == a.tile) (int_eq a.osm a.osm) (eq-eqb a.tile a.tile refl) ((signed_Decides a.osm a.osm).1 refl)

pub returns : goal.returns
returns c = λ places ps level left u v. (
  (λ h. CutOff-from_true same_node by_parts itself_same (near places ps level left) v 63 u h),
  (λ h. true-from_CutOff same_node by_parts itself_same (near places ps level left) v 63 u h),
)
