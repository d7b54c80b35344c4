-- No relation so far is a turn restriction.
use Rattle.std.proofs.Common.{◌≡◌, drop}
use Rattle.std.specs.Prelude.{find}
use Rattle.osm_restrictions.specs.Keys.{is_restriction}
use Rattle.build_flow.proofs.unbuilt.first_restriction.Given as goal

abbrev pub invariant-loop-i : goal.invariant-loop-i
invariant-loop-i l =
    find (λ relation. is_restriction relation.tags) (drop l.i l.relations) ≡ find (λ relation. is_restriction relation.tags) l.relations
