-- The ids of the members that the loop has passed.
use Rattle.std.proofs.Common.{◌≡◌, take}
use Rattle.osm_restrictions.specs.Members.{ids_as}
use Rattle.osm_restrictions.proofs.members.ids_as.Given as goal

abbrev pub invariant-loop-i : goal.invariant-loop-i
invariant-loop-i l = l.ids ≡ ids_as l.kind l.role (take l.i l.members)
