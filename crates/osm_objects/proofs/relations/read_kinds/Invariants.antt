use Rattle.std.proofs.Common.{◌≡◌, drop}
use Rattle.osm_objects.specs.Steps.{each}
use Rattle.osm_objects.specs.Relations.{member_kind_of}
use Rattle.osm_objects.specs.Answers.{after}
use Rattle.osm_objects.proofs.relations.read_kinds.Given as goal

abbrev pub invariant-loop-i : goal.invariant-loop-i
invariant-loop-i l = each (member_kind_of l.at) l.types ≡ after l.kinds.items (each (member_kind_of l.at) (drop l.i l.types))
