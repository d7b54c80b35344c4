use Rattle.osm_objects.specs.Relations.{members_of}
use Rattle.osm_objects.specs.Seen.{table_of}
use Rattle.osm_objects.specs.Answers.{after}
use Rattle.osm_objects.proofs.Loops.{members_left, Going}
use Rattle.osm_objects.proofs.relations.read_members.Given as goal

abbrev pub invariant-loop-i : goal.invariant-loop-i
invariant-loop-i l = Going
    (members_of (table_of l.fn.texts) l.at l.roles l.ids l.kinds)
    (after l.members.items (members_left (table_of l.fn.texts) l.at l.roles l.ids l.kinds l.i))
    (table_of l.fn.texts) (table_of l.texts)
