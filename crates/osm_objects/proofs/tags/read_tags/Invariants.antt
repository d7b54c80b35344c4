use Rattle.std.specs.List.{zip}
use Rattle.osm_objects.specs.Tags.{tags_of}
use Rattle.osm_objects.specs.Seen.{table_of}
use Rattle.osm_objects.specs.Answers.{after}
use Rattle.osm_objects.proofs.Loops.{tags_left, Going}
use Rattle.osm_objects.proofs.tags.read_tags.Given as goal

abbrev pub invariant-loop-i : goal.invariant-loop-i
invariant-loop-i l = Going
    (tags_of (table_of l.fn.texts) l.at (zip l.keys l.values))
    (after l.tags.items (tags_left (table_of l.fn.texts) l.at l.keys l.values l.i))
    (table_of l.fn.texts) (table_of l.texts)
