use Rattle.osm_messages.specs.Numbers.{shape_of, numbers_in}
use Rattle.osm_messages.specs.Lists.{seen_lists, listed_numbers, list_step}
use Rattle.osm_messages.proofs.Walks.{Going, left_of}
use Rattle.osm_messages.proofs.numbers.read_numbers.Given as goal

abbrev pub invariant-loop-field : goal.invariant-loop-field
invariant-loop-field l =
    Going (listed_numbers (numbers_in (shape_of l.object.kind) l.object.at l.object.bytes.now))
    (left_of (list_step (shape_of l.object.kind)) (seen_lists l.lists) l.field-iterator) l.field-iterator
