use Rattle.osm_messages.specs.Numbers.{shape_of, numbers_in}
use Rattle.osm_messages.specs.Passes.{spelled, check_step}
use Rattle.osm_messages.proofs.Walks.{Going, left_of}
use Rattle.osm_messages.proofs.numbers.check_numbers.Given as goal

abbrev pub invariant-loop-field : goal.invariant-loop-field
invariant-loop-field l =
    Going (spelled (numbers_in (shape_of l.kind) l.at l.bytes)) (left_of (check_step (shape_of l.kind)) tt l.field-iterator) l.field-iterator
