use Rattle.std.proofs.Common.{map}
use Rattle.osm_messages.specs.Groups.{group_in}
use Rattle.osm_messages.specs.Passes.{behind, pass_step}
use Rattle.osm_messages.specs.Seen.{seen_object}
use Rattle.osm_messages.proofs.Walks.{Going, left_of}
use Rattle.osm_messages.proofs.Members.{objects_of}
use Rattle.osm_messages.proofs.group.read_primitive_group.Given as goal

abbrev pub invariant-loop-field : goal.invariant-loop-field
invariant-loop-field l =
    Going (behind (map seen_object l.fn.objects.items) (group_in l.at l.bytes))
    (objects_of (left_of pass_step (map seen_object l.objects.items, l.has_dense) l.field-iterator)) l.field-iterator
