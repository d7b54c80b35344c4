use Rattle.std.proofs.Common.{◌+◌, ◌<◌, ◌^◌, drop}
use Rattle.osm_messages.specs.Seen.{seen_block}
use Rattle.osm_messages.specs.Sizes.{object_bytes}
use Rattle.osm_objects.specs.Objects.{joined_behind, objects_of, with_objects, scale_of}
use Rattle.osm_objects.specs.Seen.{table_of, seen_objects}
use Rattle.osm_objects.specs.Sizes.{parts_in}
use Rattle.osm_objects.proofs.Loops.{Going}
use Rattle.osm_objects.proofs.objects.add_objects.Given as goal

abbrev pub invariant-loop-i : goal.invariant-loop-i
invariant-loop-i l = record {
  going : Going
      (joined_behind (seen_objects l.fn.lists) (objects_of l.at (seen_block l.block)))
      (with_objects (table_of l.initial.texts) (scale_of (seen_block l.block)) (seen_objects l.lists) (drop l.i (seen_block l.block).objects))
      (table_of l.initial.texts) (table_of l.texts);
  room : parts_in (seen_objects l.lists) + object_bytes (drop l.i (seen_block l.block).objects) < 2 ^ 31;
}
