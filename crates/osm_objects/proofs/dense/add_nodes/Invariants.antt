use Rattle.osm_objects.specs.FirstGroups.{nodes_read}
use Rattle.osm_objects.specs.Seen.{table_of}
use Rattle.osm_objects.specs.Answers.{after}
use Rattle.osm_objects.proofs.DenseLoop.{DenseSoFar}
use Rattle.osm_objects.proofs.Counted.{NodesSoFar}
use Rattle.osm_objects.proofs.dense.add_nodes.Given as goal

abbrev pub invariant-loop-i : goal.invariant-loop-i
invariant-loop-i l = record {
  so_far : DenseSoFar (table_of l.fn.texts) (table_of l.texts) l.scale l.at
      (after l.fn.nodes (nodes_read (table_of l.fn.texts) l.scale l.at l.sums.ids.items l.sums.lats.items l.sums.lons.items l.keys_values))
      l.misplaced l.nodes l.sums.ids.items l.sums.lats.items l.sums.lons.items l.i l.rest;
  fits : NodesSoFar l.fn.nodes l.nodes l.i l.keys_values l.rest;
}
