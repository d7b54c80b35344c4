-- The nodes so far have their buckets.
use Rattle.road_pieces.proofs.NodeBuckets.{AreStarted}
use Rattle.road_pieces.proofs.node_index.NodeIndex.new.Given as goal

abbrev pub invariant-loop-place : goal.invariant-loop-place
invariant-loop-place l = AreStarted l.nodes l.first l.shift l.place l.starts.items
