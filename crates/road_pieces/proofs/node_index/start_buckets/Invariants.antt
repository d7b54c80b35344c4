-- The buckets started so far start at the place.
use Rattle.std.proofs.Common.{◌≡◌, ◌+◌, ◌-◌, ◌≤◌, ◌++◌, length, replicate}
use Rattle.road_pieces.proofs.node_index.start_buckets.Given as goal

abbrev pub invariant-loop-starts : goal.invariant-loop-starts
invariant-loop-starts l =
    (l.starts.items ≡ l.initial.starts.items ++ replicate (length l.starts.items - length l.initial.starts.items) l.place) × (length l.initial.starts.items ≤ length l.starts.items)
    × (length l.starts.items - length l.initial.starts.items ≤ l.bucket + 1 - length l.initial.starts.items)

abbrev pub decreases-loop-starts : goal.decreases-loop-starts
decreases-loop-starts l = l.bucket + 1 - length l.starts.items
