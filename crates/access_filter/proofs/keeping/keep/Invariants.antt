-- The tiles so far are kept or left.
use Rattle.std.proofs.Common.{◌≡◌}
use Rattle.access_filter.specs.Kept.{kept_tiles}
use Rattle.access_filter.proofs.keeping.keep.Given as goal

abbrev pub invariant-loop-tile : goal.invariant-loop-tile
invariant-loop-tile l = l.kept.items ≡ kept_tiles l.modes l.yielded
