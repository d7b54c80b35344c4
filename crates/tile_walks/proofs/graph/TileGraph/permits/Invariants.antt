-- The tiles so far permit the items.
use Rattle.std.proofs.Common.{ℕ, ◌<◌}
use Rattle.std.specs.Prelude.{slice_index_or}
use Rattle.tile_bytes.specs.declared.tile.Tile.{Tile}
use Rattle.tile_walks.specs.Forbidden.{TilePermits}
use Rattle.tile_walks.proofs.graph.TileGraph.permits.Given as goal

abbrev pub invariant-loop-tile : goal.invariant-loop-tile
invariant-loop-tile l = (k : ℕ) (d : Tile) → k < l.tile-index → TilePermits l.mode l.items (slice_index_or l.self k d)
