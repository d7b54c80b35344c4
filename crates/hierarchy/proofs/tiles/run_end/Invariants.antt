-- The spots so far have the tile of the first one.
use Rattle.std.proofs.Common.{◌≡◌, ◌+◌, ◌<◌, ◌≤◌, ℕ, get_or}
use Rattle.hierarchy.specs.declared.spots.Spot.{Spot}
use Rattle.hierarchy.proofs.tiles.run_end.Given as goal

abbrev pub invariant-loop-to : goal.invariant-loop-to
invariant-loop-to l = record {
  low : l.from + 1 ≤ l.to;
  same : (k : ℕ) (d : Spot) → l.from ≤ k → k < l.to → (get_or l.spots k d).tile ≡ l.tile;
  here : (d : Spot) → (get_or l.spots l.from d).tile ≡ l.tile;
}
