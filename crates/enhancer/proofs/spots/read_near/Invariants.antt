-- The spots of the tiles so far.
use Rattle.std.proofs.Common.{◌≡◌, ◌≤◌, List, map}
use Rattle.std.specs.Prelude.{flat_map}
use Rattle.std.specs.List.{range_with_len}
use Rattle.work_tile.specs.WorkRows.{WorkRows}
use Rattle.enhancer.specs.Density.{near_tile, tile_spots}
use Rattle.enhancer.proofs.spots.read_near.Given as goal

abbrev pub invariant-loop-k : goal.invariant-loop-k
invariant-loop-k g l =
    record {
      stays : g.S.Parts.stays l.fn.parts l.parts;
      lost : g.S.Parts.lost l.fn.parts ≤ g.S.Parts.lost l.parts;
      spots : (ps : List WorkRows) → g.S.Parts.shows l.fn.parts ps → l.spots.items ≡ flat_map (tile_spots l.places ps) (map (near_tile l.tile) (range_with_len 0 l.k));
    }
