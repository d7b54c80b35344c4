-- What the roads of an extract are.
use Rattle.std.specs.Prelude.{◌≡◌, length}
use Rattle.osm_model.specs.declared.extract.Extract.{Extract}
use Rattle.road_pieces.specs.declared.rows.Roads.{Roads}
use Rattle.road_pieces.specs.Runs.{all_runs}
use Rattle.road_pieces.specs.Rows.{junction_rows, piece_rows, routable_ways, missing_refs}

-- these are the roads of that extract: its junctions, its pieces, and the counts of its routable ways, of their runs and
-- of the places in their refs whose node isn't there
pub record RoadsOf (x : Extract) (roads : Roads) : Type 0 where
  pub junctions : roads.junctions ≡ junction_rows x
  pub pieces : roads.pieces ≡ piece_rows x
  pub ways : roads.ways ≡ routable_ways x
  pub runs : roads.runs ≡ length (all_runs x)
  pub missing : roads.missing ≡ missing_refs x
