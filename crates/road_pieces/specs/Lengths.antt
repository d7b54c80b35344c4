-- Lengths of steps and pieces, in centimetres.
use Rattle.std.specs.Prelude.{ℕ, ◌+◌, ℤ, pos, List, find, sum_by}
use Rattle.std.specs.Option.{option_map_or}
use Rattle.std.specs.Ordering.{int_eq}
use Rattle.fixed_geo.specs.declared.points.Point.{Point}
use Rattle.fixed_geo.specs.Length.{length_cm}
use Rattle.osm_model.specs.declared.nodes.OsmNode.{OsmNode}
use Rattle.osm_model.specs.declared.extract.Extract.{Extract}
use Rattle.road_pieces.specs.declared.steps.Step.{Step}
use Rattle.road_pieces.specs.DirectedPiece.{DirectedPiece}
use Rattle.road_pieces.specs.Steps.{node}
use Rattle.road_pieces.specs.Pieces.{steps}

-- where a node is
abbrev pub point_of : OsmNode → Point
point_of n = record { lat = n.lat; lon = n.lon }

-- where the node of that id is; without one, where the equator meets the first meridian
abbrev pub point : List OsmNode → ℤ → Point
point nodes id = option_map_or point_of (find (λ n. int_eq n.id id) nodes) (record { lat = pos 0; lon = pos 0 })

-- the length of a step: the same in both directions
abbrev pub step_cm : Extract → Step → ℕ
step_cm x s = length_cm (point x.nodes (node x s.way s.run s.segment)) (point x.nodes (node x s.way s.run (s.segment + 1)))

-- the length of a list of steps, and of a piece, is the sum over its segments
abbrev pub steps_cm : Extract → List Step → ℕ
steps_cm x ss = sum_by (step_cm x) ss

abbrev pub piece_cm : Extract → DirectedPiece → ℕ
piece_cm x p = steps_cm x (steps p)
