-- The points of the places so far are added.
use Rattle.std.proofs.Common.{◌≡◌, ◌++◌, take, map}
use Rattle.road_pieces.specs.Parts.{point_at}
use Rattle.road_pieces.proofs.courses.add_course.Given as goal

abbrev pub invariant-loop-place : goal.invariant-loop-place
invariant-loop-place l = l.points.items ≡ l.fn.points.items ++ map (point_at l.nodes) (take l.place-index l.places)
