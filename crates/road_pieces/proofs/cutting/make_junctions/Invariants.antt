-- The junctions so far are those among the nodes so far.
use Rattle.std.proofs.Common.{◌≡◌, take, map}
use Rattle.std.specs.Prelude.{filter}
use Rattle.road_pieces.specs.Runs.{is_junction}
use Rattle.road_pieces.specs.Rows.{junction_row}
use Rattle.road_pieces.proofs.cutting.make_junctions.Given as goal

abbrev pub invariant-loop-place : goal.invariant-loop-place
invariant-loop-place l =
    l.junctions.items ≡ map junction_row (filter (λ n. is_junction l.extract n.id) (take l.place l.extract.nodes))
