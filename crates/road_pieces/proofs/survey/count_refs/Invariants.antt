-- The refs of the ways so far are counted.
use Rattle.std.proofs.Common.{◌≡◌, take}
use Rattle.osm_model.specs.Extract.{refs_in}
use Rattle.road_pieces.proofs.survey.count_refs.Given as goal

abbrev pub invariant-loop-i : goal.invariant-loop-i
invariant-loop-i l = l.count ≡ refs_in (take l.i l.ways)
