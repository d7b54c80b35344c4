-- The lines found, with what the ways from here on give, are the lines of all ways.
use Rattle.road_pieces.proofs.SurveyLemmas.{AreSurveyed}
use Rattle.road_pieces.proofs.survey.find_lines.Given as goal

abbrev pub invariant-loop-place : goal.invariant-loop-place
invariant-loop-place l = AreSurveyed l.extract l.lines l.routable l.missing l.place
