-- The lines found, with what the refs from here on give, are what all refs give.
use Rattle.road_pieces.proofs.SurveyLemmas.{IsSurveyed}
use Rattle.road_pieces.proofs.survey.add_way.Given as goal

abbrev pub invariant-loop-id : goal.invariant-loop-id
invariant-loop-id l = IsSurveyed l.nodes l.way l.refs l.initial.lines.done l.lines l.number l.missing l.id-index
