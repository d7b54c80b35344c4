-- The pieces so far, with what the rest of the line gives, are those of the whole line; and how many points they have.
use Rattle.road_pieces.proofs.PartLemmas.{IsCut}
use Rattle.road_pieces.proofs.parts.cut_line.Given as goal

abbrev pub invariant-loop-to : goal.invariant-loop-to
invariant-loop-to l =
    IsCut l.extract (record { way = l.line.way; number = l.line.number; places = l.places }) l.way l.initial.pieces l.pieces l.piece l.from l.to
