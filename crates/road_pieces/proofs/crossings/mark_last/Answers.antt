use Rattle.std.proofs.Common.{◌+◌, ap, ◌∙◌, min, cond, get_or}
use Rattle.road_pieces.proofs.HeadLemmas.{ends_with_last}
use Rattle.road_pieces.proofs.crossings.mark_last.Goals as goal

pub returns-in-Some : goal.returns-in-Some
returns-in-Some c =
    λ p h. c.mark.ensures p h ∙ ap (λ b. min 2 (get_or c.args.marks.now p 0 + cond b 1 0)) (ends_with_last c.args.places.now p _ c.in-Some.ensures.value)
