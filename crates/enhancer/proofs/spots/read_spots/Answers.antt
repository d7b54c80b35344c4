use Rattle.std.proofs.Common.{◌++◌, map, sym, ap, ◌∙◌}
use Rattle.enhancer.specs.Graph.{at_position}
use Rattle.enhancer.specs.Density.{spot_of, nodes_in}
use Rattle.enhancer.proofs.HeldMore.{at_slice}
use Rattle.enhancer.proofs.spots.read_spots.Goals as goal

pub returns-in-Ok-clause-spots : goal.returns-in-Ok-clause-spots
returns-in-Ok-clause-spots g c = λ ps shown.
    c.in-Ok.ensures
    ∙ ap (λ o. c.args.spots.now.items ++ map spot_of (nodes_in o)) (sym (at_slice ps c.in-Some.j c.in_ok-rows.rows (c.in_ok-rows.ensures.part ps shown)))
    ∙ ap (λ o. c.args.spots.now.items ++ map spot_of (nodes_in (at_position ps o))) c.in-Some.ensures
