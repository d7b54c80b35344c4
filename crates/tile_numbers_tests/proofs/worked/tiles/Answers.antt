use Rattle.std.proofs.Common.{◌∙◌, ap, List, [], ◌∷◌, ◌++◌}
use Rattle.work_tile.specs.WorkRows.{WorkRows}
use Rattle.tile_numbers_tests.specs.Worked.{worked_tiles}
use Rattle.tile_numbers_tests.proofs.worked.tiles.Goals as goal

abbrev behind : WorkRows → List WorkRows → List WorkRows
behind t ts = ts ++ t ∷ []

pub returns : goal.returns
unfolding worked_tiles
returns c =
    c.in_ok-push-4.ensures.items
    ∙ ap (behind c.in_ok-third.third)
    (c.in_ok-push-3.ensures.items ∙ ap (behind c.in_ok-second.second) (c.in_ok-push-2.ensures.items ∙ ap (behind c.in_ok-first.first) (c.in_ok-push.ensures.items ∙ ap (behind c.in_ok-upper.upper) c.new-tiles.ensures.items)))
    ∙ (λ j. c.in_ok-upper.ensures j ∷ c.in_ok-first.ensures j ∷ c.in_ok-second.ensures j ∷ c.in_ok-third.ensures j ∷ [])
