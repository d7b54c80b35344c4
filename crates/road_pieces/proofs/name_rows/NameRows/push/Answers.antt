use Rattle.std.proofs.Common.{refl}
use Rattle.osm_model.proofs.TextLemmas.{at_err}
use Rattle.road_pieces.proofs.NameLemmas.{names_kept}
use Rattle.road_pieces.proofs.name_rows.NameRows.push.Goals as goal

pub returns-in_err-number-clause-err : goal.returns-in_err-number-clause-err
returns-in_err-number-clause-err c =
    at_err _ (names_kept _ _ _ _ _ c.self.view_is c.self.invariant c.add.ensures.grew refl)

pub returns-in_err-push-clause-err : goal.returns-in_err-push-clause-err
returns-in_err-push-clause-err c =
    at_err _ (names_kept _ _ _ _ _ c.self.view_is c.self.invariant c.add.ensures.grew c.in_err-push.ensures.items)
