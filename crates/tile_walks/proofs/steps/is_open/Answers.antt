use Rattle.std.proofs.Common.{subst, refl}
use Rattle.road_pieces.specs.Modes.{ShareMode}
use Rattle.tile_walks.proofs.Options.{told, none_some}
use Rattle.tile_walks.proofs.steps.is_open.Goals as goal

pub returns-in-Some : goal.returns-in-Some
returns-in-Some c = (
  λ yes r one. subst (λ r. ShareMode r.access c.args.mode) (told _ _ (c.in-Some.ensures.only r one)) (c.lets.ensures.0 yes),
  λ opens. c.lets.ensures.1 (opens _ c.in-Some.ensures.found),
)

pub returns-in-None : goal.returns-in-None
returns-in-None c = (λ yes r one. absurd (none_some r (c.in-None.ensures.only r one)), λ opens. refl)
