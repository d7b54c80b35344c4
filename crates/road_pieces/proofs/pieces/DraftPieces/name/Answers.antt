use Rattle.std.proofs.Common.{ap, refl}
use Rattle.road_pieces.specs.PieceRows.{Drafted}
use Rattle.osm_model.proofs.TextLemmas.{grew_none}
use Rattle.road_pieces.proofs.PieceLemmas.{pieces_kept}
use Rattle.road_pieces.proofs.pieces.DraftPieces.name.Goals as goal

pub returns-in_err-extend-clause-done : goal.returns-in_err-extend-clause-done
returns-in_err-extend-clause-done c =
    pieces_kept _ c.self.inside.points.items c.self.inside.points.items c.self.inside.names _ c.self.inside.rows.items c.self.inside.rows.items (ap (λ (d : Drafted). d.done) c.self.view_is) c.self.invariant.within (grew_none _) c.extend.ensures.grew refl

pub returns-clause-done : goal.returns-clause-done
returns-clause-done c =
    pieces_kept _ c.self.inside.points.items c.self.inside.points.items c.self.inside.names _ c.self.inside.rows.items c.self.inside.rows.items (ap (λ (d : Drafted). d.done) c.self.view_is) c.self.invariant.within (grew_none _) c.extend.ensures.grew refl
