-- The laws of the list of directed pieces.
use Rattle.road_pieces.proofs.Members.{in_from_among, among_from_in}
use Rattle.road_walks.specs.BaseEdges.{directed_pieces}
use Rattle.road_walks.specs.Listed.{PiecesListed, OwnIndexes}
use Rattle.road_walks.proofs.Locals.{in_directed, own}
use Rattle.road_walks.proofs.PiecesAre.{pieces_are}
use Rattle.road_walks.proofs.PiecesOnce.{pieces_once}

pub pieces_listed : PiecesListed
pieces_listed x =
    (λ p. (λ h. pieces_are x p (in_from_among (directed_pieces x) p h), λ is. among_from_in (directed_pieces x) p (in_directed x p is)), pieces_once x)

pub own_indexes : OwnIndexes
own_indexes x p q is_p is_q starts same = own x p q is_p is_q starts same
