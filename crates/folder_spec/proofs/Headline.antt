-- The walks of the folder are those of the roads.
use Rattle.road_pieces.specs.Lengths.{point}
use Rattle.road_pieces.proofs.Members.{in_from_among}
use Rattle.road_walks.specs.BaseEdges.{directed_pieces}
use Rattle.folder_spec.specs.Folder.{FolderHasWalks, tile_number, told_fields}
use Rattle.folder_spec.proofs.BaseRoads.{base_gives_roads}
use Rattle.folder_spec.proofs.FolderAgree.{same_folder_walks}
use Rattle.road_walks.proofs.PiecesAre.{pieces_are}
use Rattle.road_walks.proofs.PiecesOnce.{pieces_once}
use Rattle.folder_spec.proofs.TilesLow.{tiles_low}

pub folder_has_walks : FolderHasWalks
folder_has_walks x asked numbers given are mode within a b total =
    same_folder_walks x asked numbers given.patterns (tile_number x asked numbers given) (told_fields x asked numbers given)
    (base_gives_roads x asked numbers given.patterns (tile_number x asked numbers given) (record {
      pieces_are = λ p h. pieces_are x p (in_from_among (directed_pieces x) p h);
      pieces_once = pieces_once x;
      patterns_are = are.patterns_are;
      tiles_low = λ n k has. tiles_low k (point x.nodes n);
    }))
    mode within a b total
