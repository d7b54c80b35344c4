-- The tiles of an extract whose objects are all built have exactly the walks of its roads.
use Rattle.std.proofs.Common.{◌≡◌, ℕ, ◌<◌, ap, subst, List, [], ◌∷◌, length, arith}
use Rattle.std.specs.Prelude.{◌↔◌, All, None}
use Rattle.std.proofs.lemmas.List.Elements.{All-cons, All-nil, All-contains}
use Rattle.osm_model.specs.declared.extract.Extract.{Extract}
use Rattle.road_pieces.specs.Among.{Among}
use Rattle.road_pieces.specs.DirectedPiece.{DirectedPiece}
use Rattle.road_pieces.specs.Lengths.{point}
use Rattle.road_pieces.specs.Matches.{IsPattern}
use Rattle.road_pieces.specs.Modes.{IsMode, ShareMode}
use Rattle.road_pieces.proofs.Members.{in_from_among}
use Rattle.road_walks.specs.BaseEdges.{directed_pieces}
use Rattle.road_walks.proofs.PiecesAre.{pieces_are}
use Rattle.road_walks.proofs.PiecesOnce.{pieces_once}
use Rattle.edge_builder.specs.ExtractRows.{node_tile}
use Rattle.folder_spec.specs.FolderLaws.{BaseGivesRoads, SameFolderWalks}
use Rattle.folder_spec.proofs.TilesLow.{tiles_low}
use Rattle.kept_rows.specs.KeptRows.{open_numbers}
use Rattle.level_tiles.specs.LevelTiles.{told_so_far}
use Rattle.build_flow.specs.Unbuilt.{unbuilt}
use Rattle.build_flow.specs.BuildLaws.{BuiltWalks}
use Rattle.build_flow.proofs.Local.{no_turns}

all_have : (mode : ℕ) → IsMode mode → ShareMode open_numbers.all mode
all_have mode one =
    All-contains (ShareMode open_numbers.all) (1 ∷ 2 ∷ 4 ∷ 8 ∷ 64 ∷ []) mode
    (All-cons (ShareMode open_numbers.all) 1 (2 ∷ 4 ∷ 8 ∷ 64 ∷ []) (λ h. omega (arith, h))
    (All-cons (ShareMode open_numbers.all) 2 (4 ∷ 8 ∷ 64 ∷ []) (λ h. omega (arith, h))
    (All-cons (ShareMode open_numbers.all) 4 (8 ∷ 64 ∷ []) (λ h. omega (arith, h))
    (All-cons (ShareMode open_numbers.all) 8 (64 ∷ []) (λ h. omega (arith, h))
    (All-cons (ShareMode open_numbers.all) 64 [] (λ h. omega (arith, h)) (All-nil (ShareMode open_numbers.all))))))) one

-- no list of pieces is a pattern
no_pattern : (x : Extract) → unbuilt x ≡ None → (pattern : List DirectedPiece) (modes : ℕ) → IsPattern x pattern modes → ⊥
no_pattern x built pattern modes is =
    let (k, inside, same) = is.there in
    omega (arith, inside, ap length (no_turns x built))

pub built_have_walks : BaseGivesRoads → SameFolderWalks → BuiltWalks
built_have_walks roads walks x asked built mode one a b total =
    walks x asked open_numbers [] (node_tile x) (told_so_far x asked)
    (roads x asked open_numbers [] (node_tile x) (record {
      pieces_are = λ p h. pieces_are x p (in_from_among (directed_pieces x) p h);
      pieces_once = pieces_once x;
      patterns_are = λ pattern modes. (λ among. absurd among, λ is. absurd (no_pattern x built pattern modes is));
      tiles_low = λ n k has. tiles_low k (point x.nodes n);
    }))
    mode (all_have mode one) a b total
