-- The tiles that are kept of an extract can be finished on their levels, where no limit is passed.
use Rattle.std.specs.Prelude.{◌≡◌, ℕ, true, None, All}
use Rattle.std.specs.Str.{is_utf8}
use Rattle.osm_model.specs.declared.extract.Extract.{Extract}
use Rattle.edge_info.specs.Entries.{KeyFits}
use Rattle.road_pieces.specs.declared.rows.Piece.{Piece}
use Rattle.road_pieces.specs.Rows.{junction_rows, piece_rows, refusal}
use Rattle.edge_builder.specs.BaseRows.{crowded}
use Rattle.tile_numbers.specs.Limits.{HasRoom}
use Rattle.tile_finish.specs.FinishedTiles.{AreFinishable}
use Rattle.kept_rows.specs.KeptRows.{lifted_of_extract}

-- what the types of keys and of texts say of a piece: the numbers of its key fit their bytes, and its names are UTF-8
pub record IsSpellable (p : Piece) : Type 0 where
  pub key : KeyFits p.key
  pub names : All (λ name. is_utf8 name ≡ true) p.names

abbrev pub LiftedAreFinishable : Type 0
LiftedAreFinishable = (x : Extract) (asked : ℕ) → All IsSpellable (piece_rows x) → refusal (piece_rows x) ≡ None → crowded (junction_rows x) (piece_rows x) ≡ None → All HasRoom (lifted_of_extract x asked) → AreFinishable (lifted_of_extract x asked) (piece_rows x)
