-- What a tile file asks of pieces, so that their entries and texts pass its checks.
use Rattle.std.specs.Prelude.{◌≡◌, ◌<◌, ◌≤◌, ℕ, true, List, length, All, AllPairs}
use Rattle.std.specs.Str.{is_utf8}
use Rattle.fixed_geo.specs.Place.{IsPlace}
use Rattle.edge_info.specs.Entries.{KeyFits, comes_before}
use Rattle.road_pieces.specs.declared.rows.Piece.{Piece}

-- a text that a road may have as a name: not empty, in UTF-8
pub record IsRoadName (text : List ℕ) : Type 0 where
  pub some : 0 < length text
  pub utf8 : is_utf8 text ≡ true

-- the numbers of the piece's key fit their bytes, its course has two points or more, each a place, and its names are
-- texts that a road may have
pub record HasEntry (p : Piece) : Type 0 where
  pub key : KeyFits p.key
  pub two_points : 2 ≤ length p.shape
  pub places : All IsPlace p.shape
  pub names : All IsRoadName p.names

-- each piece's key comes before those of later ones
abbrev pub KeysRise : List Piece → Type 0
KeysRise pieces = AllPairs (λ (p q : Piece). comes_before p.key q.key ≡ true) pieces
