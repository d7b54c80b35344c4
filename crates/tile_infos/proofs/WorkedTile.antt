-- A tile of three roads, worked out by hand: `Weg`, `B1`; no name; `Hof`, `B1`.
use Rattle.std.specs.Prelude.{◌≡◌, ℕ, ℤ, pos, List, [], ◌∷◌, map, take, sum_by}
use Rattle.std.proofs.Common.{refl}
use Rattle.fixed_geo.specs.declared.points.Point.{Point}
use Rattle.edge_info.specs.declared.infos.Info.{Info}
use Rattle.road_pieces.specs.declared.rows.Piece.{Piece}
use Rattle.tile_infos.specs.TileTexts.{texts_of_pieces}
use Rattle.tile_infos.specs.TileEntries.{pieces_at, entries_of_pieces, size_of_entry}

abbrev weg : List ℕ
weg = 87 ∷ 101 ∷ 103 ∷ []

abbrev b1 : List ℕ
b1 = 66 ∷ 49 ∷ []

abbrev hof : List ℕ
hof = 72 ∷ 111 ∷ 102 ∷ []

abbrev here : Point
here = record { lat = pos 0; lon = pos 0 }

-- a road of two points
abbrev road : ℤ → List (List ℕ) → Piece
road way names = record {
  key = record { way = way; run = 0; piece = 0 };
  start = pos 1;
  end = pos 2;
  shape = here ∷ here ∷ [];
  cm = 0;
  class = 5;
  forward = 1;
  backward = 1;
  names = names;
}

abbrev roads : List Piece
roads = road (pos 7) (weg ∷ b1 ∷ []) ∷ road (pos 8) [] ∷ road (pos 9) (hof ∷ b1 ∷ []) ∷ []

-- the shared name stands once, behind the first road's other name
texts_of_three : texts_of_pieces roads ≡ weg ∷ b1 ∷ hof ∷ []
texts_of_three = refl

names_of_three : map (λ (e : Info). e.texts) (entries_of_pieces roads) ≡ (0 ∷ 1 ∷ []) ∷ [] ∷ (2 ∷ 1 ∷ []) ∷ []
names_of_three = refl

-- 48 and 40 bytes stand before the third entry
third_start : sum_by size_of_entry (take 2 (entries_of_pieces roads)) ≡ 88
third_start = refl

-- without the first road the shared name stands behind `Hof`
texts_of_two : texts_of_pieces (pieces_at roads (1 ∷ 2 ∷ [])) ≡ hof ∷ b1 ∷ []
texts_of_two = refl

names_of_two : map (λ (e : Info). e.texts) (entries_of_pieces (pieces_at roads (1 ∷ 2 ∷ []))) ≡ [] ∷ (0 ∷ 1 ∷ []) ∷ []
names_of_two = refl
