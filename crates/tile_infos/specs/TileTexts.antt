-- The texts of a tile: the names of its pieces, each where it first stands.
use Rattle.std.specs.Prelude.{ℕ, suc, List, [], ◌∷◌, ◌++◌, if◌then◌else◌}
use Rattle.std.specs.List.{flat_map, list_any}
use Rattle.std.specs.Str.{bytes_eq}
use Rattle.road_pieces.specs.declared.rows.Piece.{Piece}

-- the texts with this one behind them, where it isn't one of them
abbrev pub with_text : List (List ℕ) → List ℕ → List (List ℕ)
with_text before t = if list_any (bytes_eq t) before then before else before ++ t ∷ []

-- the texts, and behind them those of the others that aren't among them, each where it first stands
abbrev pub texts_once : List (List ℕ) → List (List ℕ) → List (List ℕ)
texts_once before [] = before
texts_once before (t ∷ ts) = texts_once (with_text before t) ts

-- where a text first stands among others, and their number where it doesn't
abbrev pub text_place : List (List ℕ) → List ℕ → ℕ
text_place [] t = 0
text_place (s ∷ ss) t = if bytes_eq t s then 0 else suc (text_place ss t)

-- the names of pieces, in turn
abbrev pub names_in_turn : List Piece → List (List ℕ)
names_in_turn pieces = flat_map (λ p. p.names) pieces

-- the texts of a tile with these pieces
abbrev pub texts_of_pieces : List Piece → List (List ℕ)
texts_of_pieces pieces = texts_once [] (names_in_turn pieces)
