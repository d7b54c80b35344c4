-- The entries of pieces in a tile: which are entries, and the bytes of each.
use Rattle.std.specs.Prelude.{◌≡◌, ℕ, ◌+◌, ◌^◌, ◌<◌, ◌≤◌, int_lt, int_le, nat_lt, nat_eq, ◌&&◌, ◌||◌, Bool, true, false, List, [], ◌∷◌, ◌++◌, length, All, FitsSigned}
use Rattle.std.specs.List.{flat_map}
use Rattle.std.specs.Int.{w32, w64, cast_unsigned}
use Rattle.fixed_geo.specs.Place.{IsPlace}
use Rattle.fixed_geo.specs.declared.points.Point.{Point}
use Rattle.osm_model.specs.declared.piece_key.PieceKey.{PieceKey}
use Rattle.section_grammar.specs.WordBytes.{word_bytes, half_bytes}
use Rattle.section_grammar.specs.Reads.{AllGood}
use Rattle.edge_info.specs.declared.infos.Info.{Info}

-- ---- the bytes

-- way, run and piece
unfoldable pub key_bytes : PieceKey → List ℕ
key_bytes key = word_bytes (cast_unsigned w64 key.way) ++ (half_bytes key.run ++ half_bytes key.piece)

-- latitude and longitude
unfoldable pub point_bytes : Point → List ℕ
point_bytes p = half_bytes (cast_unsigned w32 p.lat) ++ half_bytes (cast_unsigned w32 p.lon)

-- how many they are, and each of them
abbrev pub counted_bytes : {A : Type 0} → (A → List ℕ) → List A → List ℕ
counted_bytes spell items = half_bytes (length items) ++ flat_map spell items

-- the key, the points, and the names as places among the texts
unfoldable pub info_bytes : Info → List ℕ
info_bytes info = key_bytes info.key ++ (counted_bytes point_bytes info.shape ++ counted_bytes half_bytes info.texts)

abbrev pub infos_bytes : List Info → List ℕ
infos_bytes infos = flat_map info_bytes infos

-- ---- which entries have a spelling, where so many texts follow

-- the key `a` comes before `b`, in order of way, run and piece
abbrev pub comes_before : PieceKey → PieceKey → Bool
comes_before a b =
    int_lt a.way b.way || (int_le a.way b.way && (nat_lt a.run b.run || (nat_eq a.run b.run && nat_lt a.piece b.piece)))

-- a key goes on where these entries end: it is above the last one's
abbrev pub key_rises : List Info → PieceKey → Bool
key_rises [] key = true
key_rises (i ∷ []) key = comes_before i.key key
key_rises (i ∷ j ∷ js) key = key_rises (j ∷ js) key

-- the numbers of a key fit their bytes
pub record KeyFits (key : PieceKey) : Type 0 where
  pub way : FitsSigned w64 key.way
  pub run : key.run < 2 ^ 32
  pub piece : key.piece < 2 ^ 32

-- an entry behind these: keys rise, it has two or more points, each a place, and each name is a text's place
pub record InfoPasses (count : ℕ) (before : List Info) (info : Info) : Type 0 where
  pub key : KeyFits info.key
  pub rises : key_rises before info.key ≡ true
  pub two_points : 2 ≤ length info.shape
  pub places : All IsPlace info.shape
  pub names : All (λ name. (name < count) × (name < 2 ^ 32)) info.texts

-- such an entry has a spelling where its numbers of points and of names fit four bytes
pub record InfoGood (count : ℕ) (before : List Info) (info : Info) : Type 0 where
  pub passes : InfoPasses count before info
  pub few_points : length info.shape < 2 ^ 32
  pub few_names : length info.texts < 2 ^ 32

-- entries that stand before so many texts, however long
abbrev pub InfosPass : ℕ → List Info → Type 0
InfosPass count infos = AllGood (InfoPasses count) [] infos

-- entries that stand before so many texts, and have a spelling
abbrev pub AreInfos : ℕ → List Info → Type 0
AreInfos count infos = AllGood (InfoGood count) [] infos

-- ---- what follows from the entries

-- the names of all entries, one after the other
abbrev pub names_of : List Info → List ℕ
names_of infos = flat_map (λ info. info.texts) infos

-- the offsets at which entries start, of which the first starts there
abbrev pub starts_from : ℕ → List Info → List ℕ
starts_from at [] = []
starts_from at (i ∷ is) = at ∷ starts_from (at + length (info_bytes i)) is

abbrev pub starts_of : List Info → List ℕ
starts_of infos = starts_from 0 infos

-- an offset is one of these
abbrev pub starts_at : List ℕ → ℕ → Bool
starts_at [] at = false
starts_at (s ∷ ss) at = nat_eq at s || starts_at ss at
