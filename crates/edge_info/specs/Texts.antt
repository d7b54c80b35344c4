-- The texts of a tile: which lists of texts are those of some entries, and their bytes.
use Rattle.std.specs.Prelude.{◌≡◌, ℕ, suc, ◌^◌, ◌<◌, nat_eq, true, false, List, [], ◌∷◌, ◌++◌, length, if◌then◌else◌}
use Rattle.std.specs.List.{flat_map, list_any}
use Rattle.std.specs.Str.{is_utf8, bytes_eq}
use Rattle.section_grammar.specs.WordBytes.{half_bytes}
use Rattle.section_grammar.specs.Reads.{AllGood}

-- four bytes of length, and that many bytes
unfoldable pub text_bytes : List ℕ → List ℕ
text_bytes text = half_bytes (length text) ++ text

abbrev pub texts_bytes : List (List ℕ) → List ℕ
texts_bytes texts = flat_map text_bytes texts

-- where a number first stands among others, and their number where it doesn't
abbrev pub first_place : ℕ → List ℕ → ℕ
first_place i [] = 0
first_place i (n ∷ ns) = if nat_eq n i then 0 else suc (first_place i ns)

-- a text behind these: not empty, UTF-8, and none of them
pub record TextPasses (before : List (List ℕ)) (text : List ℕ) : Type 0 where
  pub some : 0 < length text
  pub utf8 : is_utf8 text ≡ true
  pub new : list_any (λ t. bytes_eq t text) before ≡ false

-- such a text has a spelling where its length fits four bytes
pub record TextGood (before : List (List ℕ)) (text : List ℕ) : Type 0 where
  pub passes : TextPasses before text
  pub short : length text < 2 ^ 32

-- texts of entries with these names: each is named, and they are in the order in which they are first named
pub record AreFirstNamed (names : List ℕ) (texts : List (List ℕ)) : Type 0 where
  pub named : (i : ℕ) → i < length texts → first_place i names < length names
  pub ordered : (i j : ℕ) → i < j → j < length texts → first_place i names < first_place j names

-- the texts of entries with these names, each of which stands once, however long
pub record TextsPass (names : List ℕ) (texts : List (List ℕ)) : Type 0 where
  pub each : AllGood TextPasses [] texts
  pub order : AreFirstNamed names texts

-- the texts of entries with these names, which have a spelling
pub record AreTexts (names : List ℕ) (texts : List (List ℕ)) : Type 0 where
  pub each : AllGood TextGood [] texts
  pub order : AreFirstNamed names texts
