-- Which entry, text or byte is the first that fails a check, and at which offset of its section.
use Rattle.std.specs.Prelude.{◌≡◌, ◌≢◌, ℕ, ◌<◌, ◌≤◌, ◌⊎◌, List, [], ◌∷◌, ◌++◌, length, replicate}
use Rattle.section_grammar.specs.Reads.{AllGood}
use Rattle.edge_info.specs.declared.infos.Info.{Info}
use Rattle.edge_info.specs.Entries.{info_bytes, infos_bytes, InfoGood, AreInfos}
use Rattle.edge_info.specs.Texts.{text_bytes, texts_bytes, first_place, TextGood}
use Rattle.edge_info.specs.TextReading.{texts_there}

-- Check 13. Behind good entries something is left, and no good entry begins it.
pub record EntryFails (count : ℕ) (section : List ℕ) (at : ℕ) : Type 0 where
  pub front : List Info
  pub left : List ℕ
  pub good : AreInfos count front
  pub spelled : section ≡ infos_bytes front ++ left
  pub here : at ≡ length (infos_bytes front)
  pub some : 0 < length left
  pub bad : (info : Info) (after : List ℕ) → InfoGood count front info → left ≡ info_bytes info ++ after → ⊥

-- where the text of this number is named, none of the texts that are there stands behind it and is first named before it
pub record IsInPlace (names : List ℕ) (there i : ℕ) : Type 0 where
  pub behind : (j : ℕ) → i < j → j < there → first_place i names < length names → first_place i names ≤ first_place j names

-- fewer texts than said, and no good text in its place begins what is left
pub record NoTextFollows (names : List ℕ) (count there : ℕ) (front : List (List ℕ)) (left : List ℕ) : Type 0 where
  pub few : length front < count
  pub bad : (text after : List ℕ) → TextGood front text → IsInPlace names there (length front) → left ≡ text_bytes text ++ after → ⊥

-- as many texts as said, and something is left
pub record TextsGoOn (count : ℕ) (front : List (List ℕ)) (left : List ℕ) : Type 0 where
  pub all : length front ≡ count
  pub some : 0 < length left

-- as many texts as said, nothing is left, and one is not named
pub record TextUnnamed (names : List ℕ) (count : ℕ) (front : List (List ℕ)) (left : List ℕ) : Type 0 where
  pub all : length front ≡ count
  pub none : left ≡ []
  pub number : ℕ
  pub one : number < count
  pub unnamed : length names ≤ first_place number names

-- Check 15. Behind good texts in their places no such text follows, or more than said, or nothing and one is not named.
pub record TextFails (names : List ℕ) (count : ℕ) (section : List ℕ) (at : ℕ) : Type 0 where
  pub front : List (List ℕ)
  pub left : List ℕ
  pub good : AllGood TextGood [] front
  pub in_place : (i : ℕ) → i < length front → IsInPlace names (texts_there count section) i
  pub spelled : section ≡ texts_bytes front ++ left
  pub here : at ≡ length (texts_bytes front)
  pub why : NoTextFollows names count (texts_there count section) front left ⊎ TextsGoOn count front left ⊎ TextUnnamed names count front left

-- Check 16. Behind zeros stands a byte that is none.
pub record PaddingFails (bytes : List ℕ) (at : ℕ) : Type 0 where
  pub byte : ℕ
  pub after : List ℕ
  pub spelled : bytes ≡ replicate at 0 ++ byte ∷ after
  pub bad : byte ≢ 0
