-- Which item of a section fails, and which of several checks is the first that does.
use Rattle.std.specs.Prelude.{◌≡◌, ℕ, ◌+◌, ◌<◌, List, [], ◌++◌, length}
use Rattle.std.specs.List.{flat_map}
use Rattle.section_grammar.specs.Reads.{AllGood}

-- fewer items than so many, whatever is left
abbrev pub IsFewerThan : {A : Type 0} → ℕ → List A → List ℕ → Type 0
IsFewerThan count front left = length front < count

-- something is left behind the items
abbrev pub HasMore : {A : Type 0} → List A → List ℕ → Type 0
HasMore front left = 0 < length left

-- no good item begins what is left behind these; the place is the first byte that is left
pub record NoneBegins {A : Type 0} (spell : A → List ℕ) (good : List A → A → Type 0) (before : List A) (left : List ℕ) (offset : ℕ) : Type 0 where
  pub first : offset ≡ 0
  pub none : (x : A) (after : List ℕ) → good before x → left ≡ spell x ++ after → ⊥

-- Behind good items, where there have to be more, the next one fails at an offset of the section.
pub record ItemFails {A : Type 0} (spell : A → List ℕ) (good : List A → A → Type 0) (more : List A → List ℕ → Type 0) (fails : List A → List ℕ → ℕ → Type 0) (section : List ℕ) (at : ℕ) : Type 0 where
  pub front : List A
  pub left : List ℕ
  pub each_good : AllGood good [] front
  pub spelled : section ≡ flat_map spell front ++ left
  pub goes_on : more front left
  pub offset : ℕ
  pub fails_so : fails front left offset
  pub here : at ≡ length (flat_map spell front) + offset

-- Behind so many good items something is left.
pub record IsOverfull {A : Type 0} (spell : A → List ℕ) (good : List A → A → Type 0) (count : ℕ) (section : List ℕ) (at : ℕ) : Type 0 where
  pub front : List A
  pub left : List ℕ
  pub each_good : AllGood good [] front
  pub spelled : section ≡ flat_map spell front ++ left
  pub all : length front ≡ count
  pub some : 0 < length left
  pub here : at ≡ length (flat_map spell front)

-- what fails at an offset of a section fails there in the file, where the section begins at `from`
pub record FailsFrom (from : ℕ) (fails : ℕ → Type 0) (at : ℕ) : Type 0 where
  pub offset : ℕ
  pub fails_so : fails offset
  pub here : at ≡ from + offset

-- Of checks with these numbers this one fails there, none before it fails anywhere, and it fails at no place before.
pub record IsFirstToFail {C : Type 0} (number : C → ℕ) (fails : C → ℕ → Type 0) (check : C) (at : ℕ) : Type 0 where
  pub fails_here : fails check at
  pub no_check_before : (other : C) (place : ℕ) → number other < number check → fails other place → ⊥
  pub no_place_before : (place : ℕ) → place < at → fails check place → ⊥
