-- How names are kept: by the numbers of their texts.
use Rattle.std.specs.Prelude.{◌<◌, ℕ, List, [], length, All}
use Rattle.std.specs.List.{slice_index_or}

-- the text of a number
abbrev pub text_of : List (List ℕ) → ℕ → List ℕ
text_of texts number = slice_index_or texts number []

-- all are numbers of texts
abbrev pub AreNumbers : List (List ℕ) → List ℕ → Type 0
AreNumbers texts numbers = All (λ number. number < length texts) numbers
