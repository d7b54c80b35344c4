-- The required features of a header block (osmformat.proto, HeaderBlock): a reader has to know each of them.
use Rattle.std.specs.Prelude.{ℕ, Bool, ◌||◌, not, if◌then◌else◌, List, Option, codes}
use Rattle.std.specs.List.{find}
use Rattle.std.specs.Str.{bytes_eq, is_utf8}

-- a feature that is read
abbrev pub is_known : List ℕ → Bool
is_known feature = bytes_eq feature (codes "OsmSchema-V0.6") || bytes_eq feature (codes "DenseNodes")

-- the first feature that isn't, with the place of its field
abbrev pub first_unknown : List (ℕ × List ℕ) → Option (ℕ × List ℕ)
first_unknown features = find (λ feature. not (is_known feature.1)) features

-- its text, or `?` where its bytes aren't UTF-8
abbrev pub shown : List ℕ → List ℕ
shown feature = if is_utf8 feature then feature else codes "?"
