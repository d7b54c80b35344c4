-- Files in memory, found by their path and named by their number.
use Rattle.std.specs.Prelude.{ℕ, suc, List, [], ◌∷◌, Option, Some, None, if◌then◌else◌}
use Rattle.std.specs.Option.{option_map, option_and_then}
use Rattle.std.specs.List.{slice_get}
use Rattle.std.specs.Str.{bytes_eq}

-- the number of the first file of that path, counted from 0
abbrev pub number_of : List ℕ → List (List ℕ × List ℕ) → Option ℕ
number_of path [] = None
number_of path (file ∷ files) = if bytes_eq path file.0 then Some 0 else option_map suc (number_of path files)

-- the bytes of the file of that number, where there is one
abbrev pub bytes_numbered : List (List ℕ × List ℕ) → ℕ → Option (List ℕ)
bytes_numbered files number = option_map (λ file. file.1) (slice_get files number)

-- the bytes of the open file: none is open where no number is given, and none where it names no file
abbrev pub open_bytes : List (List ℕ × List ℕ) → Option ℕ → Option (List ℕ)
open_bytes files input = option_and_then (bytes_numbered files) input
