-- What a host tells of the outside, and what each of its calls does to it.
-- Every part is told (Some) or not told (None). A host in memory tells all of them, one over real files none.
-- Each effect is an equation on what is told: what isn't told stays not told.
use Rattle.std.specs.Prelude.{◌≡◌, ◌≤◌, ◌<◌, ℕ, ◌+◌, Bool, true, false, List, [], ◌∷◌, ◌++◌, length, take, drop, Option, Some, None, IsSome, All, if◌then◌else◌}
use Rattle.std.specs.Option.{option_map, option_and_then}
use Rattle.std.specs.Str.{bytes_eq}

pub record Told : Type 0 where
  -- the files, as pairs of a path and its bytes
  pub files : Option (List (List ℕ × List ℕ))
  -- whether an input is open
  pub is_open : Option Bool
  -- the bytes of the input
  pub input : Option (List ℕ)
  -- the place in the input of the byte that is read next
  pub place : Option ℕ
  -- the paths that were put, in order
  pub puts : Option (List (List ℕ))
  -- the bytes said so far
  pub said : Option (List ℕ)

-- the bytes of the file of that path: of its first pair, where there are several
abbrev pub file_at : List ℕ → List (List ℕ × List ℕ) → Option (List ℕ)
file_at path [] = None
file_at path (file ∷ files) = if bytes_eq path file.0 then Some file.1 else file_at path files

-- the bytes of the file of that path, where the files are told and one of them has it
abbrev pub named : List ℕ → Told → Option (List ℕ)
named path told = option_and_then (file_at path) told.files

-- What is told of the file of each path, and of the input, is bytes.
pub record TellsBytes (told : Told) : Type 0 where
  pub file : (path bytes : List ℕ) → named path told ≡ Some bytes → All (λ byte. byte < 256) bytes
  pub input : (input : List ℕ) → told.input ≡ Some input → All (λ byte. byte < 256) input

-- After an Ok of open_input the input is the file of that path, at its first byte.
pub record Opened (path : List ℕ) (old new : Told) : Type 0 where
  pub files : new.files ≡ old.files
  pub is_open : new.is_open ≡ option_map (λ _. true) old.is_open
  pub place : new.place ≡ option_map (λ _. 0) old.place
  pub puts : new.puts ≡ old.puts
  pub said : new.said ≡ old.said
  pub found : IsSome old.files → IsSome (named path old)
  pub bytes : IsSome old.files → new.input ≡ named path old

-- The place after n more bytes were read; all else is as before.
abbrev pub moved : ℕ → Told → Told
moved n told = record told { place = option_map (λ place. place + n) told.place }

-- What an Ok of read with the count n gives: the next n bytes of the input, and none of them only at
-- its end or where the buffer has no room.
pub record Gives (told : Told) (n : ℕ) (buf : List ℕ) : Type 0 where
  pub bytes : (input : List ℕ) (place : ℕ) → told.input ≡ Some input → told.place ≡ Some place →
      take n buf ≡ take n (drop place input)
  pub end : (input : List ℕ) (place : ℕ) → told.input ≡ Some input → told.place ≡ Some place →
      n ≡ 0 → 0 < length buf → length input ≤ place

-- The bytes were said after those said before; all else is as before.
abbrev pub spoken : List ℕ → Told → Told
spoken bytes told = record told { said = option_map (λ said. said ++ bytes) told.said }

-- The files after a put: a known path keeps its place, a new one goes last. Where a path stands more than
-- once, its first pair is the file of that path, and the others stay.
abbrev pub stored : List ℕ → List ℕ → List (List ℕ × List ℕ) → List (List ℕ × List ℕ)
stored path bytes [] = (path, bytes) ∷ []
stored path bytes (file ∷ files) = if bytes_eq path file.0 then (path, bytes) ∷ files else file ∷ stored path bytes files

-- After an Ok of put the file of that path holds exactly these bytes, the path is the last of those put,
-- and no input is open; the place is still that which was reached in the input.
pub record Stored (path bytes : List ℕ) (old new : Told) : Type 0 where
  pub files : new.files ≡ option_map (stored path bytes) old.files
  pub is_open : new.is_open ≡ option_map (λ _. false) old.is_open
  pub place : new.place ≡ old.place
  pub puts : new.puts ≡ option_map (λ puts. puts ++ path ∷ []) old.puts
  pub said : new.said ≡ old.said
