-- The files that are put.
use Rattle.std.specs.Prelude.{◌≡◌, ◌≢◌, ℕ, List, [], ◌∷◌, ◌++◌, map}
use Rattle.std.specs.Option.{option_map}
use Rattle.host_port.specs.Told.{Told, stored}

-- the files after these are stored, one after the other
abbrev pub store_all : List (List ℕ × List ℕ) → List (List ℕ × List ℕ) → List (List ℕ × List ℕ)
store_all [] old = old
store_all (file ∷ files) old = store_all files (stored file.0 file.1 old)

-- their paths
abbrev pub paths : List (List ℕ × List ℕ) → List (List ℕ)
paths files = map (λ file. file.0) files

-- These files were put, in this order, and no other.
pub record PutsAll (files : List (List ℕ × List ℕ)) (old new : Told) : Type 0 where
  pub stored : new.files ≡ option_map (store_all files) old.files
  pub puts : new.puts ≡ option_map (λ puts. puts ++ paths files) old.puts

-- the list begins with this front
pub record BeginsWith (front whole : List (List ℕ × List ℕ)) : Type 0 where
  pub rest : List (List ℕ × List ℕ)
  pub is : whole ≡ front ++ rest

-- the list begins with this front, and more follows
pub record IsFront (front whole : List (List ℕ × List ℕ)) : Type 0 where
  pub rest : List (List ℕ × List ℕ)
  pub more : rest ≢ []
  pub is : whole ≡ front ++ rest

-- no file was put or changed
pub record Unput (old new : Told) : Type 0 where
  pub files : new.files ≡ old.files
  pub puts : new.puts ≡ old.puts
