-- The command `build --input PATH --output DIR --modes LIST`: the tiles of an extract.
use Rattle.std.specs.Prelude.{◌≡◌, ◌⊎◌, ℕ, ℤ, List, [], ◌∷◌, ◌++◌, map, Some, None}
use Rattle.host_port.specs.Told.{Told}
use Rattle.osm_model.specs.declared.extract.Extract.{Extract}
use Rattle.osm_blocks.specs.Extracts.{Reads, Refuses, lists_of}
use Rattle.build_flow.specs.declared.faults.LimitFault.{LimitFault}
use Rattle.build_flow.specs.Unbuilt.{unbuilt}
use Rattle.build_flow.specs.FolderFiles.{folder_files, limit_passed}
use Rattle.build_flow.specs.BuildLaws.{HasTileWalks}
use Rattle.mjolnir_cli.specs.declared.answer.Answer.{Answer}
use Rattle.mjolnir_cli.specs.declared.failure.Failure.{Failure}
use Rattle.mjolnir_cli.specs.declared.failure.Failure.TheVariants.{Extract as ExtractFails, NotBuilt, Limit, OutOfMemory}
use Rattle.mjolnir_cli.specs.Puts.{PutsAll}

-- ---- its answer

-- a path in a folder, and a file of that path
abbrev pub path_in : List ℕ → List ℕ → List ℕ
path_in folder path = folder ++ 47 ∷ path

abbrev pub file_in : List ℕ → List ℕ × List ℕ → List ℕ × List ℕ
file_in folder file = (path_in folder file.0, file.1)

-- the files of an extract for the asked modes, in the folder `output`
abbrev pub output_files : List ℕ → ℕ → Extract → List (List ℕ × List ℕ)
output_files output modes x = map (file_in output) (folder_files x modes)

-- The bytes are the extract x.
abbrev pub Spells : List ℕ → Extract → Type 0
Spells bytes x = Reads bytes (lists_of x)

-- The bytes are an extract whose objects are all built and whose roads pass no limit; the files are those of its
-- folder, and nothing is said.
pub record IsBuilt (output : List ℕ) (modes : ℕ) (bytes : List ℕ) (answer : Answer) : Type 0 where
  pub extract : Extract
  pub spelled : Spells bytes extract
  pub built : unbuilt extract ≡ None
  pub within : limit_passed extract modes ≡ None
  pub files : answer.files ≡ output_files output modes extract
  pub silent : answer.text ≡ []

-- ---- its refusal

-- The bytes are an extract, and this is its first object that isn't built yet.
pub record HasUnbuilt (bytes : List ℕ) (id : ℤ) : Type 0 where
  pub extract : Extract
  pub spelled : Spells bytes extract
  pub first : unbuilt extract ≡ Some id

-- The bytes are an extract whose objects are all built, and this is the first limit that its roads pass.
pub record PassesLimit (modes : ℕ) (bytes : List ℕ) (limit : LimitFault) : Type 0 where
  pub extract : Extract
  pub spelled : Spells bytes extract
  pub built : unbuilt extract ≡ None
  pub passed : limit_passed extract modes ≡ Some limit

-- The bytes are refused with a fault, or an object isn't built yet, or a limit is passed.
abbrev pub IsBuildRefused : ℕ → List ℕ → Failure → Type 0
IsBuildRefused modes bytes (ExtractFails fault) = Refuses bytes fault
IsBuildRefused modes bytes (NotBuilt id) = HasUnbuilt bytes id
IsBuildRefused modes bytes (Limit limit) = PassesLimit modes bytes limit
IsBuildRefused modes bytes other = ⊥

-- what a failure of an extract is: want of memory, an object that isn't built yet, or the limit that its roads pass
pub record IsUnbuilt (failure : Failure) (x : Extract) : Type 0 where
  pub id : ℤ
  pub first : unbuilt x ≡ Some id
  pub is : failure ≡ NotBuilt id

pub record IsPassed (modes : ℕ) (failure : Failure) (x : Extract) : Type 0 where
  pub built : unbuilt x ≡ None
  pub limit : LimitFault
  pub passed : limit_passed x modes ≡ Some limit
  pub is : failure ≡ Limit limit

abbrev pub IsOfExtract : ℕ → Failure → Extract → Type 0
IsOfExtract modes failure x = (failure ≡ OutOfMemory) ⊎ (IsUnbuilt failure x ⊎ IsPassed modes failure x)

-- ---- its theorem

-- The bytes are an extract; the files that were put are those of its folder, and no other; and for each mode, each two
-- nodes and each length, a walk over the segments of its roads exists exactly where one over the graph of the tiles does
-- whose files these are.
pub record RoutesRoads (output : List ℕ) (modes : ℕ) (bytes : List ℕ) (before after : Told) : Type 0 where
  pub extract : Extract
  pub spelled : Spells bytes extract
  pub puts : PutsAll (output_files output modes extract) before after
  pub walks : HasTileWalks extract modes
