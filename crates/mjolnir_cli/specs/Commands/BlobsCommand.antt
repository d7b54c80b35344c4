-- The command `blobs PATH`: a line for each blob of the file.
use Rattle.std.specs.Prelude.{◌≡◌, ℕ, List, [], ◌∷◌, ◌++◌}
use Rattle.std.specs.List.{flat_map}
use Rattle.std.specs.Fmt.{decimal}
use Rattle.pbf_blobs.specs.declared.blob.Blob.{Blob}
use Rattle.pbf_blobs.specs.declared.fault.PbfFault.{PbfFault}
use Rattle.pbf_blobs.specs.Next.{Ends, Fails}
use Rattle.pbf_blobs.specs.Frames.{Frames}
use Rattle.osm_blocks.specs.Faults.{framed_as}
use Rattle.mjolnir_cli.specs.declared.answer.Answer.{Answer}
use Rattle.mjolnir_cli.specs.declared.failure.Failure.{Failure}
use Rattle.mjolnir_cli.specs.declared.failure.Failure.TheVariants.{Extract as ExtractFails}

-- ---- its answer

-- the line of a blob: the place of its triple, its type and its size
abbrev pub blob_line : Blob → List ℕ
blob_line blob = decimal blob.at ++ 32 ∷ (blob.kind ++ 32 ∷ (decimal blob.size ++ 10 ∷ []))

abbrev pub blob_lines : List Blob → List ℕ
blob_lines blobs = flat_map blob_line blobs

-- The bytes are triples to their end, and the text is the lines of their blobs.
abbrev pub ListsBlobs : List ℕ → List ℕ → Type 0
ListsBlobs bytes text = (blobs : List Blob) × Frames bytes 0 blobs Ends × (text ≡ blob_lines blobs)

-- No file is put, and the text is the lines of the blobs.
pub record IsListed (bytes : List ℕ) (answer : Answer) : Type 0 where
  pub unput : answer.files ≡ []
  pub lists : ListsBlobs bytes answer.text

-- ---- its refusal

-- The bytes begin with triples, and what follows has this fault.
abbrev pub StopsAt : List ℕ → Failure → Type 0
StopsAt bytes (ExtractFails fault) = (blobs : List Blob) × (framing : PbfFault) × Frames bytes 0 blobs (Fails framing) × (fault ≡ framed_as framing)
StopsAt bytes other = ⊥
