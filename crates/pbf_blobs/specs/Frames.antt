-- The frames of a whole input: blobs one after the other, and what stands behind the last of them.
use Rattle.std.specs.Prelude.{◌≡◌, ℕ, List, [], ◌∷◌, drop}
use Rattle.pbf_blobs.specs.declared.blob.Blob.{Blob}
use Rattle.pbf_blobs.specs.Next.{Outcome, Ends, Gives, Fails, next_of}

-- the blobs from the place at on, one after the other, and then this outcome
abbrev pub Frames : List ℕ → ℕ → List Blob → Outcome → Type 0
Frames bytes at [] outcome = next_of at (drop at bytes) ≡ outcome
Frames bytes at (blob ∷ blobs) outcome = (next_of at (drop at bytes) ≡ Gives blob) × Frames bytes blob.end blobs outcome

-- an outcome behind which nothing more is read
abbrev pub IsLast : Outcome → Type 0
IsLast Ends = Unit {0}
IsLast (Gives blob) = ⊥
IsLast (Fails fault) = Unit {0}

-- There is a list of blobs from the place at on, and a last outcome behind it.
pub record IsFramed (bytes : List ℕ) (at : ℕ) : Type 0 where
  pub blobs : List Blob
  pub outcome : Outcome
  pub last : IsLast outcome
  pub frames : Frames bytes at blobs outcome
