-- Each fault that the definitions give is one of the bytes: no fault of reading, and not want of memory.
use Rattle.std.proofs.Common.{◌≡◌, inl, inr, ℕ, true, List, length, Option, Some, None, Result, Ok, Err, refl, ap, ◌∙◌, subst}
use Rattle.std.specs.Prelude.{codes}
use Rattle.std.specs.Str.{bytes_eq}
use Rattle.pbf_blobs.specs.declared.blob.Blob.{Blob}
use Rattle.pbf_blobs.specs.declared.fault.PbfFault.{PbfFault}
use Rattle.pbf_blobs.specs.Next.{headed}
use Rattle.osm_messages.specs.declared.fault.MessageFault.{MessageFault}
use Rattle.osm_messages.specs.Headers.{features_in}
use Rattle.osm_messages.specs.Blocks.{block_in}
use Rattle.osm_objects.specs.declared.fault.ObjectFault.{ObjectFault}
use Rattle.osm_objects.specs.Steps.{◌>>=◌ as ◌next◌}
use Rattle.osm_objects.specs.Objects.{objects_of}
use Rattle.osm_blocks.specs.declared.fault.ExtractFault.{ExtractFault}
use Rattle.osm_blocks.specs.declared.fault.ExtractFault.TheVariants as faults
use Rattle.osm_blocks.specs.Faults.{framed_as, spelled_as, meant_as, is_of_bytes}
use Rattle.osm_blocks.specs.Features.{first_unknown}
use Rattle.osm_blocks.specs.Extracts.{◌>>=◌, given, Draft, all_known, header_in, objects_in, with_header, with_data, with_blob, EndsWith, Refuses}
use Rattle.pbf_blobs.specs.declared.fault.PbfFault.TheVariants as pbf
use Rattle.pbf_blobs.specs.Answers.{is_of_bytes as pbf_of_bytes}
use Rattle.pbf_blobs.proofs.OfBytes.{frames_of_bytes, either}
use Rattle.osm_messages.specs.declared.fault.MessageFault.TheVariants as messages
use Rattle.osm_messages.proofs.NoMemory.{Spelled, features_in-of, block_in-of}
use Rattle.osm_objects.specs.declared.fault.ObjectFault.TheVariants as objects
use Rattle.osm_objects.proofs.NoMemory.{Meant, objects_of-of}

-- a value, or a fault of the bytes
abbrev Known : {A : Type 0} → Result A ExtractFault → Type 0
Known (Ok x) = Unit {0}
Known (Err fault) = is_of_bytes fault ≡ true

-- ---- the layers below

framed-of : (fault : PbfFault) → pbf_of_bytes fault ≡ true → is_of_bytes (framed_as fault) ≡ true
framed-of pbf.Read e = absurd cc
framed-of (pbf.Truncated at) e = refl
framed-of (pbf.HeaderTooLong at len) e = refl
framed-of (pbf.BlobTooLong at len) e = refl
framed-of (pbf.Compressed at field) e = refl
framed-of (pbf.Wire fault) e = refl
framed-of (pbf.NoPayload at) e = refl
framed-of (pbf.TooLarge bytes) e = refl
framed-of pbf.OutOfMemory e = absurd cc
framed-of (pbf.MissingField at number) e = refl
framed-of (pbf.BadType at) e = refl

spelled-of : {A : Type 0} (r : Result A MessageFault) → Spelled r → Known (given spelled_as r)
spelled-of (Ok x) h = tt
spelled-of (Err (messages.Wire fault)) h = refl
spelled-of (Err (messages.Repeated at number)) h = refl
spelled-of (Err messages.OutOfMemory) h = absurd h

meant-of : {A : Type 0} (r : Result A ObjectFault) → Meant r → Known (given meant_as r)
meant-of (Ok x) h = tt
meant-of (Err (objects.MissingField at number)) h = refl
meant-of (Err (objects.Uneven at)) h = refl
meant-of (Err (objects.BadNumber at)) h = refl
meant-of (Err (objects.BadString at index)) h = refl
meant-of (Err (objects.BadCoordinate id)) h = refl
meant-of (Err objects.OutOfMemory) h = absurd h

-- ---- blobs

bind-of : {A B : Type 0} (r : Result A ExtractFault) (f : A → Result B ExtractFault) → Known r → ((x : A) → Known (f x)) → Known (r >>= f)
bind-of (Ok x) f h k = k x
bind-of (Err fault) f h k = h

all_known-of : (feature : Option (ℕ × List ℕ)) → Known (all_known feature)
all_known-of None = tt
all_known-of (Some feature) = refl

header_in-of : (at : ℕ) (bytes : List ℕ) → Known (header_in at bytes)
header_in-of at bytes = bind-of (given spelled_as (features_in at bytes)) _ (spelled-of (features_in at bytes) (features_in-of at bytes)) (λ features. all_known-of (first_unknown features))

objects_in-of : (at : ℕ) (bytes : List ℕ) → Known (objects_in at bytes)
objects_in-of at bytes =
    bind-of (given spelled_as (block_in at bytes)) _ (spelled-of (block_in at bytes) (block_in-of at bytes))
    (λ block. meant-of (objects_of at block) (objects_of-of at block))

with_blob-of : (draft : Draft) (blob : Blob) → Known (with_blob draft blob)
with_blob-of draft blob =
    either Known (bytes_eq blob.kind (codes "OSMHeader")) (with_header draft blob) _ (bind-of (header_in blob.raw_at blob.raw) _ (header_in-of blob.raw_at blob.raw) (λ so. tt))
    (either Known (bytes_eq blob.kind (codes "OSMData")) _ (Ok draft)
    (either Known draft.headed (with_data draft blob) (Err (faults.NoHeader blob.at)) (bind-of (objects_in blob.raw_at blob.raw) _ (objects_in-of blob.raw_at blob.raw) (λ more. tt)) refl)
    tt)

-- ---- the whole input

ends-of : (size : ℕ) (draft : Draft) (fault : ExtractFault) → EndsWith size draft fault → is_of_bytes fault ≡ true
ends-of size draft fault (inl h) = ap is_of_bytes h.is
ends-of size draft fault (inr (inl h)) = ap is_of_bytes h.is
ends-of size draft fault (inr (inr h)) = ap is_of_bytes h.is

pub refusal_of_bytes : (bytes : List ℕ) (fault : ExtractFault) → Refuses bytes fault → is_of_bytes fault ≡ true
refusal_of_bytes bytes fault refuses =
    elim refuses.next [
      | inl h ↦ ap is_of_bytes h.2 ∙ framed-of h.0 (frames_of_bytes bytes 0 refuses.blobs h.0 h.1)
      | inr more ↦ elim more [
        | inl h ↦ subst Known h.2 (with_blob-of refuses.draft h.0)
        | inr h ↦ ends-of (length bytes) refuses.draft fault h.1
      ]
    ]
