-- Which fault a PBF file has that says no extract, in the words of the format: the fault of the first triple that has one,
-- or else the first fault of the whole file, in the order of docs/PBF.md. It names no step; Extracts computes the same,
-- blob by blob.
use Rattle.std.specs.Prelude.{◌≡◌, ◌⊎◌, ℕ, ◌<◌, ◌≤◌, ℤ, List, [], ◌∷◌, ◌++◌, length}
use Rattle.std.specs.List.{AllByRecursion}
use Rattle.osm_model.specs.declared.relations.MemberKind.{MemberKind}
use Rattle.pbf_blobs.specs.declared.blob.Blob.{Blob}
use Rattle.pbf_blobs.specs.declared.fault.PbfFault.{PbfFault}
use Rattle.pbf_blobs.specs.Triple.{IsTriple}
use Rattle.pbf_blobs.specs.Means.{MeansFault, BeginsWithTriple}
use Rattle.osm_messages.specs.declared.fault.MessageFault.{MessageFault}
use Rattle.osm_messages.specs.Blocks.{Block}
use Rattle.osm_messages.specs.Means.{IsHeaderBlock, IsPrimitiveBlock}
use Rattle.osm_messages.specs.Faults.{InNone, InBlock, IsFirst}
use Rattle.osm_objects.specs.declared.fault.ObjectFault.{ObjectFault}
use Rattle.osm_objects.specs.Objects.{Objects}
use Rattle.osm_objects.specs.Means.{HoldsOfOne}
use Rattle.osm_objects.specs.Causes.{IsFirstOfBlock}
use Rattle.osm_blocks.specs.declared.fault.Counted.{Counted}
use Rattle.osm_blocks.specs.declared.fault.ExtractFault.{ExtractFault}
use Rattle.osm_blocks.specs.declared.fault.ExtractFault.TheVariants as faults
use Rattle.osm_blocks.specs.Faults.{framed_as, spelled_as, meant_as}
use Rattle.osm_blocks.specs.Features.{shown}
use Rattle.osm_blocks.specs.Counts.{Count, counts_of}
use Rattle.osm_blocks.specs.Extracts.{AreDistinct, IsFirstTwice}
use Rattle.osm_blocks.specs.FileContent.{IsHeaderBlob, IsDataBlob, IsReadFeature, AllGive, HeadersFirst}

-- ---- the triples before the fault

-- the bytes from the place at on begin with the triples of these blobs, and these are left behind them, from the place end on
abbrev pub BeginsWithTriples : ℕ → List ℕ → List Blob → ℕ → List ℕ → Type 0
BeginsWithTriples at bytes [] end left = (end ≡ at) × (left ≡ bytes)
BeginsWithTriples at bytes (blob ∷ blobs) end left =
    (triple rest : List ℕ) × IsTriple at triple blob × (bytes ≡ triple ++ rest) × BeginsWithTriples blob.end rest blobs end left

-- ---- a blob with a fault

-- the first fault of the payload as a header, a message without messages inside
pub record HasBrokenHeaderBlock (blob : Blob) (fault : ExtractFault) : Type 0 where
  pub message : MessageFault
  pub first : IsFirst InNone blob.raw_at blob.raw message
  pub is : fault ≡ spelled_as message

-- the payload is a header, and this is the first feature that it requires and that isn't read
pub record HasUnreadFeature (blob : Blob) (fault : ExtractFault) : Type 0 where
  pub before : List (ℕ × List ℕ)
  pub feature : ℕ × List ℕ
  pub after : List (ℕ × List ℕ)
  pub is_header : IsHeaderBlock blob.raw_at blob.raw (before ++ feature ∷ after)
  pub read : AllByRecursion IsReadFeature before
  pub unread : IsReadFeature feature → ⊥
  pub is : fault ≡ faults.Feature feature.0 (shown feature.1)

-- the first fault of the payload as a block, by its messages
pub record HasBrokenDataBlock (blob : Blob) (fault : ExtractFault) : Type 0 where
  pub message : MessageFault
  pub first : IsFirst InBlock blob.raw_at blob.raw message
  pub is : fault ≡ spelled_as message

-- the payload is a block, and this is the first fault of its objects
pub record HasFaultyObjects (blob : Blob) (fault : ExtractFault) : Type 0 where
  pub block : Block
  pub is_block : IsPrimitiveBlock blob.raw_at blob.raw block
  pub object : ObjectFault
  pub first : IsFirstOfBlock blob.raw_at block object
  pub is : fault ≡ meant_as object

-- The blob behind these has this fault. A data blob before any header has no other: it isn't looked at.
abbrev pub HasBlobFault : List Blob → Blob → ExtractFault → Type 0
HasBlobFault before blob fault =
    (IsHeaderBlob blob × (HasBrokenHeaderBlock blob fault ⊎ HasUnreadFeature blob fault))
    ⊎ ((IsDataBlob blob × (HoldsOfOne IsHeaderBlob before → ⊥) × (fault ≡ faults.NoHeader blob.at))
    ⊎ (IsDataBlob blob × HoldsOfOne IsHeaderBlob before × (HasBrokenDataBlock blob fault ⊎ HasFaultyObjects blob fault)))

-- ---- a fault at the end of the file

-- this is the first count that is past its limit
pub record IsFirstPast (objects : Objects) (what : Counted) (found : ℕ) : Type 0 where
  pub before : List Count
  pub count : Count
  pub after : List Count
  pub parts : counts_of objects ≡ before ++ count ∷ after
  pub within : AllByRecursion (λ (other : Count). other.found ≤ other.most) before
  pub past : count.most < count.found
  pub what_is : what ≡ count.what
  pub found_is : found ≡ count.found

-- No blob of a file of so many bytes has a fault, and all have these objects: no header came; or two objects of one kind
-- have one id, the least one of the first such kind; or a count is past its limit, the first such one.
abbrev pub HasEndFault : ℕ → List Blob → Objects → ExtractFault → Type 0
HasEndFault size blobs all fault =
    ((HoldsOfOne IsHeaderBlob blobs → ⊥) × (fault ≡ faults.NoHeader size))
    ⊎ (HoldsOfOne IsHeaderBlob blobs × (((kind : MemberKind) × (id : ℤ) × IsFirstTwice all kind id × (fault ≡ faults.DuplicateId kind id))
    ⊎ (AreDistinct all × ((what : Counted) × (found : ℕ) × IsFirstPast all what found × (fault ≡ faults.TooMany what found)))))

-- ---- the file

-- The file begins with triples without a fault, a header before each data blob among them, whose blocks mean these objects.
-- Behind them bytes are left that begin with no triple, for this cause; or a triple whose blob has this fault; or nothing, and
-- this is the fault of the whole file.
pub record IsFaultyFile (bytes : List ℕ) (fault : ExtractFault) : Type 0 where
  pub blobs : List Blob
  pub end : ℕ
  pub left : List ℕ
  pub begins : BeginsWithTriples 0 bytes blobs end left
  pub headers_first : HeadersFirst [] blobs
  pub all : Objects
  pub gives : AllGive blobs all
  pub next : ((framing : PbfFault) × MeansFault end left framing × (fault ≡ framed_as framing))
      ⊎ (((blob : Blob) × BeginsWithTriple end left blob × HasBlobFault blobs blob fault)
      ⊎ ((left ≡ []) × HasEndFault (length bytes) blobs all fault))
