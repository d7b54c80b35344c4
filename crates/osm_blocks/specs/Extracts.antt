-- What the bytes of a PBF file are: an extract, or its first fault.
use Rattle.std.specs.Prelude.{◌≡◌, ◌⊎◌, ℕ, ℤ, Bool, true, false, if◌then◌else◌, List, [], ◌∷◌, length, Option, Some, None, Result, Ok, Err, codes}
use Rattle.std.specs.Result.{result_map_both}
use Rattle.std.specs.Str.{bytes_eq}
use Rattle.osm_model.specs.declared.extract.Extract.{Extract}
use Rattle.osm_model.specs.declared.nodes.OsmNode.{OsmNode}
use Rattle.osm_model.specs.declared.ways.OsmWay.{OsmWay}
use Rattle.osm_model.specs.declared.relations.OsmRelation.{OsmRelation}
use Rattle.osm_model.specs.declared.relations.MemberKind.{MemberKind}
use Rattle.osm_model.specs.declared.relations.MemberKind.TheVariants as kinds
use Rattle.pbf_blobs.specs.declared.blob.Blob.{Blob}
use Rattle.pbf_blobs.specs.declared.fault.PbfFault.{PbfFault}
use Rattle.pbf_blobs.specs.Next.{Ends, Gives, Fails}
use Rattle.pbf_blobs.specs.Frames.{Frames}
use Rattle.osm_messages.specs.Blocks.{block_in}
use Rattle.osm_messages.specs.Headers.{features_in}
use Rattle.osm_objects.specs.Objects.{Objects, no_objects, joined, objects_of}
use Rattle.osm_blocks.specs.declared.fault.Counted.{Counted}
use Rattle.osm_blocks.specs.declared.fault.ExtractFault.{ExtractFault}
use Rattle.osm_blocks.specs.declared.fault.ExtractFault.TheVariants as faults
use Rattle.osm_blocks.specs.Faults.{framed_as, spelled_as, meant_as}
use Rattle.osm_blocks.specs.Features.{first_unknown, shown}
use Rattle.osm_blocks.specs.Order.{InOrder, AreUnlike, IsLeastTwice}
use Rattle.osm_blocks.specs.Counts.{counts_of, first_past}

-- ---- blobs, one after the other

-- what follows, where there was no fault
infixl 10 ◌>>=◌
abbrev pub ◌>>=◌ : {A B : Type 0} → Result A ExtractFault → (A → Result B ExtractFault) → Result B ExtractFault
(Ok x) >>= f = f x
(Err fault) >>= f = Err fault

-- what a layer below gives; its fault as one of an extract
abbrev pub given : {A F : Type 0} → (F → ExtractFault) → Result A F → Result A ExtractFault
given as_fault result = result_map_both (λ x. x) as_fault result

-- what has been read: whether a header came, and all objects in the order of bytes
pub record Draft : Type 0 where
  pub headed : Bool
  pub objects : Objects

-- nothing yet
abbrev pub empty_draft : Draft
empty_draft = record { headed = false; objects = no_objects }

-- the fault of the first feature that isn't known, if there is one
abbrev pub all_known : Option (ℕ × List ℕ) → Result (Unit {0}) ExtractFault
all_known None = Ok tt
all_known (Some feature) = Err (faults.Feature feature.0 (shown feature.1))

-- a header block, whose first byte stands at this place
abbrev pub header_in : ℕ → List ℕ → Result (Unit {0}) ExtractFault
header_in at bytes = do
  features ← given spelled_as (features_in at bytes)
  all_known (first_unknown features)

-- the objects of a PrimitiveBlock, whose first byte stands at this offset
abbrev pub objects_in : ℕ → List ℕ → Result Objects ExtractFault
objects_in at bytes = do
  block ← given spelled_as (block_in at bytes)
  given meant_as (objects_of at block)

-- one HeaderBlock more; the objects of one PrimitiveBlock more
abbrev pub with_header : Draft → Blob → Result Draft ExtractFault
with_header draft blob = header_in blob.raw_at blob.raw >>= λ so. Ok (record draft { headed = true })

abbrev pub with_data : Draft → Blob → Result Draft ExtractFault
with_data draft blob = objects_in blob.raw_at blob.raw >>= λ more. Ok (record draft { objects = joined draft.objects more })

-- one blob more; a PrimitiveBlock has to come behind a HeaderBlock, and blobs of other types mean nothing
abbrev pub with_blob : Draft → Blob → Result Draft ExtractFault
with_blob draft blob =
    if bytes_eq blob.kind (codes "OSMHeader") then with_header draft blob
    else (if bytes_eq blob.kind (codes "OSMData") then (if draft.headed then with_data draft blob else Err (faults.NoHeader blob.at))
    else Ok draft)

abbrev pub with_blobs : Draft → List Blob → Result Draft ExtractFault
with_blobs draft [] = Ok draft
with_blobs draft (blob ∷ blobs) = do
  next ← with_blob draft blob
  with_blobs next blobs

-- ---- the end

abbrev pub node_id : OsmNode → ℤ
node_id node = node.id

abbrev pub way_id : OsmWay → ℤ
way_id way = way.id

abbrev pub relation_id : OsmRelation → ℤ
relation_id relation = relation.id

-- no two objects of one kind have one id
pub record AreDistinct (objects : Objects) : Type 0 where
  pub nodes : AreUnlike node_id objects.nodes
  pub ways : AreUnlike way_id objects.ways
  pub relations : AreUnlike relation_id objects.relations

-- The first kind with two objects of one id, and the least such id.
abbrev pub IsFirstTwice : Objects → MemberKind → ℤ → Type 0
IsFirstTwice objects kinds.Node id = IsLeastTwice node_id objects.nodes id
IsFirstTwice objects kinds.Way id = AreUnlike node_id objects.nodes × IsLeastTwice way_id objects.ways id
IsFirstTwice objects kinds.Relation id =
    AreUnlike node_id objects.nodes × AreUnlike way_id objects.ways × IsLeastTwice relation_id objects.relations id

-- No header came before the end of an input of so many bytes.
pub record LacksHeader (size : ℕ) (draft : Draft) (fault : ExtractFault) : Type 0 where
  pub headless : draft.headed ≡ false
  pub is : fault ≡ faults.NoHeader size

-- Two objects of one kind have one id.
pub record HasTwice (draft : Draft) (fault : ExtractFault) : Type 0 where
  pub headed : draft.headed ≡ true
  pub kind : MemberKind
  pub id : ℤ
  pub twice : IsFirstTwice draft.objects kind id
  pub is : fault ≡ faults.DuplicateId kind id

-- A count is past its limit.
pub record HasTooMany (draft : Draft) (fault : ExtractFault) : Type 0 where
  pub headed : draft.headed ≡ true
  pub distinct : AreDistinct draft.objects
  pub what : Counted
  pub count : ℕ
  pub past : first_past (counts_of draft.objects) ≡ Some (what, count)
  pub is : fault ≡ faults.TooMany what count

-- the fault at the end of an input of so many bytes
abbrev pub EndsWith : ℕ → Draft → ExtractFault → Type 0
EndsWith size draft fault = LacksHeader size draft fault ⊎ (HasTwice draft fault ⊎ HasTooMany draft fault)

-- the three lists of an extract
abbrev pub lists_of : Extract → Objects
lists_of extract = record { nodes = extract.nodes; ways = extract.ways; relations = extract.relations }

-- The draft is finished as these lists: all its objects, each kind in order of id.
pub record IsFinished (draft : Draft) (lists : Objects) : Type 0 where
  pub headed : draft.headed ≡ true
  pub nodes : InOrder node_id draft.objects.nodes lists.nodes
  pub ways : InOrder way_id draft.objects.ways lists.ways
  pub relations : InOrder relation_id draft.objects.relations lists.relations
  pub within : first_past (counts_of draft.objects) ≡ None

-- ---- the whole input

-- The bytes are blobs without a fault, and the extract has these lists.
pub record Reads (bytes : List ℕ) (lists : Objects) : Type 0 where
  pub blobs : List Blob
  pub draft : Draft
  pub frames : Frames bytes 0 blobs Ends
  pub grows : with_blobs empty_draft blobs ≡ Ok draft
  pub ends : IsFinished draft lists

-- The bytes begin with blobs without a fault, and then this fault comes: that of the next frame, or that of the next
-- blob, or one at the end of the input.
pub record Refuses (bytes : List ℕ) (fault : ExtractFault) : Type 0 where
  pub blobs : List Blob
  pub draft : Draft
  pub grows : with_blobs empty_draft blobs ≡ Ok draft
  pub next : ((framing : PbfFault) × Frames bytes 0 blobs (Fails framing) × (fault ≡ framed_as framing))
      ⊎ (((blob : Blob) × Frames bytes 0 blobs (Gives blob) × (with_blob draft blob ≡ Err fault))
      ⊎ (Frames bytes 0 blobs Ends × EndsWith (length bytes) draft fault))

-- what the bytes are: the lists of an extract, or a fault
pub data Reading : Type 0 where
  Extracted : Objects → Reading
  Refused : ExtractFault → Reading

abbrev pub IsReading : List ℕ → Reading → Type 0
IsReading bytes (Extracted lists) = Reads bytes lists
IsReading bytes (Refused fault) = Refuses bytes fault

-- There is a reading of the bytes.
pub record IsRead (bytes : List ℕ) : Type 0 where
  pub reading : Reading
  pub reads : IsReading bytes reading
