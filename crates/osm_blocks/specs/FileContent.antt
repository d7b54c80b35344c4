-- What a PBF file says, in the words of the format (fileformat.proto, osmformat.proto): its triples, the messages in them,
-- and the objects that these mean. It names no step and no order of work; Extracts computes the same, blob by blob.
use Rattle.std.specs.Prelude.{◌≡◌, ◌≢◌, ◌⊎◌, ℕ, List, [], ◌∷◌, ◌++◌, codes}
use Rattle.std.specs.List.{AllByRecursion}
use Rattle.osm_model.specs.Extract.{AreWithin}
use Rattle.pbf_blobs.specs.declared.blob.Blob.{Blob}
use Rattle.pbf_blobs.specs.Triple.{AreTriples}
use Rattle.osm_messages.specs.Blocks.{Block}
use Rattle.osm_messages.specs.Means.{IsHeaderBlock, IsPrimitiveBlock}
use Rattle.osm_objects.specs.Objects.{Objects, no_objects, joined}
use Rattle.osm_objects.specs.Means.{HoldsOfOne, IsObjects}
use Rattle.osm_blocks.specs.Order.{InOrder}
use Rattle.osm_blocks.specs.Extracts.{node_id, way_id, relation_id}

-- ---- types of blobs

abbrev pub IsHeaderBlob : Blob → Type 0
IsHeaderBlob blob = blob.kind ≡ codes "OSMHeader"

abbrev pub IsDataBlob : Blob → Type 0
IsDataBlob blob = blob.kind ≡ codes "OSMData"

-- ---- what a blob gives

-- a feature that a reader of these files has to know
abbrev pub IsReadFeature : ℕ × List ℕ → Type 0
IsReadFeature feature = (feature.1 ≡ codes "OsmSchema-V0.6") ⊎ (feature.1 ≡ codes "DenseNodes")

-- the payload is a header, and each feature that it requires is known
pub record HasHeaderBlock (blob : Blob) : Type 0 where
  pub features : List (ℕ × List ℕ)
  pub is_header : IsHeaderBlock blob.raw_at blob.raw features
  pub read : AllByRecursion IsReadFeature features

-- the payload is a block, and these are its objects
pub record HasDataBlock (blob : Blob) (objects : Objects) : Type 0 where
  pub block : Block
  pub is_block : IsPrimitiveBlock blob.raw_at blob.raw block
  pub means : IsObjects block objects

-- a header gives no objects, a PrimitiveBlock those that it means, and a blob of another type none
abbrev pub GivesBlob : Blob → Objects → Type 0
GivesBlob blob given =
    (IsHeaderBlob blob × HasHeaderBlock blob × (given ≡ no_objects))
    ⊎ ((IsDataBlob blob × HasDataBlock blob given)
    ⊎ ((IsHeaderBlob blob → ⊥) × (IsDataBlob blob → ⊥) × (given ≡ no_objects)))

-- the objects of all blobs, in their order
abbrev pub AllGive : List Blob → Objects → Type 0
AllGive [] whole = whole ≡ no_objects
AllGive (blob ∷ blobs) whole = (given others : Objects) × GivesBlob blob given × (whole ≡ joined given others) × AllGive blobs others

-- each data blob comes behind a header, these blobs before them counted
abbrev pub HeadersFirst : List Blob → List Blob → Type 0
HeadersFirst before [] = Unit {0}
HeadersFirst before (blob ∷ blobs) = (IsDataBlob blob → HoldsOfOne IsHeaderBlob before) × HeadersFirst (before ++ blob ∷ []) blobs

-- ---- the file

-- The file is triples, with a header before each data blob; the objects of all its PrimitiveBlocks are these lists, each in
-- order of id and with no id twice; and no count is past its limit.
pub record IsFileOf (bytes : List ℕ) (lists : Objects) : Type 0 where
  pub blobs : List Blob
  pub triples : AreTriples 0 bytes blobs
  pub headed : HoldsOfOne IsHeaderBlob blobs
  pub headers_first : HeadersFirst [] blobs
  pub all : Objects
  pub gives : AllGive blobs all
  pub nodes : InOrder node_id all.nodes lists.nodes
  pub ways : InOrder way_id all.ways lists.ways
  pub relations : InOrder relation_id all.relations lists.relations
  pub within : AreWithin lists.nodes lists.ways lists.relations
