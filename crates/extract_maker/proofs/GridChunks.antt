-- Blocks one after the other, behind a header: a file of what they give.
use Rattle.std.proofs.Common.{◌≡◌, ◌⊎◌, ℕ, ◌+◌, ◌*◌, ◌^◌, ◌<◌, ◌≤◌, List, [], ◌∷◌, ◌++◌, map, length, refl, sym, ap, ◌∙◌, subst, arith, inl, inr}
use Rattle.std.specs.Prelude.{codes}
use Rattle.std.specs.Int.{w32, to_be_bytes}
use Rattle.std.specs.List.{AllByRecursion, flat_map}
use Rattle.std.specs.Str.{IsUtf8}
use lib.Utf8.{encode}
use Rattle.std.proofs.lemmas.List.{length-append}
use Rattle.pbf_blobs.specs.declared.blob.Blob.{Blob}
use Rattle.pbf_blobs.specs.Triple.{IsKnownType, AreTriples}
use Rattle.osm_messages.specs.Blocks.{Block}
use Rattle.osm_messages.specs.Means.{IsHeaderBlock}
use Rattle.osm_objects.specs.Objects.{Objects, no_objects, joined}
use Rattle.osm_objects.specs.Means.{HoldsOfOne}
use Rattle.osm_blocks.specs.FileContent.{IsHeaderBlob, IsDataBlob, IsReadFeature, HasHeaderBlock, HasDataBlock, GivesBlob, AllGive, HeadersFirst}
use Rattle.extract_maker.specs.Spelling.{Piece, NumberPiece, BytesPiece, piece_bytes, message_bytes}
use Rattle.extract_maker.specs.GridFile.{header_bytes, body_bytes, triple_bytes, features_bytes, data_bytes, header_file}
use Rattle.extract_maker.proofs.Messages.{IsGood, body_of_piece, fields_at, spells_message, message_few}
use Rattle.extract_maker.proofs.DataBlocks.{good_number, IsPayload}
use Rattle.extract_maker.proofs.Triples.{blob_at, body_few, header_few, is_triple}

-- ---- chunks: a payload and what it gives

pub record Chunk : Type 0 where
  pub payload : List ℕ
  pub given : Objects

pub record IsChunk (chunk : Chunk) : Type 0 where
  pub few : length chunk.payload ≤ 100_000
  pub is_payload : IsPayload chunk.payload chunk.given

abbrev pub data_blob : ℕ → List ℕ → Blob
data_blob at payload = blob_at at (codes "OSMData") payload

abbrev pub data_blobs : ℕ → List Chunk → List Blob
data_blobs at [] = []
data_blobs at (chunk ∷ chunks) = data_blob at chunk.payload ∷ data_blobs (at + length (data_bytes chunk.payload)) chunks

abbrev pub chunks_bytes : List Chunk → List ℕ
chunks_bytes chunks = flat_map (λ (chunk : Chunk). data_bytes chunk.payload) chunks

abbrev pub all_given : List Chunk → Objects
all_given [] = no_objects
all_given (chunk ∷ chunks) = joined chunk.given (all_given chunks)

-- ---- triples

data_utf8 : IsUtf8 (codes "OSMData")
unfolding encode
data_utf8 = (codes "OSMData", (refl, refl))

header_utf8 : IsUtf8 (codes "OSMHeader")
unfolding encode
header_utf8 = (codes "OSMHeader", (refl, refl))

length_word : (n : ℕ) → length (to_be_bytes w32 n) ≡ 4
length_word n = refl

pub triple_few : (kind payload : List ℕ) → length kind ≤ 100 → length (triple_bytes kind payload) ≤ length payload + 200
unfolding triple_bytes
triple_few kind payload few =
    let size = length (body_bytes payload) in
    let header = header_bytes kind size in
    omega (arith, length-append (to_be_bytes w32 (length header) ++ header) (body_bytes payload), length-append (to_be_bytes w32 (length header)) header, length_word (length header), body_few payload, header_few kind size)

pub are_triples : (at : ℕ) (chunks : List Chunk) → AllByRecursion IsChunk chunks → at + 100_200 * length chunks ≤ 536870912 → AreTriples at (chunks_bytes chunks) (data_blobs at chunks)
are_triples at [] are within = refl
are_triples at (chunk ∷ chunks) are within =
    let few = are.0.few in
    let triple = triple_few (codes "OSMData") chunk.payload (omega arith) in (
      data_bytes chunk.payload,
      chunks_bytes chunks,
      is_triple at (codes "OSMData") chunk.payload (inr refl) data_utf8 (omega arith) (omega arith) (omega arith),
      refl,
      are_triples (at + length (data_bytes chunk.payload)) chunks are.1 (omega arith),
    )

-- ---- what they give

has_data : (at : ℕ) (chunk : Chunk) → IsChunk chunk → HasDataBlock (data_blob at chunk.payload) chunk.given
has_data at chunk is = let one = is.is_payload (data_blob at chunk.payload).raw_at in record { block = one.0; is_block = one.1; means = one.2 }

pub all_give : (at : ℕ) (chunks : List Chunk) → AllByRecursion IsChunk chunks → AllGive (data_blobs at chunks) (all_given chunks)
all_give at [] are = refl
all_give at (chunk ∷ chunks) are =
    (chunk.given, all_given chunks, inr (inl (refl, has_data at chunk are.0)), refl, all_give (at + length (data_bytes chunk.payload)) chunks are.1)

-- ---- the header

feature_pieces : List Piece
feature_pieces = BytesPiece 4 (codes "OsmSchema-V0.6") ∷ BytesPiece 4 (codes "DenseNodes") ∷ []

abbrev features_at : ℕ → List (ℕ × List ℕ)
features_at at = (at, codes "OsmSchema-V0.6") ∷ (at + length (piece_bytes (BytesPiece 4 (codes "OsmSchema-V0.6"))), codes "DenseNodes") ∷ []

is_features : (at : ℕ) → IsHeaderBlock at features_bytes (features_at at)
unfolding features_bytes feature_pieces
is_features at = record {
  fields = fields_at at feature_pieces;
  spells = spells_message at feature_pieces ((good_number 4 (omega arith) (omega arith), omega arith), ((good_number 4 (omega arith) (omega arith), omega arith), tt));
  features_are = refl;
}

pub header_blob : Blob
header_blob = blob_at 0 (codes "OSMHeader") features_bytes

pub has_header : HasHeaderBlock header_blob
unfolding header_blob
has_header = record { features = features_at header_blob.raw_at; is_header = is_features header_blob.raw_at; read = (inl refl, (inr refl, tt)) }

features_few : length features_bytes ≤ 1000
unfolding features_bytes feature_pieces
features_few = omega (arith, message_few feature_pieces)

pub header_short : length header_file ≤ 1200
header_short = let few = features_few in omega (arith, triple_few (codes "OSMHeader") features_bytes (omega arith))

is_data_not_header : IsDataBlob header_blob → ⊥
unfolding header_blob
is_data_not_header e = let lengths : ◌≡◌ {A = ℕ} 9 7 = ap (λ (l : List ℕ). length l) e in omega arith

-- ---- headers come first

still : (before : List Blob) (blob : Blob) → HoldsOfOne IsHeaderBlob before → HoldsOfOne IsHeaderBlob (before ++ blob ∷ [])
still [] blob one = absurd one
still (b ∷ before) blob (inl here) = inl here
still (b ∷ before) blob (inr there) = inr (still before blob there)

headers_first : (before : List Blob) (at : ℕ) (chunks : List Chunk) → HoldsOfOne IsHeaderBlob before → HeadersFirst before (data_blobs at chunks)
headers_first before at [] one = tt
headers_first before at (chunk ∷ chunks) one =
    ((λ is. one), headers_first (before ++ data_blob at chunk.payload ∷ []) (at + length (data_bytes chunk.payload)) chunks (still before (data_blob at chunk.payload) one))

-- ---- the file

abbrev pub file_blobs : List Chunk → List Blob
file_blobs chunks = header_blob ∷ data_blobs (0 + length header_file) chunks

pub file_triples : (chunks : List Chunk) → AllByRecursion IsChunk chunks → length chunks ≤ 2_000 → AreTriples 0 (header_file ++ chunks_bytes chunks) (file_blobs chunks)
unfolding header_blob
file_triples chunks are few =
    let short = header_short in
    let features = features_few in (
      header_file,
      chunks_bytes chunks,
      is_triple 0 (codes "OSMHeader") features_bytes (inl refl) header_utf8 (omega arith) (omega arith) (omega arith),
      refl,
      are_triples (0 + length header_file) chunks are (omega arith),
    )

header_is : IsHeaderBlob header_blob
unfolding header_blob
header_is = refl

pub file_gives : (chunks : List Chunk) → AllByRecursion IsChunk chunks → AllGive (file_blobs chunks) (all_given chunks)
file_gives chunks are = (no_objects, all_given chunks, inl (header_is, has_header, refl), refl, all_give (0 + length header_file) chunks are)

pub file_headed : (chunks : List Chunk) → HoldsOfOne IsHeaderBlob (file_blobs chunks)
unfolding header_blob
file_headed chunks = inl refl

pub file_headers_first : (chunks : List Chunk) → HeadersFirst [] (file_blobs chunks)
unfolding header_blob
file_headers_first chunks = ((λ is. absurd (is_data_not_header is)), headers_first (header_blob ∷ []) (0 + length header_file) chunks (inl refl))
