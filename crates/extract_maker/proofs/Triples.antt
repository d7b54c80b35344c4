-- A triple that was written is one with its payload.
use Rattle.std.proofs.Common.{◌≡◌, ◌↔◌, ℕ, ◌+◌, ◌^◌, ◌<◌, ◌≤◌, true, List, [], ◌∷◌, ◌++◌, length, refl, sym, ap, ◌∙◌, subst, arith, inl, inr}
use Rattle.std.specs.Prelude.{codes}
use Rattle.std.specs.Str.{IsUtf8}
use Rattle.wire_read.specs.Fields.{WireField}
use Rattle.pbf_blobs.specs.declared.blob.Blob.{Blob}
use Rattle.pbf_blobs.specs.Triple.{HoldsBytes, HoldsVarint, NoneHolds, IsLastHeld, IsKnownType, IsHeader, IsRawBlob, IsTriple}
use Rattle.extract_maker.specs.Spelling.{Piece, NumberPiece, BytesPiece, piece_bytes, message_bytes}
use Rattle.extract_maker.specs.GridFile.{header_bytes, body_bytes, triple_bytes}
use Rattle.extract_maker.proofs.Messages.{IsGood, body_of_piece, field_of_piece, fields_at, spells_message, message_few}
use Rattle.extract_maker.proofs.DataBlocks.{good_number}

-- the blob of the triple that begins at this place
abbrev pub blob_at : ℕ → List ℕ → List ℕ → Blob
blob_at at kind payload = record {
  at = at;
  kind = kind;
  size = length (body_bytes payload);
  known = true;
  raw_at = at + 4 + length (header_bytes kind (length (body_bytes payload))) + body_of_piece (BytesPiece 1 payload);
  raw = payload;
  end = at + length (triple_bytes kind payload);
}

abbrev none_after : {A : Type 0} (Holds : WireField → A → Type 0) → NoneHolds Holds []
none_after Holds = tt

is_header : (start : ℕ) (kind : List ℕ) (size : ℕ) → length kind ≤ 100 → size < 2 ^ 64 → IsUtf8 kind → IsHeader start (header_bytes kind size) kind size
is_header start kind size few word utf8 =
    let pieces : List Piece = BytesPiece 1 kind ∷ NumberPiece 3 size ∷ [] in
    let type_field = field_of_piece start (BytesPiece 1 kind) in
    let size_field = field_of_piece (start + length (piece_bytes (BytesPiece 1 kind))) (NumberPiece 3 size) in
    record {
      fields = fields_at start pieces;
      spells = spells_message start pieces ((good_number 1 (omega arith) (omega arith), omega arith), ((good_number 3 (omega arith) (omega arith), word), tt));
      kind_at = start + body_of_piece (BytesPiece 1 kind);
      is_kind = record {
        before = [];
        field = type_field;
        after = size_field ∷ [];
        parts = refl;
        holds = (refl, refl, refl);
        last = (λ value h. absurd (three_not_one h.0), tt);
      };
      is_size = record {
        before = type_field ∷ [];
        field = size_field;
        after = [];
        parts = refl;
        holds = (refl, refl);
        last = tt;
      };
      text = utf8;
    }
  where
    three_not_one : ◌≡◌ {A = ℕ} 3 1 → ⊥
    three_not_one e = omega arith

is_raw_blob : (start : ℕ) (payload : List ℕ) → length payload < 2 ^ 64 → IsRawBlob start (body_bytes payload) (start + body_of_piece (BytesPiece 1 payload)) payload
is_raw_blob start payload short =
    let pieces : List Piece = BytesPiece 1 payload ∷ [] in
    record {
      fields = fields_at start pieces;
      spells = spells_message start pieces ((good_number 1 (omega arith) (omega arith), short), tt);
      not_compressed = ((λ between. absurd (not_three between.0)), tt);
      payload = record {
        before = [];
        field = field_of_piece start (BytesPiece 1 payload);
        after = [];
        parts = refl;
        holds = (refl, refl, refl);
        last = tt;
      };
    }
  where
    not_three : 3 ≤ 1 → ⊥
    not_three h = omega arith

pub body_few : (payload : List ℕ) → length (body_bytes payload) ≤ 20 + length payload
body_few payload = omega (arith, message_few (BytesPiece 1 payload ∷ []))

pub header_few : (kind : List ℕ) (size : ℕ) → length (header_bytes kind size) ≤ 40 + length kind
header_few kind size = omega (arith, message_few (BytesPiece 1 kind ∷ NumberPiece 3 size ∷ []))

pub is_triple : (at : ℕ) (kind payload : List ℕ) → IsKnownType kind → IsUtf8 kind → length kind ≤ 100 → length payload ≤ 1_000_000
    → at + length (triple_bytes kind payload) ≤ 536870912 → IsTriple at (triple_bytes kind payload) (blob_at at kind payload)
unfolding triple_bytes
is_triple at kind payload known utf8 few short within =
    let size = length (body_bytes payload) in
    let fits = body_few payload in
    let header_fits = header_few kind size in
    record {
      header = header_bytes kind size;
      body = body_bytes payload;
      parts = refl;
      short = omega arith;
      is_header = is_header (at + 4) kind size few (omega arith) utf8;
      size = refl;
      size_limit = omega arith;
      known = ((λ same. known), (λ is. refl));
      is_blob = is_raw_blob (at + 4 + length (header_bytes kind size)) payload (omega arith);
      place = refl;
      end = refl;
      end_limit = within;
    }
