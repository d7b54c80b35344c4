-- A PrimitiveBlock that was written is one with its texts and its object.
use Rattle.std.proofs.Common.{◌≡◌, ℕ, ◌+◌, ◌^◌, ◌<◌, ◌≤◌, pos, cond, Bool, true, false, List, [], ◌∷◌, ◌++◌, map, length, Option, Some, None, refl, sym, ap, ◌∙◌, subst, arith}
use Rattle.std.specs.List.{AllByRecursion, filter, cons_option}
use Rattle.std.proofs.lemmas.List.{append-nil}
use Rattle.std.proofs.lemmas.List.Elements.{All-from_recursion}
use Rattle.wire_read.specs.Fields.{WireField}
use Rattle.osm_messages.specs.declared.kind.ObjectKind.{ObjectKind}
use Rattle.osm_messages.specs.Groups.{Object}
use Rattle.osm_messages.specs.Blocks.{Block}
use Rattle.osm_messages.specs.Means.{Part, parts, kind_of_field, object_by, is_dense_nodes, dense_among, SpellsObject, IsStringTable, IsPrimitiveGroup, IsPrimitiveBlock}
use Rattle.osm_objects.specs.declared.scale.Scale.{Scale}
use Rattle.osm_objects.specs.Objects.{Objects, no_objects, joined}
use Rattle.osm_objects.specs.Means.{GivesObjects, AreJoined, IsObjects}
use Rattle.extract_maker.specs.Spelling.{Piece, NumberPiece, BytesPiece, piece_bytes, message_bytes}
use Rattle.extract_maker.specs.GridFile.{table_bytes, group_bytes, block_bytes}
use Rattle.extract_maker.proofs.Messages.{IsGood, IsGoodNumber, body_of_piece, fields_at, spells_message}

pub good_number : (number : ℕ) → 1 ≤ number → number ≤ 20 → IsGoodNumber number
good_number number least most = record { least = least; most = most }

-- ---- tables

abbrev pub IsShort : List ℕ → Type 0
IsShort text = length text < 2 ^ 64

abbrev text_pieces : List (List ℕ) → List Piece
text_pieces texts = map (λ text. BytesPiece 1 text) texts

good_texts : (texts : List (List ℕ)) → AllByRecursion IsShort texts → AllByRecursion IsGood (text_pieces texts)
good_texts [] short = tt
good_texts (text ∷ texts) short = ((good_number 1 (omega arith) (omega arith), short.0), good_texts texts short.1)

texts_are : (at : ℕ) (texts : List (List ℕ)) → texts ≡ map (λ (part : Part). part.bytes) (parts 1 (fields_at at (text_pieces texts)))
texts_are at [] = refl
texts_are at (text ∷ texts) = ap (λ (l : List (List ℕ)). text ∷ l) (texts_are (at + length (piece_bytes (BytesPiece 1 text))) texts)

pub is_table : (at : ℕ) (texts : List (List ℕ)) → AllByRecursion IsShort texts → IsStringTable at (table_bytes texts) ([] ∷ texts)
unfolding table_bytes
is_table at texts short = record {
  fields = fields_at at (BytesPiece 1 [] ∷ text_pieces texts);
  spells = spells_message at (BytesPiece 1 [] ∷ text_pieces texts) ((good_number 1 (omega arith) (omega arith), omega arith), good_texts texts short);
  texts_are = ap (λ (l : List (List ℕ)). [] ∷ l) (texts_are (at + length (piece_bytes (BytesPiece 1 []))) texts);
}

-- ---- groups

-- the object of a group whose first byte stands at this place
abbrev pub object_at : ℕ → ℕ → ObjectKind → List ℕ → Object
object_at at number kind bytes = record { kind = kind; at = at + body_of_piece (BytesPiece number bytes); bytes = bytes }

one_dense : (object : Object) → length (dense_among (object ∷ [])) ≤ 1
one_dense object = by (is_dense_nodes object.kind)
  where
    by : (b : Bool) → length (cond b (object ∷ []) []) ≤ 1
    by true = omega arith
    by false = omega arith

is_group : (at number : ℕ) (kind : ObjectKind) (bytes : List ℕ) → kind_of_field number ≡ Some kind → IsGood (BytesPiece number bytes)
    → SpellsObject (object_at at number kind bytes) → IsPrimitiveGroup at (group_bytes number bytes) (object_at at number kind bytes ∷ [])
is_group at number kind bytes e good spelled = record {
  fields = fields_at at (BytesPiece number bytes ∷ []);
  spells = spells_message at (BytesPiece number bytes ∷ []) (good, tt);
  objects_are = ap (λ (k : Option ObjectKind). cons_option (object_by (at + body_of_piece (BytesPiece number bytes)) bytes k) []) (sym e);
  one_dense = one_dense (object_at at number kind bytes);
  each_spelled = All-from_recursion SpellsObject (object_at at number kind bytes ∷ []) (spelled, tt);
}

-- ---- blocks

-- the units of a block that gives none
abbrev pub plain_units : Scale
plain_units = record { granularity = pos 100; lat_offset = pos 0; lon_offset = pos 0 }

-- a block's group begins here, where its first byte stands at this place
abbrev group_place : ℕ → List ℕ → ℕ → List ℕ → ℕ
group_place at table number bytes = at + length (piece_bytes (BytesPiece 1 table)) + body_of_piece (BytesPiece 2 (group_bytes number bytes))

abbrev block_at : ℕ → List (List ℕ) → List ℕ → ℕ → ObjectKind → List ℕ → Block
block_at at texts table number kind bytes = record {
  texts = Some ([] ∷ texts);
  objects = object_at (group_place at table number bytes) number kind bytes ∷ [];
  granularity = pos 100;
  lat_offset = pos 0;
  lon_offset = pos 0;
}

pub joined_none : (objects : Objects) → objects ≡ joined objects no_objects
joined_none objects = λ i. record {
  nodes = sym (append-nil objects.nodes) i;
  ways = sym (append-nil objects.ways) i;
  relations = sym (append-nil objects.relations) i;
}

-- the payload is a block that gives these objects, wherever it stands
abbrev pub IsPayload : List ℕ → Objects → Type 0
IsPayload payload objects = (at : ℕ) → (block : Block) × IsPrimitiveBlock at payload block × IsObjects block objects

pub is_payload : (texts : List (List ℕ)) (number : ℕ) (kind : ObjectKind) (bytes : List ℕ) (objects : Objects)
    → AllByRecursion IsShort texts → IsShort (table_bytes texts) → IsShort (group_bytes number bytes)
    → kind_of_field number ≡ Some kind → IsGood (BytesPiece number bytes)
    → ((place : ℕ) → GivesObjects ([] ∷ texts) plain_units (record { kind = kind; at = place; bytes = bytes }) objects)
    → IsPayload (block_bytes (table_bytes texts) number bytes) objects
unfolding block_bytes
is_payload texts number kind bytes objects short short_table short_group e good gives at =
    let table = table_bytes texts in
    let pieces : List Piece = BytesPiece 1 table ∷ BytesPiece 2 (group_bytes number bytes) ∷ [] in
    let place = group_place at table number bytes in
    let one = gives (place + body_of_piece (BytesPiece number bytes)) in
    let is_block : IsPrimitiveBlock at (block_bytes table number bytes) (block_at at texts table number kind bytes) = record {
      fields = fields_at at pieces;
      spells = spells_message at pieces ((good_number 1 (omega arith) (omega arith), short_table), ((good_number 2 (omega arith) (omega arith), short_group), tt));
      table = ([] ∷ texts, is_table (at + body_of_piece (BytesPiece 1 table)) texts short, refl);
      groups = (object_at place number kind bytes ∷ [], [], is_group place number kind bytes e good (one.numbers, one.spells), refl, refl);
      granularity = refl;
      lat_offset = refl;
      lon_offset = refl;
    } in (
      block_at at texts table number kind bytes,
      is_block,
      record {
        table = [] ∷ texts;
        has_table = refl;
        joined = (objects, no_objects, one, joined_none objects, refl);
      },
    )
