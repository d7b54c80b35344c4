-- The message of an object holds the numbers that were written.
use Rattle.std.proofs.Common.{◌≡◌, ℕ, ◌+◌, ◌^◌, ◌<◌, eqb, cond, ◌||◌, Bool, true, false, List, [], ◌∷◌, ◌++◌, map, length, refl, sym, ap, ◌∙◌, subst, arith}
use Rattle.std.specs.List.{AllByRecursion, filter}
use Rattle.std.proofs.lemmas.List.{map-append}
use Rattle.std.proofs.lemmas.List.Elements.{filter-append}
use Rattle.wire_read.specs.Fields.{WireField}
use Rattle.osm_messages.specs.declared.kind.ObjectKind.{ObjectKind}
use Rattle.osm_messages.specs.Means.{holds_one, holds_many, HoldsPacked, HoldsNumbers, GivesNumbers, Together, IsObject}
use Rattle.osm_objects.specs.Means.{held_by}
use Rattle.extract_maker.specs.Spelling.{packed, Piece, NumberPiece, BytesPiece, piece_bytes, message_bytes}
use Rattle.extract_maker.proofs.Varints.{IsWord, spells_packed}
use Rattle.extract_maker.proofs.Messages.{IsGood, field_of_piece, fields_at, spells_message}

-- ---- numbers in a field: one, or packed

pub data Held : Type 0 where
  OneNumber : ℕ → ℕ → Held
  Numbers : ℕ → List ℕ → Held

abbrev pub piece_of : Held → Piece
piece_of (OneNumber number n) = NumberPiece number n
piece_of (Numbers number ns) = BytesPiece number (packed ns)

abbrev pub field_of_held : Held → ℕ
field_of_held (OneNumber number n) = number
field_of_held (Numbers number ns) = number

abbrev pub numbers_of_held : Held → List ℕ
numbers_of_held (OneNumber number n) = n ∷ []
numbers_of_held (Numbers number ns) = ns

-- the field is read so in an object of this kind, and its numbers are words
abbrev pub IsTaken : ObjectKind → Held → Type 0
IsTaken kind (OneNumber number n) = (holds_one kind number || holds_many kind number) ≡ true
IsTaken kind (Numbers number ns) = (holds_many kind number ≡ true) × AllByRecursion IsWord ns

-- all numbers, each with its field
abbrev pub numbers_in : List Held → List (ℕ × ℕ)
numbers_in [] = []
numbers_in (held ∷ helds) = map (λ n. (field_of_held held, n)) (numbers_of_held held) ++ numbers_in helds

pub packed_of_many : (b : Bool) (ns : List ℕ) → b ≡ true → AllByRecursion IsWord ns → HoldsPacked b (packed ns) ns
packed_of_many true ns e words = spells_packed ns words
packed_of_many false ns e words = absurd cc

holds : (kind : ObjectKind) (held : Held) → IsTaken kind held → HoldsNumbers kind (field_of_held held) (field_of_piece 0 (piece_of held)).content (numbers_of_held held)
holds kind (OneNumber number n) taken = ap (λ (b : Bool). cond b (n ∷ []) []) (sym taken)
holds kind (Numbers number ns) taken = packed_of_many (holds_many kind number) ns taken.0 taken.1

gives : (kind : ObjectKind) (at : ℕ) (held : Held) → IsTaken kind held → GivesNumbers kind (field_of_piece at (piece_of held)) (map (λ n. (field_of_held held, n)) (numbers_of_held held))
gives kind at (OneNumber number n) taken = (n ∷ [], holds kind (OneNumber number n) taken, refl)
gives kind at (Numbers number ns) taken = (ns, holds kind (Numbers number ns) taken, refl)

together : (kind : ObjectKind) (at : ℕ) (helds : List Held) → AllByRecursion (IsTaken kind) helds → Together (GivesNumbers kind) (fields_at at (map piece_of helds)) (numbers_in helds)
together kind at [] taken = refl
together kind at (held ∷ helds) taken =
    (map (λ n. (field_of_held held, n)) (numbers_of_held held), numbers_in helds, gives kind at held taken.0, refl, together kind (at + length (piece_bytes (piece_of held))) helds taken.1)

pub is_object : (kind : ObjectKind) (at : ℕ) (helds : List Held) → AllByRecursion (IsTaken kind) helds → AllByRecursion IsGood (map piece_of helds) → IsObject kind at (message_bytes (map piece_of helds)) (numbers_in helds)
is_object kind at helds taken good = record {
  fields = fields_at at (map piece_of helds);
  spells = spells_message at (map piece_of helds) good;
  numbers_are = together kind at helds taken;
}

-- ---- the numbers of one field

abbrev pub held_in : List Held → ℕ → List ℕ
held_in [] field = []
held_in (held ∷ helds) field = cond (eqb (field_of_held held) field) (numbers_of_held held) [] ++ held_in helds field

one_field : (number field : ℕ) (ns : List ℕ) → held_by (map (λ n. (number, n)) ns) field ≡ cond (eqb number field) ns []
one_field number field [] = by (eqb number field)
  where
    by : (b : Bool) → ◌≡◌ {A = List ℕ} [] (cond b [] [])
    by true = refl
    by false = refl
one_field number field (n ∷ ns) = by (eqb number field) (filter (λ (pair : ℕ × ℕ). eqb pair.0 field) (map (λ n. (number, n)) ns)) (one_field number field ns)
  where
    by : (b : Bool) (rest : List (ℕ × ℕ)) → map (λ (pair : ℕ × ℕ). pair.1) rest ≡ cond b ns [] → map (λ (pair : ℕ × ℕ). pair.1) (cond b ((number, n) ∷ rest) rest) ≡ cond b (n ∷ ns) []
    by true rest e = ap (λ (l : List ℕ). n ∷ l) e
    by false rest e = e

held_append : (xs ys : List (ℕ × ℕ)) (field : ℕ) → held_by (xs ++ ys) field ≡ held_by xs field ++ held_by ys field
held_append xs ys field =
    ap (λ (l : List (ℕ × ℕ)). map (λ (pair : ℕ × ℕ). pair.1) l) (filter-append (λ (pair : ℕ × ℕ). eqb pair.0 field) xs ys)
    ∙ map-append (λ (pair : ℕ × ℕ). pair.1) (filter (λ (pair : ℕ × ℕ). eqb pair.0 field) xs) (filter (λ (pair : ℕ × ℕ). eqb pair.0 field) ys)

pub held_is : (helds : List Held) (field : ℕ) → held_by (numbers_in helds) field ≡ held_in helds field
held_is [] field = refl
held_is (held ∷ helds) field =
    held_append (map (λ n. (field_of_held held, n)) (numbers_of_held held)) (numbers_in helds) field
    ∙ ap (λ (l : List ℕ). l ++ held_by (numbers_in helds) field) (one_field (field_of_held held) field (numbers_of_held held))
    ∙ ap (λ (l : List ℕ). cond (eqb (field_of_held held) field) (numbers_of_held held) [] ++ l) (held_is helds field)
