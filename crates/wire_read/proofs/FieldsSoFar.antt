-- A loop over the fields of a message: what it has read, and what is left.
use Rattle.std.proofs.Common.{◌≡◌, ℕ, ◌+◌, ◌<◌, List, [], ◌∷◌, ◌++◌, length, map, false, Some, None, Ok, Err, refl, sym, ap, ◌∙◌, subst, append_assoc}
use Rattle.std.proofs.lemmas.List.{append-nil, map_push}
use Rattle.wire_read.specs.declared.fault.WireFault.{WireFault}
use Rattle.wire_read.specs.declared.fields.Field.{Field}
use Rattle.wire_read.specs.Numbers.{Unread}
use Rattle.wire_read.specs.Fields.{WireField, seen, field_of, Listed, message_of}
use Rattle.wire_read.proofs.Lists.{message_of-nil, message_of-field, message_of-fault}

-- these fields before a message
abbrev pub with_fields : List WireField → Listed WireField → Listed WireField
with_fields fields message = record { items = fields ++ message.items; fault = message.fault }

-- the whole message is these fields and the message that is left
pub record FieldsSoFar (bytes : List ℕ) (base : ℕ) (fields : List WireField) (left : Unread) : Type 0 where
  pub unbroken : left.broken ≡ false
  pub rest : message_of base bytes ≡ with_fields fields (message_of left.at left.rest)

pub FieldsSoFar-nothing : (bytes : List ℕ) (base : ℕ) → FieldsSoFar bytes base [] (record { rest = bytes; at = base; broken = false })
FieldsSoFar-nothing bytes base = record { unbroken = refl; rest = refl }

-- one field more
pub FieldsSoFar-more : (bytes : List ℕ) (base : ℕ) (fields : List WireField) (old new : Unread) (field : WireField)
    → FieldsSoFar bytes base fields old → field_of old.at old.rest ≡ Ok (field, new.rest) → new.at + length new.rest ≡ old.at + length old.rest → new.broken ≡ false
    → FieldsSoFar bytes base (fields ++ field ∷ []) new
FieldsSoFar-more bytes base fields old new field so_far e places unbroken = record {
  unbroken = unbroken;
  rest = so_far.rest
      ∙ ap (with_fields fields) (message_of-field old.at new.at old.rest (field, new.rest) e places)
      ∙ ap (λ (fs : List WireField). record { items = fs; fault = (message_of new.at new.rest).fault }) (sym (append_assoc fields (field ∷ []) (message_of new.at new.rest).items));
}

-- the end
pub FieldsSoFar-end : (bytes : List ℕ) (base : ℕ) (fields : List WireField) (left : Unread) → FieldsSoFar bytes base fields left → left.rest ≡ [] → message_of base bytes ≡ record { items = fields; fault = None }
FieldsSoFar-end bytes base fields left so_far empty =
    so_far.rest ∙ ap (λ (xs : List ℕ). with_fields fields (message_of left.at xs)) empty ∙ ap (with_fields fields) (message_of-nil left.at)
    ∙ ap (λ (fs : List WireField). record { items = fs; fault = None }) (append-nil fields)

-- a fault
pub FieldsSoFar-fault : (bytes : List ℕ) (base : ℕ) (fields : List WireField) (left : Unread) (fault : WireFault) → FieldsSoFar bytes base fields left → 0 < length left.rest → field_of left.at left.rest ≡ Err fault → message_of base bytes ≡ record { items = fields; fault = Some fault }
FieldsSoFar-fault bytes base fields left fault so_far some e =
    so_far.rest ∙ ap (with_fields fields) (message_of-fault left.at left.rest fault some e)
    ∙ ap (λ (fs : List WireField). record { items = fs; fault = Some fault }) (append-nil fields)

-- the same of the program's fields
pub FieldsSoFar-push : (bytes : List ℕ) (base : ℕ) (fields : List Field) (field : Field) (left : Unread) → FieldsSoFar bytes base (map seen fields ++ seen field ∷ []) left → FieldsSoFar bytes base (map seen (fields ++ field ∷ [])) left
FieldsSoFar-push bytes base fields field left so_far = subst (λ (fs : List WireField). FieldsSoFar bytes base fs left) (sym (map_push seen fields field)) so_far
