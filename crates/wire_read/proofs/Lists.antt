-- Items one after the other: what a step from the front does to the whole list.
use Rattle.std.proofs.Common.{◌≡◌, ℕ, zero, suc, ◌+◌, ◌-◌, ◌<◌, ◌≤◌, List, [], ◌∷◌, length, Some, None, Result, Ok, Err, refl, ap, ◌∙◌, arith}
use Rattle.wire_read.specs.declared.fault.WireFault.{WireFault}
use Rattle.wire_read.specs.Fields.{WireField, varint_at, field_of, Listed, with_item, after_item, listed_within, message_of, packed_of}
use Rattle.wire_read.proofs.Groups.{varint_of-shorter}
use Rattle.wire_read.proofs.FieldParts.{varint_at_ok}
use Rattle.wire_read.proofs.Messages.{field_of-shorter}

-- what is read leaves fewer bytes
abbrev pub Shortens : {A : Type 0} → (ℕ → List ℕ → Result (A × List ℕ) WireFault) → Type 0
Shortens {A = A} read = (at : ℕ) (bytes : List ℕ) (x : A × List ℕ) → read at bytes ≡ Ok x → length x.1 < length bytes

pub varint_at-shortens : Shortens varint_at
varint_at-shortens at bytes x e = varint_of-shorter bytes x.0 x.1 (varint_at_ok at bytes x e)

after_item-same : {A : Type 0} (at count : ℕ) (r : Result (A × List ℕ) WireFault) (f g : ℕ → List ℕ → Listed A) → ((x : A × List ℕ) (next : ℕ) → r ≡ Ok x → f next x.1 ≡ g next x.1) → after_item at count r f ≡ after_item at count r g
after_item-same at count (Ok x) f g same = ap (with_item x.0) (same x (at + (count - length x.1)) refl)
after_item-same at count (Err d) f g same = refl

-- any bound that isn't too small gives the same
listed_within-enough : {A : Type 0} (read : ℕ → List ℕ → Result (A × List ℕ) WireFault) → Shortens read → (most more at : ℕ) (bytes : List ℕ) → length bytes ≤ most → length bytes ≤ more → listed_within read most at bytes ≡ listed_within read more at bytes
listed_within-enough read short most more at [] few fewer = refl
listed_within-enough read short zero more at (b ∷ bytes) few fewer = absurd (omega arith)
listed_within-enough read short (suc most) zero at (b ∷ bytes) few fewer = absurd (omega arith)
listed_within-enough read short (suc most) (suc more) at (b ∷ bytes) few fewer =
    after_item-same at (length (b ∷ bytes)) (read at (b ∷ bytes)) (listed_within read most) (listed_within read more)
    (λ x next e. let less = short at (b ∷ bytes) x e in listed_within-enough read short most more next x.1 (omega (arith, less)) (omega (arith, less)))

abbrev whole : {A : Type 0} → (ℕ → List ℕ → Result (A × List ℕ) WireFault) → ℕ → List ℕ → Listed A
whole read at bytes = listed_within read (length bytes) at bytes

-- an item, and what follows it, which stands at next
whole-item : {A : Type 0} (read : ℕ → List ℕ → Result (A × List ℕ) WireFault) → Shortens read → (at next : ℕ) (bytes : List ℕ) (x : A × List ℕ) → read at bytes ≡ Ok x → next + length x.1 ≡ at + length bytes → whole read at bytes ≡ with_item x.0 (whole read next x.1)
whole-item read short at next [] x e places = absurd (omega (arith, short at [] x e))
whole-item read short at next (b ∷ bytes) x e places =
    let less = short at (b ∷ bytes) x e in
    let place : at + (length (b ∷ bytes) - length x.1) ≡ next = omega (arith, less, places) in
    ap (λ r. after_item at (length (b ∷ bytes)) r (listed_within read (length bytes))) e
    ∙ ap (λ k. with_item x.0 (listed_within read (length bytes) k x.1)) place
    ∙ ap (with_item x.0) (listed_within-enough read short (length bytes) (length x.1) next x.1 (omega (arith, less)) (omega arith))

-- a fault
whole-fault : {A : Type 0} (read : ℕ → List ℕ → Result (A × List ℕ) WireFault) (at : ℕ) (bytes : List ℕ) (d : WireFault) → 0 < length bytes → read at bytes ≡ Err d → whole read at bytes ≡ record { items = []; fault = Some d }
whole-fault read at [] d some e = absurd (omega arith)
whole-fault read at (b ∷ bytes) d some e = ap (λ r. after_item at (length (b ∷ bytes)) r (listed_within read (length bytes))) e

-- ---- the fields of a message

pub message_of-nil : (at : ℕ) → message_of at [] ≡ record { items = []; fault = None }
unfolding message_of
message_of-nil at = refl

pub message_of-field : (at next : ℕ) (bytes : List ℕ) (x : WireField × List ℕ) → field_of at bytes ≡ Ok x → next + length x.1 ≡ at + length bytes → message_of at bytes ≡ with_item x.0 (message_of next x.1)
unfolding message_of
message_of-field at next bytes x e places = whole-item field_of field_of-shorter at next bytes x e places

pub message_of-fault : (at : ℕ) (bytes : List ℕ) (d : WireFault) → 0 < length bytes → field_of at bytes ≡ Err d → message_of at bytes ≡ record { items = []; fault = Some d }
unfolding message_of
message_of-fault at bytes d some e = whole-fault field_of at bytes d some e

-- ---- packed numbers

pub packed_of-nil : (at : ℕ) → packed_of at [] ≡ record { items = []; fault = None }
unfolding packed_of
packed_of-nil at = refl

pub packed_of-number : (at next : ℕ) (bytes : List ℕ) (x : ℕ × List ℕ) → varint_at at bytes ≡ Ok x → next + length x.1 ≡ at + length bytes → packed_of at bytes ≡ with_item x.0 (packed_of next x.1)
unfolding packed_of
packed_of-number at next bytes x e places = whole-item varint_at varint_at-shortens at next bytes x e places

pub packed_of-fault : (at : ℕ) (bytes : List ℕ) (d : WireFault) → 0 < length bytes → varint_at at bytes ≡ Err d → packed_of at bytes ≡ record { items = []; fault = Some d }
unfolding packed_of
packed_of-fault at bytes d some e = whole-fault varint_at at bytes d some e
