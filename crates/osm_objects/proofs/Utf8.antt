-- The string table and its texts.
use Rattle.std.proofs.Common.{◌≡◌, ℕ, true, false, List, Ok, Err, refl}
use Rattle.std.specs.Str.{IsUtf8, is_utf8}
use Rattle.std.proofs.lemmas.Str.{IsUtf8-from_is_utf8, is_utf8-from_IsUtf8}
use Rattle.std.proofs.lemmas.Bool.{false_from_ne_true}
use Rattle.osm_objects.specs.declared.fault.ObjectFault.TheVariants.{BadString}
use Rattle.osm_objects.specs.Tags.{as_text}

pub as_text-good : (at index : ℕ) (bytes : List ℕ) → is_utf8 bytes ≡ true → as_text at index bytes ≡ Ok bytes
as_text-good at index bytes e = rw e refl

pub as_text-is : (at index : ℕ) (bytes : List ℕ) → IsUtf8 bytes → as_text at index bytes ≡ Ok bytes
as_text-is at index bytes utf8 = as_text-good at index bytes (is_utf8-from_IsUtf8 bytes utf8)

pub as_text-not : (at index : ℕ) (bytes : List ℕ) → (IsUtf8 bytes → ⊥) → as_text at index bytes ≡ Err (BadString at index)
as_text-not at index bytes never =
    let not : is_utf8 bytes ≡ false = false_from_ne_true (is_utf8 bytes) (λ t. never (IsUtf8-from_is_utf8 bytes t)) in
    rw not refl
