-- The type of a header: a text, or none.
use Rattle.std.proofs.Common.{◌≡◌, ℕ, List, Some, Ok, Err, Bool, true, false, cond, ap, sym, ◌∙◌, refl}
use Rattle.std.specs.Str.{IsUtf8, is_utf8}
use Rattle.std.proofs.lemmas.Str.{IsUtf8-from_is_utf8, is_utf8-from_IsUtf8}
use Rattle.pbf_blobs.specs.declared.fault.PbfFault.TheVariants as faults
use Rattle.pbf_blobs.specs.Messages.{varints_in, last_of}
use Rattle.pbf_blobs.specs.Next.{kind_and_size, header_by, header_of}
use Rattle.pbf_blobs.specs.Walk.{FindsHeader}

-- a type that is a text stays
pub kind_and_size_text : (start : ℕ) (kind : ℕ × List ℕ) (size : ℕ) → IsUtf8 kind.1 → kind_and_size start (Some kind) (Some size) ≡ Ok (kind.1, size)
kind_and_size_text start kind size text = ap (λ b. cond b (Ok (kind.1, size)) (Err (faults.BadType start))) (is_utf8-from_IsUtf8 kind.1 text)

-- one that is none is refused
pub kind_and_size_none : (start : ℕ) (kind : ℕ × List ℕ) (size : ℕ) → (IsUtf8 kind.1 → ⊥) → kind_and_size start (Some kind) (Some size) ≡ Err (faults.BadType start)
kind_and_size_none start kind size none =
    ap (λ b. cond b (Ok (kind.1, size)) (Err (faults.BadType start))) (off (is_utf8 kind.1) (λ e. none (IsUtf8-from_is_utf8 kind.1 e)))
  where
    off : (b : Bool) → (b ≡ true → ⊥) → b ≡ false
    off true never = absurd (never refl)
    off false never = refl

-- what a walk over the header found, where it found both
pub header_of-found : (start : ℕ) (header : List ℕ) (kind : ℕ × List ℕ) (size : ℕ) → FindsHeader start header (Some kind) (Some size) → header_of start header ≡ kind_and_size start (Some kind) (Some size)
unfolding header_of
header_of-found start header kind size finds =
    ap (header_by start) finds.reads
    ∙ ap (λ k. kind_and_size start k (last_of (varints_in 3 finds.fields))) (sym finds.kind_is)
    ∙ ap (kind_and_size start (Some kind)) (sym finds.size_is)
