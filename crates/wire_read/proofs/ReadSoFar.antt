-- A loop over packed numbers: what it has read, and what is left.
use Rattle.std.proofs.Common.{◌≡◌, ℕ, ◌+◌, ◌<◌, List, [], ◌∷◌, ◌++◌, length, false, refl, subst, append_assoc, Some}
use Rattle.std.proofs.lemmas.List.{append-nil}
use Rattle.wire_read.specs.declared.fault.WireFault.{WireFault}
use Rattle.wire_read.specs.Varint.{AreBytes, Spelled, varint_of, fault_at}
use Rattle.wire_read.specs.Numbers.{SpellsNumbers, BreaksNumbers, Unread}
use Rattle.wire_read.proofs.Packed.{SpellsNumbers-cons, BreaksNumbers-cons, BreaksNumbers-nil, AreBytes-spelled}

-- whatever is read of what is left comes behind these numbers
pub record ReadSoFar (bytes : List ℕ) (base : ℕ) (numbers : List ℕ) (left : Unread) : Type 0 where
  pub unbroken : left.broken ≡ false
  pub are : AreBytes left.rest
  pub spells : (more : List ℕ) → SpellsNumbers left.rest more → SpellsNumbers bytes (numbers ++ more)
  pub breaks : (more : List ℕ) (fault : WireFault) → BreaksNumbers left.rest left.at more fault → BreaksNumbers bytes base (numbers ++ more) fault

pub ReadSoFar-nothing : (bytes : List ℕ) (base : ℕ) → AreBytes bytes → ReadSoFar bytes base [] (record { rest = bytes; at = base; broken = false })
ReadSoFar-nothing bytes base are = record { unbroken = refl; are = are; spells = λ more h. h; breaks = λ more fault h. h }

-- one number more
pub ReadSoFar-more : (bytes : List ℕ) (base : ℕ) (numbers : List ℕ) (old new : Unread) (n : ℕ)
    → ReadSoFar bytes base numbers old → varint_of old.rest ≡ Spelled n new.rest → new.at + length new.rest ≡ old.at + length old.rest → new.broken ≡ false
    → ReadSoFar bytes base (numbers ++ n ∷ []) new
ReadSoFar-more bytes base numbers old new n so_far e places unbroken = record {
  unbroken = unbroken;
  are = AreBytes-spelled old.rest new.rest n so_far.are e;
  spells = λ more h. rw append_assoc (so_far.spells (n ∷ more) (SpellsNumbers-cons old.rest new.rest more n so_far.are e h));
  breaks = λ more fault h. rw append_assoc (so_far.breaks (n ∷ more) fault (BreaksNumbers-cons old.rest new.rest more old.at new.at n fault so_far.are e places h));
}

-- the end
pub ReadSoFar-end : (bytes : List ℕ) (base : ℕ) (numbers : List ℕ) (left : Unread) → ReadSoFar bytes base numbers left → left.rest ≡ [] → SpellsNumbers bytes numbers
ReadSoFar-end bytes base numbers left so_far empty =
    subst (λ (xs : List ℕ). SpellsNumbers bytes xs) (append-nil numbers) (so_far.spells [] empty)

-- a fault
pub ReadSoFar-fault : (bytes : List ℕ) (base : ℕ) (numbers : List ℕ) (left : Unread) (fault : WireFault) → ReadSoFar bytes base numbers left → 0 < length left.rest → fault_at left.at (varint_of left.rest) ≡ Some fault → BreaksNumbers bytes base numbers fault
ReadSoFar-fault bytes base numbers left fault so_far some e =
    subst (λ (xs : List ℕ). BreaksNumbers bytes base xs fault) (append-nil numbers) (so_far.breaks [] fault (BreaksNumbers-nil left.rest left.at fault so_far.are some e))
