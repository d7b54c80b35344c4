-- Packed numbers: varints one after the other, to the end of the bytes.
use Rattle.std.specs.Prelude.{◌≡◌, ℕ, ◌+◌, ◌<◌, ◌≤◌, Bool, true, false, if◌then◌else◌, List, [], ◌∷◌, ◌++◌, length, take, Option, Some, None, Result, Ok, Err, ◌⊎◌}
use Rattle.std.specs.Iterator.{Count, at_most}
use Rattle.wire_read.specs.declared.fault.WireFault.{WireFault}
use Rattle.wire_read.specs.declared.fault.WireFault.TheVariants as faults
use Rattle.wire_read.specs.Varint.{IsVarint, AllGoOn, Spelled, varint_of, fault_at}

-- ---- the whole list

-- the bytes spell these numbers, one after the other, and nothing more
abbrev pub SpellsNumbers : List ℕ → List ℕ → Type 0
SpellsNumbers bytes [] = bytes ≡ []
SpellsNumbers bytes (n ∷ numbers) = (front rest : List ℕ) × IsVarint front n × (bytes ≡ front ++ rest) × SpellsNumbers rest numbers

-- The bytes aren't empty and no varint begins them: this is the fault, where they stand at this place.
abbrev pub HasFault : List ℕ → ℕ → WireFault → Type 0
HasFault bytes place (faults.Short at) = (at ≡ place) × (0 < length bytes) × (length bytes < 10) × AllGoOn bytes
HasFault bytes place (faults.LongVarint at) = (at ≡ place) × (10 ≤ length bytes) × AllGoOn (take 10 bytes)
HasFault bytes place (faults.BadWire at kind) = ⊥
HasFault bytes place (faults.BadNumber at) = ⊥

-- the bytes begin with these numbers, and what follows has this fault; the first byte stands at base
abbrev pub BreaksNumbers : List ℕ → ℕ → List ℕ → WireFault → Type 0
BreaksNumbers bytes base [] fault = HasFault bytes base fault
BreaksNumbers bytes base (n ∷ numbers) fault =
    (front rest : List ℕ) × IsVarint front n × (bytes ≡ front ++ rest) × BreaksNumbers rest (base + length front) numbers fault

-- For each list of bytes exactly one of the two holds, of one list of numbers and one fault.
pub record IsReadOneWay (bytes : List ℕ) (base : ℕ) : Type 0 where
  pub some : ((numbers : List ℕ) × SpellsNumbers bytes numbers) ⊎ ((numbers : List ℕ) × (fault : WireFault) × BreaksNumbers bytes base numbers fault)
  pub one_list : (a b : List ℕ) → SpellsNumbers bytes a → SpellsNumbers bytes b → a ≡ b
  pub one_fault : (a b : List ℕ) (f g : WireFault) → BreaksNumbers bytes base a f → BreaksNumbers bytes base b g → (a ≡ b) × (f ≡ g)
  pub not_both : (a b : List ℕ) (f : WireFault) → SpellsNumbers bytes a → BreaksNumbers bytes base b f → ⊥

-- ---- one number after the other

-- what a reader of packed numbers has left: the bytes, the place of the first of them, and whether it has answered a fault
pub record Unread : Type 0 where
  pub rest : List ℕ
  pub at : ℕ
  pub broken : Bool

-- at most a number for each byte is left, and nothing after a fault
abbrev pub numbers_left : Unread → Count
numbers_left s = at_most (if s.broken then 0 else length s.rest)

-- What a call answers, and what it leaves:
-- nothing exactly at the end or after a fault, and the reader stays as it is;
-- a number where its varint comes next, and the reader stands behind it;
-- the fault of the place where no varint comes next, and the reader stays there, broken.
abbrev pub NextNumber : Unread → Option (Result ℕ WireFault) → Unread → Type 0
NextNumber old None new = ((old.rest ≡ []) ⊎ (old.broken ≡ true)) × (new ≡ old)
NextNumber old (Some (Ok n)) new = (old.broken ≡ false) × (varint_of old.rest ≡ Spelled n new.rest) × (new.at + length new.rest ≡ old.at + length old.rest) × (new.broken ≡ false)
NextNumber old (Some (Err fault)) new = (old.broken ≡ false) × (0 < length old.rest) × (fault_at old.at (varint_of old.rest) ≡ Some fault) × (new ≡ record old { broken = true })
