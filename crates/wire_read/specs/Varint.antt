-- Varints, the numbers of the protocol buffer wire format (protobuf.dev, "Encoding", "Base 128 Varints").
use Rattle.std.specs.Prelude.{◌≡◌, ℕ, zero, suc, ◌+◌, ◌*◌, ◌%◌, ◌^◌, ◌<◌, ◌≤◌, nat_lt, if◌then◌else◌, ◌↔◌, List, [], ◌∷◌, ◌++◌, length, take, Option, Some, None, All}
use Rattle.wire_read.specs.declared.fault.WireFault.{WireFault}
use Rattle.wire_read.specs.declared.fault.WireFault.TheVariants as faults

-- ---- the grammar

-- each byte but the last has its top bit set
abbrev pub IsGroups : List ℕ → Type 0
IsGroups [] = ⊥
IsGroups (b ∷ []) = b < 128
IsGroups (b ∷ c ∷ bytes) = (128 ≤ b) × (b < 256) × IsGroups (c ∷ bytes)

-- the number of these groups: each byte gives its low seven bits, and the lowest come first
abbrev pub number_of : List ℕ → ℕ
number_of [] = 0
number_of (b ∷ bytes) = b % 128 + 128 * number_of bytes

-- The bytes spell the value: at most ten of them, and it counts modulo 2^64. Groups of zero may stand at the
-- end, so a value has more than one spelling.
pub record IsVarint (bytes : List ℕ) (value : ℕ) : Type 0 where
  pub groups : IsGroups bytes
  pub few : length bytes ≤ 10
  pub modulo : value ≡ number_of bytes % 2 ^ 64

-- numbers that are bytes
abbrev pub AreBytes : List ℕ → Type 0
AreBytes bytes = All (λ b. b < 256) bytes

-- bytes with their top bit set: after each of them a varint goes on
abbrev pub AllGoOn : List ℕ → Type 0
AllGoOn bytes = All (λ b. 128 ≤ b) bytes

-- ---- what a list of bytes begins with

-- a varint's value and the bytes after it; or the bytes end inside; or ten bytes all have their top bit set
pub data VarintOutcome : Type 0 where
  Spelled : ℕ → List ℕ → VarintOutcome
  Short : VarintOutcome
  Long : VarintOutcome

-- a group before what the bytes after it give
abbrev pub after_group : ℕ → VarintOutcome → VarintOutcome
after_group low (Spelled high rest) = Spelled (low + 128 * high) rest
after_group low Short = Short
after_group low Long = Long

-- the groups at the front, where there may be so many of them
abbrev pub groups_within : ℕ → List ℕ → VarintOutcome
groups_within zero bytes = Long
groups_within (suc room) [] = Short
groups_within (suc room) (b ∷ bytes) = if nat_lt b 128 then Spelled b bytes else after_group (b % 128) (groups_within room bytes)

abbrev pub modulo_2_64 : VarintOutcome → VarintOutcome
modulo_2_64 (Spelled number rest) = Spelled (number % 2 ^ 64) rest
modulo_2_64 Short = Short
modulo_2_64 Long = Long

-- what the bytes begin with
unfoldable pub varint_of : List ℕ → VarintOutcome
varint_of bytes = modulo_2_64 (groups_within 10 bytes)

-- the fault that is answered at a place where no varint stands
abbrev pub fault_at : ℕ → VarintOutcome → Option WireFault
fault_at place (Spelled value rest) = None
fault_at place Short = Some (faults.Short place)
fault_at place Long = Some (faults.LongVarint place)

-- ---- what holds of them, for every list of bytes

-- The outcome is by the grammar: a varint is found exactly where the bytes begin with a spelling of it.
pub record OutcomeIsByGrammar (bytes : List ℕ) : Type 0 where
  pub found : (value : ℕ) (rest : List ℕ) → varint_of bytes ≡ Spelled value rest → (front : List ℕ) × IsVarint front value × (bytes ≡ front ++ rest)
  pub spelled : (front rest : List ℕ) (value : ℕ) → IsVarint front value → bytes ≡ front ++ rest → varint_of bytes ≡ Spelled value rest
  pub short : varint_of bytes ≡ Short ↔ ((length bytes < 10) × AllGoOn bytes)
  pub long : varint_of bytes ≡ Long ↔ ((10 ≤ length bytes) × AllGoOn (take 10 bytes))

-- No varint begins another: its bytes, its value and what follows are unique.
abbrev pub HasOneFront : Type 0
HasOneFront = (a b x y : List ℕ) (m n : ℕ) → IsVarint a m → IsVarint b n → a ++ x ≡ b ++ y → (a ≡ b) × (m ≡ n) × (x ≡ y)
