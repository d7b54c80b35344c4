-- Packed numbers, put behind others one after the other.
use Rattle.std.proofs.Common.{◌≡◌, ℕ, ◌+◌, ◌<◌, List, [], ◌∷◌, ◌++◌, length, Option, Some, None, Ok, Err, sym, ap, ◌∙◌}
use Rattle.wire_read.specs.declared.fault.WireFault.{WireFault}
use Rattle.wire_read.specs.declared.fault.WireFault.TheVariants as wire
use Rattle.wire_read.specs.Varint.{VarintOutcome, Spelled, Short, Long, varint_of, fault_at}
use Rattle.wire_read.specs.Fields.{varint_read}
use Rattle.wire_read.proofs.Lists.{packed_of-nil, packed_of-number, packed_of-fault}
use Rattle.osm_messages.specs.declared.fault.MessageFault.TheVariants as faults
use Rattle.osm_messages.specs.Walks.{walk}
use Rattle.osm_messages.specs.Lists.{with_value, with_values}

-- a number was read and put behind the others
pub values-more : (values items : List ℕ) (at next n : ℕ) (rest behind : List ℕ) → varint_of rest ≡ Spelled n behind → next + length behind ≡ at + length rest → items ≡ values ++ n ∷ []
    → with_values values at rest ≡ with_values items next behind
values-more values items at next n rest behind e places made =
    ap (walk with_value values) (packed_of-number at next rest (n, behind) (ap (varint_read at) e) places)
    ∙ ap (λ xs. with_values xs next behind) (sym made)

held : WireFault → Option WireFault → WireFault
held other None = other
held other (Some fault) = fault

some_is : (f g : WireFault) → Some f ≡ Some g → f ≡ g
unfolding held
some_is f g e = ap (held f) e

fault_read : (at : ℕ) (o : VarintOutcome) (fault : WireFault) → fault_at at o ≡ Some fault → varint_read at o ≡ Err fault
fault_read at (Spelled n rest) fault e = absurd cc
fault_read at Short fault e = ap (λ d. Err d) (some_is (wire.Short at) fault e)
fault_read at Long fault e = ap (λ d. Err d) (some_is (wire.LongVarint at) fault e)

-- no number comes
pub values-fault : (values : List ℕ) (at : ℕ) (rest : List ℕ) (fault : WireFault) → 0 < length rest → fault_at at (varint_of rest) ≡ Some fault → with_values values at rest ≡ Err (faults.Wire fault)
values-fault values at rest fault some e =
    ap (walk with_value values) (packed_of-fault at rest fault some (fault_read at (varint_of rest) fault e))

-- the end
pub values-end : (values : List ℕ) (at : ℕ) (rest : List ℕ) → rest ≡ [] → with_values values at rest ≡ Ok values
values-end values at rest empty =
    ap (λ xs. with_values values at xs) empty ∙ ap (walk with_value values) (packed_of-nil at)
