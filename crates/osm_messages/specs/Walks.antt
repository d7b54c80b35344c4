-- Messages inside messages, computed: one field after the other, each a step, up to the first fault. It speaks of the
-- format, as Texts, Numbers, Groups, Blocks and Headers do, which stand on it; Means and Faults say the same without
-- steps.
use Rattle.std.specs.Prelude.{ℕ, List, [], ◌∷◌, Option, Some, None, Result, Ok, Err}
use Rattle.wire_read.specs.declared.fault.WireFault.{WireFault}
use Rattle.wire_read.specs.Fields.{Content, Varint, Fixed64, Bytes, Fixed32, WireField, Listed, message_of}
use Rattle.osm_messages.specs.declared.fault.MessageFault.{MessageFault}
use Rattle.osm_messages.specs.declared.fault.MessageFault.TheVariants as faults

-- ---- steps

-- what follows, where there was no fault
infixl 10 ◌>>=◌
abbrev pub ◌>>=◌ : {A B : Type 0} → Result A MessageFault → (A → Result B MessageFault) → Result B MessageFault
(Ok x) >>= f = f x
(Err fault) >>= f = Err fault

-- where the steps lead, one for each item, in their order
abbrev pub steps : {S A : Type 0} → (S → A → Result S MessageFault) → S → List A → Result S MessageFault
steps step s [] = Ok s
steps step s (x ∷ xs) = do
  t ← step s x
  steps step t xs

-- the end, or the fault of the bytes behind the last item
abbrev pub with_end : {S : Type 0} → Option WireFault → S → Result S MessageFault
with_end None s = Ok s
with_end (Some fault) s = Err (faults.Wire fault)

-- the items one after the other; the fault behind the last one counts where no step had one
abbrev pub walk : {S A : Type 0} → (S → A → Result S MessageFault) → S → Listed A → Result S MessageFault
walk step s list = do
  t ← steps step s list.items
  with_end list.fault t

-- the fields of a message, one after the other; the first byte stands at this place
abbrev pub message : {S : Type 0} → (S → WireField → Result S MessageFault) → S → ℕ → List ℕ → Result S MessageFault
message step start at bytes = walk step start (message_of at bytes)

-- ---- what a field holds

-- what the bytes of a field give; a field that holds something else is skipped
abbrev pub with_bytes : {S : Type 0} → S → Content → (List ℕ → Result S MessageFault) → Result S MessageFault
with_bytes s (Varint n) f = Ok s
with_bytes s (Fixed64 n) f = Ok s
with_bytes s (Bytes bytes) f = f bytes
with_bytes s (Fixed32 n) f = Ok s
