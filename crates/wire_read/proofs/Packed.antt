-- Each list of bytes is read as one list of packed numbers.
use Rattle.std.proofs.Common.{◌≡◌, ℕ, zero, suc, ◌+◌, ◌<◌, ◌≤◌, List, [], ◌∷◌, ◌++◌, length, drop, refl, sym, ap, ◌∙◌, subst, arith, ◌⊎◌, inl, inr, Some, length-append}
use Rattle.std.proofs.lemmas.List.{drop_at}
use Rattle.std.proofs.lemmas.List.Elements.{All-drop}
use Rattle.wire_read.specs.declared.fault.WireFault.{WireFault}
use Rattle.wire_read.specs.declared.fault.WireFault.TheVariants as faults
use Rattle.wire_read.specs.Varint.{IsGroups, IsVarint, AreBytes, VarintOutcome, Spelled, Short, Long, varint_of, fault_at}
use Rattle.wire_read.specs.Numbers.{SpellsNumbers, BreaksNumbers, HasFault, IsReadOneWay}
use Rattle.wire_read.proofs.Groups.{varint_of-shorter}
use Rattle.wire_read.proofs.Grammar.{outcome_is_by_grammar, has_one_front, varint_of-front, short_both, long_both}

-- ---- a reader's steps, for callers that loop over packed numbers

-- a varint has a byte
pub IsGroups-length : (front : List ℕ) → IsGroups front → 0 < length front
IsGroups-length [] groups = absurd groups
IsGroups-length (b ∷ front) groups = omega arith

-- what follows a front of bytes is bytes
pub AreBytes-rest : (bytes front rest : List ℕ) → AreBytes bytes → bytes ≡ front ++ rest → AreBytes rest
AreBytes-rest bytes front rest are e =
    let last : drop (length front) bytes ≡ rest = ap (drop (length front)) e ∙ drop_at front rest (length front) refl in
    subst (λ (xs : List ℕ). AreBytes xs) last (All-drop (λ b. b < 256) (length front) bytes are)

-- so is what follows a varint
pub AreBytes-spelled : (bytes rest : List ℕ) (n : ℕ) → AreBytes bytes → varint_of bytes ≡ Spelled n rest → AreBytes rest
AreBytes-spelled bytes rest n are e =
    let found = (outcome_is_by_grammar bytes are).found n rest e in
    AreBytes-rest bytes found.0 rest are found.2

-- a number before numbers
pub SpellsNumbers-cons : (bytes rest numbers : List ℕ) (n : ℕ) → AreBytes bytes → varint_of bytes ≡ Spelled n rest → SpellsNumbers rest numbers → SpellsNumbers bytes (n ∷ numbers)
SpellsNumbers-cons bytes rest numbers n are e spells =
    let found = (outcome_is_by_grammar bytes are).found n rest e in
    (found.0, rest, found.1, found.2, spells)

-- a number before numbers and a fault; the bytes after it stand at next
pub BreaksNumbers-cons : (bytes rest numbers : List ℕ) (base next n : ℕ) (fault : WireFault) → AreBytes bytes → varint_of bytes ≡ Spelled n rest → next + length rest ≡ base + length bytes → BreaksNumbers rest next numbers fault → BreaksNumbers bytes base (n ∷ numbers) fault
BreaksNumbers-cons bytes rest numbers base next n fault are e places breaks =
    let found = (outcome_is_by_grammar bytes are).found n rest e in
    let whole : length bytes ≡ length found.0 + length rest = ap length found.2 ∙ length-append found.0 rest in
    let place : next ≡ base + length found.0 = omega arith in
    (found.0, rest, found.1, found.2, subst (λ (k : ℕ). BreaksNumbers rest k numbers fault) place breaks)

-- the fault that is answered is the one that the bytes have
HasFault-from : (bytes : List ℕ) (place : ℕ) (fault : WireFault) (outcome : VarintOutcome) → AreBytes bytes → 0 < length bytes → varint_of bytes ≡ outcome → fault_at place outcome ≡ Some fault → HasFault bytes place fault
HasFault-from bytes place fault (Spelled value rest) are some e is = cc
HasFault-from bytes place fault Short are some e is =
    let cause = (outcome_is_by_grammar bytes are).short.0 e in
    let same : faults.Short place ≡ fault = cc in
    subst (λ (f : WireFault). HasFault bytes place f) same (refl, some, cause.0, cause.1)
HasFault-from bytes place fault Long are some e is =
    let cause = (outcome_is_by_grammar bytes are).long.0 e in
    let same : faults.LongVarint place ≡ fault = cc in
    subst (λ (f : WireFault). HasFault bytes place f) same (refl, cause.0, cause.1)

-- no numbers before a fault
pub BreaksNumbers-nil : (bytes : List ℕ) (base : ℕ) (fault : WireFault) → AreBytes bytes → 0 < length bytes → fault_at base (varint_of bytes) ≡ Some fault → BreaksNumbers bytes base [] fault
BreaksNumbers-nil bytes base fault are some e = HasFault-from bytes base fault (varint_of bytes) are some refl e

-- ---- there is a reading

-- the front of a list of bytes is a varint, or has a fault
abbrev Reading : List ℕ → ℕ → Type 0
Reading bytes base = ((numbers : List ℕ) × SpellsNumbers bytes numbers) ⊎ ((numbers : List ℕ) × (fault : WireFault) × BreaksNumbers bytes base numbers fault)

Reading-cons : (bytes rest : List ℕ) (base n : ℕ) (front : List ℕ) → IsVarint front n → bytes ≡ front ++ rest → Reading rest (base + length front) → Reading bytes base
Reading-cons bytes rest base n front is e (inl r) = inl (n ∷ r.0, (front, rest, is, e, r.1))
Reading-cons bytes rest base n front is e (inr r) = inr (n ∷ r.0, r.1, (front, rest, is, e, r.2))

-- by the outcome at the front, where shorter lists have a reading
reading_by : (bytes : List ℕ) (base : ℕ) (outcome : VarintOutcome) → AreBytes bytes → 0 < length bytes → varint_of bytes ≡ outcome
    → ((rest : List ℕ) (next : ℕ) → AreBytes rest → length rest < length bytes → Reading rest next) → Reading bytes base
reading_by bytes base (Spelled n rest) are some e shorter =
    let found = (outcome_is_by_grammar bytes are).found n rest e in
    Reading-cons bytes rest base n found.0 found.1 found.2 (shorter rest (base + length found.0) (AreBytes-rest bytes found.0 rest are found.2) (varint_of-shorter bytes n rest e))
reading_by bytes base Short are some e shorter =
    inr ([], faults.Short base, HasFault-from bytes base (faults.Short base) Short are some e refl)
reading_by bytes base Long are some e shorter =
    inr ([], faults.LongVarint base, HasFault-from bytes base (faults.LongVarint base) Long are some e refl)

-- by induction on the number of bytes
reading_within : (most : ℕ) (bytes : List ℕ) (base : ℕ) → AreBytes bytes → length bytes ≤ most → Reading bytes base
reading_within most [] base are few = inl ([], refl)
reading_within zero (b ∷ bytes) base are few = absurd (omega arith)
reading_within (suc most) (b ∷ bytes) base are few =
    reading_by (b ∷ bytes) base (varint_of (b ∷ bytes)) are (omega arith) refl
    (λ rest next are_rest fewer. reading_within most rest next are_rest (omega arith))

-- ---- there is one

-- what begins with a varint isn't empty
front_not_empty : (bytes front rest : List ℕ) (n : ℕ) → IsVarint front n → bytes ≡ front ++ rest → bytes ≡ [] → ⊥
front_not_empty bytes front rest n is e empty =
    omega (arith, IsGroups-length front is.groups, length-append front rest, ap length e, ap length empty)

-- what begins with a varint has no fault there
front_no_fault : (bytes front rest : List ℕ) (n base : ℕ) (fault : WireFault) → IsVarint front n → bytes ≡ front ++ rest → HasFault bytes base fault → ⊥
front_no_fault bytes front rest n base (faults.Short at) is e has =
    let spelled : varint_of bytes ≡ Spelled n rest = ap varint_of e ∙ varint_of-front front rest n is in
    let short : varint_of bytes ≡ Short = (short_both bytes).1 (has.2, has.3) in
    cc
front_no_fault bytes front rest n base (faults.LongVarint at) is e has =
    let spelled : varint_of bytes ≡ Spelled n rest = ap varint_of e ∙ varint_of-front front rest n is in
    let long : varint_of bytes ≡ Long = (long_both bytes).1 (has.1, has.2) in
    cc
front_no_fault bytes front rest n base (faults.BadWire at kind) is e has = absurd has
front_no_fault bytes front rest n base (faults.BadNumber at) is e has = absurd has

-- what is empty has no fault
nil_no_fault : (bytes : List ℕ) (base : ℕ) (fault : WireFault) → bytes ≡ [] → HasFault bytes base fault → ⊥
nil_no_fault bytes base (faults.Short at) empty has = omega (arith, has.1, ap length empty)
nil_no_fault bytes base (faults.LongVarint at) empty has = omega (arith, has.1, ap length empty)
nil_no_fault bytes base (faults.BadWire at kind) empty has = absurd has
nil_no_fault bytes base (faults.BadNumber at) empty has = absurd has

one_fault_here : (bytes : List ℕ) (base : ℕ) (f g : WireFault) → HasFault bytes base f → HasFault bytes base g → f ≡ g
one_fault_here bytes base (faults.Short a) (faults.Short b) p q = ap faults.Short (p.0 ∙ sym q.0)
one_fault_here bytes base (faults.LongVarint a) (faults.LongVarint b) p q = ap faults.LongVarint (p.0 ∙ sym q.0)
one_fault_here bytes base (faults.Short a) (faults.LongVarint b) p q = absurd (omega (arith, p.2, q.1))
one_fault_here bytes base (faults.LongVarint a) (faults.Short b) p q = absurd (omega (arith, p.1, q.2))
one_fault_here bytes base (faults.BadWire a k) g p q = absurd p
one_fault_here bytes base (faults.BadNumber a) g p q = absurd p
one_fault_here bytes base f (faults.BadWire a k) p q = absurd q
one_fault_here bytes base f (faults.BadNumber a) p q = absurd q

one_list : (bytes a b : List ℕ) → SpellsNumbers bytes a → SpellsNumbers bytes b → a ≡ b
one_list bytes [] [] p q = refl
one_list bytes [] (n ∷ b) p q = absurd (front_not_empty bytes q.0 q.1 n q.2 q.3 p)
one_list bytes (m ∷ a) [] p q = absurd (front_not_empty bytes p.0 p.1 m p.2 p.3 q)
one_list bytes (m ∷ a) (n ∷ b) p q =
    let same = has_one_front p.0 q.0 p.1 q.1 m n p.2 q.2 (sym p.3 ∙ q.3) in
    let others : a ≡ b = one_list q.1 a b (subst (λ (xs : List ℕ). SpellsNumbers xs a) same.2 p.4) q.4 in
    ap (λ k. k ∷ a) same.1 ∙ ap (λ xs. n ∷ xs) others

one_fault : (bytes : List ℕ) (base : ℕ) (a b : List ℕ) (f g : WireFault) → BreaksNumbers bytes base a f → BreaksNumbers bytes base b g → (a ≡ b) × (f ≡ g)
one_fault bytes base [] [] f g p q = (refl, one_fault_here bytes base f g p q)
one_fault bytes base [] (n ∷ b) f g p q = absurd (front_no_fault bytes q.0 q.1 n base f q.2 q.3 p)
one_fault bytes base (m ∷ a) [] f g p q = absurd (front_no_fault bytes p.0 p.1 m base g p.2 p.3 q)
one_fault bytes base (m ∷ a) (n ∷ b) f g p q =
    let same = has_one_front p.0 q.0 p.1 q.1 m n p.2 q.2 (sym p.3 ∙ q.3) in
    let at_rest : BreaksNumbers q.1 (base + length p.0) a f = subst (λ (xs : List ℕ). BreaksNumbers xs (base + length p.0) a f) same.2 p.4 in
    let at_place : BreaksNumbers q.1 (base + length q.0) a f = subst (λ (xs : List ℕ). BreaksNumbers q.1 (base + length xs) a f) same.0 at_rest in
    let others = one_fault q.1 (base + length q.0) a b f g at_place q.4 in
    (ap (λ k. k ∷ a) same.1 ∙ ap (λ xs. n ∷ xs) others.0, others.1)

not_both : (bytes : List ℕ) (base : ℕ) (a b : List ℕ) (f : WireFault) → SpellsNumbers bytes a → BreaksNumbers bytes base b f → ⊥
not_both bytes base [] [] f p q = nil_no_fault bytes base f p q
not_both bytes base [] (n ∷ b) f p q = front_not_empty bytes q.0 q.1 n q.2 q.3 p
not_both bytes base (m ∷ a) [] f p q = front_no_fault bytes p.0 p.1 m base f p.2 p.3 q
not_both bytes base (m ∷ a) (n ∷ b) f p q =
    let same = has_one_front p.0 q.0 p.1 q.1 m n p.2 q.2 (sym p.3 ∙ q.3) in
    not_both q.1 (base + length q.0) a b f (subst (λ (xs : List ℕ). SpellsNumbers xs a) same.2 p.4) q.4

pub is_read_one_way : (bytes : List ℕ) (base : ℕ) → AreBytes bytes → IsReadOneWay bytes base
is_read_one_way bytes base are = record {
  some = reading_within (length bytes) bytes base are (omega arith);
  one_list = one_list bytes;
  one_fault = one_fault bytes base;
  not_both = not_both bytes base;
}
