-- Packed numbers, byte by byte and number by number.
use Rattle.std.proofs.Common.{◌≡◌, ℕ, zero, suc, ◌+◌, ◌-◌, ◌*◌, ◌/◌, ◌%◌, ◌<◌, ◌≤◌, ltb, eqb, cond, true, false, List, [], ◌∷◌, length, get_or, drop, Option, Some, None, refl, sym, ap, ◌∙◌, subst, arith, inl, inr, add-one, drop-cons}
use Rattle.std.proofs.lemmas.List.{drop_all}
use Rattle.std.proofs.lemmas.Bool.{cases_Bool, cases_lt, ltb-true, lt-ltb, eqb-true, eq-eqb}
use Rattle.wire_read.specs.declared.fault.WireFault.{WireFault}
use Rattle.wire_read.specs.declared.fault.WireFault.TheVariants as wire
use Rattle.wire_read.specs.Varint.{VarintOutcome, Spelled, Short, Long, after_group, groups_within, modulo_2_64, varint_of}
use Rattle.wire_read.specs.Fields.{varint_read, packed_of}
use Rattle.osm_messages.specs.Endings.{least_at, EndsOften, EndsWhole}
use Rattle.wire_read.proofs.Groups.{varint_of-shorter}
use Rattle.wire_read.proofs.Lists.{packed_of-nil, packed_of-number, packed_of-fault}

-- ---- the first fault, byte by byte

-- The varint at hand begins at this place, and so many of its bytes stand before these.
abbrev pub fault_from : ℕ → ℕ → List ℕ → Option WireFault
fault_from start going [] = cond (ltb 0 going) (Some (wire.Short start)) None
fault_from start going (b ∷ bytes) =
    cond (ltb b 128) (fault_from (start + going + 1) 0 bytes)
    (cond (eqb (going + 1) 10) (Some (wire.LongVarint start)) (fault_from start (going + 1) bytes))

abbrev fault_in : ℕ → List ℕ → Option WireFault
fault_in at bytes = (packed_of at bytes).fault

-- what follows a varint that begins at start; the bytes end at stop
abbrev behind : ℕ → ℕ → VarintOutcome → Option WireFault
behind start stop (Spelled n rest) = fault_in (stop - length rest) rest
behind start stop Short = Some (wire.Short start)
behind start stop Long = Some (wire.LongVarint start)

behind-group : (start stop low : ℕ) (o : VarintOutcome) → behind start stop (after_group low o) ≡ behind start stop o
behind-group start stop low (Spelled n rest) = refl
behind-group start stop low Short = refl
behind-group start stop low Long = refl

behind-modulo : (start stop : ℕ) (o : VarintOutcome) → behind start stop (modulo_2_64 o) ≡ behind start stop o
behind-modulo start stop (Spelled n rest) = refl
behind-modulo start stop Short = refl
behind-modulo start stop Long = refl

-- bytes that aren't empty begin with a varint or with a fault
fault_in-first : (at : ℕ) (bytes : List ℕ) (o : VarintOutcome) → 0 < length bytes → varint_of bytes ≡ o → fault_in at bytes ≡ behind at (at + length bytes) o
fault_in-first at bytes (Spelled n rest) some e =
    let less = varint_of-shorter bytes n rest e in
    ap (λ l. l.fault) (packed_of-number at (at + length bytes - length rest) bytes (n, rest) (ap (varint_read at) e) (omega (arith, less)))
fault_in-first at bytes Short some e = ap (λ l. l.fault) (packed_of-fault at bytes (wire.Short at) some (ap (varint_read at) e))
fault_in-first at bytes Long some e = ap (λ l. l.fault) (packed_of-fault at bytes (wire.LongVarint at) some (ap (varint_read at) e))

-- the fault of fewer bytes is found byte by byte
abbrev Below : ℕ → Type 0
Below limit = (at : ℕ) (rest : List ℕ) → length rest < limit → fault_in at rest ≡ fault_from at 0 rest

inside-last : (limit room start going b : ℕ) (bytes : List ℕ) → Below limit → length (b ∷ bytes) ≤ limit → ltb b 128 ≡ true
    → fault_from start going (b ∷ bytes) ≡ behind start (start + going + length (b ∷ bytes)) (groups_within (suc room) (b ∷ bytes))
inside-last limit room start going b bytes below few last =
    let here : fault_in (start + going + 1) bytes ≡ fault_from (start + going + 1) 0 bytes = below (start + going + 1) bytes (omega arith) in
    rw last (sym here ∙ ap (λ k. fault_in k bytes) (omega arith))

not_ten : (going : ℕ) → going < 9 → eqb (going + 1) 10 ≡ false
not_ten going few =
    elim (cases_Bool (eqb (going + 1) 10)) [ inl ten ↦ absurd (omega (arith, eqb-true (going + 1) 10 ten)) | inr other ↦ other ]

inside : (limit room start going : ℕ) (bytes : List ℕ) → Below limit → going + suc room ≡ 10 → length bytes ≤ limit → 0 < going + length bytes
    → fault_from start going bytes ≡ behind start (start + going + length bytes) (groups_within (suc room) bytes)
inside limit room start going [] below rooms few some =
    let more : ltb 0 going ≡ true = lt-ltb 0 going (omega arith) in
    rw more refl
inside limit zero start going (b ∷ bytes) below rooms few some =
    let ten : eqb (going + 1) 10 ≡ true = eq-eqb (going + 1) 10 (omega arith) in
    elim (cases_Bool (ltb b 128)) [
      | inl last ↦ inside-last limit zero start going b bytes below few last
      | inr on ↦ rw (on, ten) refl
    ]
inside limit (suc room) start going (b ∷ bytes) below rooms few some =
    let below_ten = not_ten going (omega arith) in
    let next = inside limit room start (going + 1) bytes below (omega arith) (omega arith) (omega arith) in
    let same : start + (going + 1) + length bytes ≡ start + going + length (b ∷ bytes) = omega arith in
    elim (cases_Bool (ltb b 128)) [
      | inl last ↦ inside-last limit (suc room) start going b bytes below few last
      | inr on ↦
          rw (on, below_ten)
          (next
          ∙ ap (λ k. behind start k (groups_within (suc room) bytes)) same
          ∙ sym (behind-group start (start + going + length (b ∷ bytes)) (b % 128) (groups_within (suc room) bytes)))
    ]

varint_of-groups : (bytes : List ℕ) → varint_of bytes ≡ modulo_2_64 (groups_within 10 bytes)
unfolding varint_of
varint_of-groups bytes = refl

below_all : (limit : ℕ) → Below limit
below_all zero at rest few = absurd (omega arith)
below_all (suc limit) at [] few = ap (λ l. l.fault) (packed_of-nil at)
below_all (suc limit) at (b ∷ bytes) few =
    let all = b ∷ bytes in
    fault_in-first at all (modulo_2_64 (groups_within 10 all)) (omega arith) (varint_of-groups all)
    ∙ behind-modulo at (at + length all) (groups_within 10 all)
    ∙ ap (λ k. behind at k (groups_within 10 all)) (omega arith)
    ∙ sym (inside limit 9 at 0 all (below_all limit) refl (omega arith) (omega arith))

-- the first fault of packed numbers is found byte by byte
pub fault-from : (at : ℕ) (bytes : List ℕ) → fault_in at bytes ≡ fault_from at 0 bytes
fault-from at bytes = below_all (length bytes + 1) at bytes (omega arith)

-- ---- the loop over the bytes

fault_from-at : (start going i : ℕ) (bytes : List ℕ) → i < length bytes → fault_from start going (drop i bytes) ≡ fault_from start going (get_or bytes i 0 ∷ drop (i + 1) bytes)
fault_from-at start going i bytes within =
    let first : drop i bytes ≡ get_or bytes i 0 ∷ drop (i + 1) bytes = rw (add-one, drop-cons bytes i 0) refl in
    ap (fault_from start going) first

pub step-last : (at going i : ℕ) (bytes : List ℕ) → i < length bytes → going ≤ i → get_or bytes i 0 < 128
    → fault_from (at + i - going) going (drop i bytes) ≡ fault_from (at + (i + 1) - 0) 0 (drop (i + 1) bytes)
step-last at going i bytes within before small =
    let last = lt-ltb (get_or bytes i 0) 128 small in
    fault_from-at (at + i - going) going i bytes within
    ∙ rw last (ap (λ k. fault_from k 0 (drop (i + 1) bytes)) (omega arith))

not_small : (b : ℕ) → 128 ≤ b → ltb b 128 ≡ false
not_small b great =
    elim (cases_Bool (ltb b 128)) [ inl small ↦ absurd (omega (arith, ltb-true b 128 small)) | inr other ↦ other ]

pub step-on : (at going i : ℕ) (bytes : List ℕ) → i < length bytes → going ≤ i → 128 ≤ get_or bytes i 0 → going < 9
    → fault_from (at + i - going) going (drop i bytes) ≡ fault_from (at + (i + 1) - (going + 1)) (going + 1) (drop (i + 1) bytes)
step-on at going i bytes within before great few =
    let on = not_small (get_or bytes i 0) great in
    let below_ten = not_ten going few in
    fault_from-at (at + i - going) going i bytes within
    ∙ rw (on, below_ten) (ap (λ k. fault_from k (going + 1) (drop (i + 1) bytes)) (omega arith))

pub step-long : (at going i : ℕ) (bytes : List ℕ) → i < length bytes → going ≤ i → 128 ≤ get_or bytes i 0 → going ≡ 9
    → fault_from (at + i - going) going (drop i bytes) ≡ Some (wire.LongVarint (at + (i + 1 - 10)))
step-long at going i bytes within before great nine =
    let on = not_small (get_or bytes i 0) great in
    let ten : eqb (going + 1) 10 ≡ true = eq-eqb (going + 1) 10 (omega arith) in
    fault_from-at (at + i - going) going i bytes within
    ∙ rw (on, ten) (ap (λ k. Some (wire.LongVarint k)) (omega arith))

pub step-short : (at going i : ℕ) (bytes : List ℕ) → i ≡ length bytes → going ≤ i → 0 < going
    → fault_from (at + i - going) going (drop i bytes) ≡ Some (wire.Short (at + (length bytes - going)))
step-short at going i bytes end before some =
    let more = lt-ltb 0 going some in
    ap (fault_from (at + i - going) going) (drop_all i bytes (omega arith)) ∙ rw more (ap (λ k. Some (wire.Short k)) (omega arith))

pub step-end : (at going i : ℕ) (bytes : List ℕ) → i ≡ length bytes → going ≡ 0 → fault_from (at + i - going) going (drop i bytes) ≡ None
step-end at going i bytes end none =
    ap (fault_from (at + i - going) going) (drop_all i bytes (omega arith)) ∙ ap (λ k. fault_from (at + i - k) k []) none

-- ---- bytes in which varints end often

-- so many bytes before this place all go on
abbrev AllHigh : List ℕ → ℕ → ℕ → Type 0
AllHigh bytes i going = (j : ℕ) → i ≤ j + going → j < i → 128 ≤ get_or bytes j 0

group_high : (bytes : List ℕ) (i : ℕ) → 128 ≤ get_or bytes i 0 → 128 ≤ get_or bytes (i + 1) 0 → 128 ≤ get_or bytes (i + 2) 0 → 128 ≤ get_or bytes (i + 3) 0 → 128 ≤ get_or bytes (i + 4) 0 → 128 ≤ least_at bytes i
group_high bytes i a b c d e = omega arith

-- ten bytes that all go on hold a whole group of five
no_ten : (bytes : List ℕ) (i : ℕ) → EndsOften bytes → i ≤ length bytes → 10 ≤ i → AllHigh bytes i 10 → ⊥
no_ten bytes i often within ten high =
    let k = (i - 6) / 5 in
    let small = often.each k (omega arith) in
    let great = group_high bytes (5 * k) (high (5 * k) (omega arith) (omega arith)) (high (5 * k + 1) (omega arith) (omega arith)) (high (5 * k + 2) (omega arith) (omega arith)) (high (5 * k + 3) (omega arith) (omega arith)) (high (5 * k + 4) (omega arith) (omega arith)) in
    absurd (omega (arith, small, great))

-- one byte more goes on
more_high : (bytes : List ℕ) (i going : ℕ) → AllHigh bytes i going → 128 ≤ get_or bytes i 0 → AllHigh bytes (i + 1) (going + 1)
more_high bytes i going high this j from below =
    elim (cases_lt j i) [
      | inl before ↦ high j (omega arith) before
      | inr after ↦ subst (λ (k : ℕ). 128 ≤ get_or bytes k 0) (omega (arith, after)) this
    ]

none_going : (bytes : List ℕ) (i going : ℕ) → EndsWhole bytes → i ≡ length bytes → AllHigh bytes i going → going ≤ i → ltb 0 going ≡ false
none_going bytes i going whole end high before =
    elim (cases_Bool (ltb 0 going)) [
      | inl some ↦
          let more = ltb-true 0 going some in
          let great = high (i - 1) (omega (arith, more)) (omega (arith, more)) in
          let small = whole.last (i - 1) (omega (arith, more)) in
          absurd (omega (arith, great, small))
      | inr other ↦ other
    ]

few_going : (bytes : List ℕ) (i going : ℕ) → EndsOften bytes → i < length bytes → AllHigh bytes i going → going ≤ i → going ≤ 9 → 128 ≤ get_or bytes i 0 → going < 9
few_going bytes i going often within high before few this =
    elim (cases_lt going 9) [
      | inl less ↦ less
      | inr nine ↦
          let ten : going + 1 ≡ 10 = omega (arith, nine) in
          absurd (no_ten bytes (i + 1) often (omega arith) (omega arith) (subst (λ (k : ℕ). AllHigh bytes (i + 1) k) ten (more_high bytes i going high this)))
    ]

none_from : (count start going i : ℕ) (bytes : List ℕ) → EndsOften bytes → EndsWhole bytes → i + count ≡ length bytes → AllHigh bytes i going → going ≤ i → going ≤ 9
    → fault_from start going (drop i bytes) ≡ None
none_from zero start going i bytes often whole places high before few =
    let none = none_going bytes i going whole (omega arith) high before in
    ap (fault_from start going) (drop_all i bytes (omega arith)) ∙ rw none refl
none_from (suc count) start going i bytes often whole places high before few =
    fault_from-at start going i bytes (omega arith)
    ∙ elim (cases_lt (get_or bytes i 0) 128) [
      | inl small ↦
          let last = lt-ltb (get_or bytes i 0) 128 small in
          rw last (none_from count (start + going + 1) 0 (i + 1) bytes often whole (omega arith) (λ j from below. absurd (omega arith)) (omega arith) (omega arith))
      | inr great ↦
          let on = not_small (get_or bytes i 0) great in
          let less = few_going bytes i going often (omega arith) high before few great in
          let below_ten = not_ten going less in
          rw (on, below_ten) (none_from count start (going + 1) (i + 1) bytes often whole (omega arith) (more_high bytes i going high great) (omega arith) (omega (arith, less)))
    ]

-- packed numbers that end often and end whole have no fault
pub no_fault : (at : ℕ) (bytes : List ℕ) → EndsWhole bytes → EndsOften bytes → (packed_of at bytes).fault ≡ None
no_fault at bytes whole often =
    fault-from at bytes ∙ none_from (length bytes) at 0 0 bytes often whole (omega arith) (λ j from below. absurd (omega arith)) (omega arith) (omega arith)
