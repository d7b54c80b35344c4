-- Reading a varint from the front, group by group.
use Rattle.std.proofs.Common.{◌≡◌, ℕ, zero, suc, ◌+◌, ◌*◌, ◌%◌, ◌^◌, ◌<◌, ◌≤◌, ltb, cond, false, List, [], ◌∷◌, length, refl, sym, ap, ◌∙◌, subst, inl, inr, arith}
use Rattle.std.proofs.lemmas.Bool.{lt-ltb, cases_lt}
use Rattle.std.proofs.lemmas.Bool.Decides.{nat_tests}
use Rattle.std.proofs.Math.Nat.{add-mod-mod, mod-add-mod, mul_comm}
use Rattle.wire_read.specs.Varint.{VarintOutcome, Spelled, Short, Long, after_group, groups_within, modulo_2_64, varint_of}

-- the whole outcome, where groups of the value low were read, the next counts scale, and this is what follows gives
abbrev pub completed : ℕ → ℕ → VarintOutcome → VarintOutcome
completed low scale (Spelled high rest) = Spelled ((low + scale * high) % 2 ^ 64) rest
completed low scale Short = Short
completed low scale Long = Long

-- nothing read yet
pub completed-nothing : (outcome : VarintOutcome) → modulo_2_64 outcome ≡ completed 0 1 outcome
completed-nothing (Spelled high rest) = ap (λ n. Spelled (n % 2 ^ 64) rest) (omega arith)
completed-nothing Short = refl
completed-nothing Long = refl

pub varint_of-completed : (bytes : List ℕ) → varint_of bytes ≡ completed 0 1 (groups_within 10 bytes)
unfolding varint_of
varint_of-completed bytes = completed-nothing (groups_within 10 bytes)

-- a byte below 128 is the last
pub groups_within-last : (room b : ℕ) (bytes : List ℕ) → b < 128 → groups_within (suc room) (b ∷ bytes) ≡ Spelled b bytes
groups_within-last room b bytes last = ap (λ t. cond t (Spelled b bytes) (after_group (b % 128) (groups_within room bytes))) (lt-ltb b 128 last)

-- one from 128 on goes before what follows
pub groups_within-on : (room b : ℕ) (bytes : List ℕ) → 128 ≤ b → groups_within (suc room) (b ∷ bytes) ≡ after_group (b % 128) (groups_within room bytes)
groups_within-on room b bytes on =
    let no : ltb b 128 ≡ false = grind (arith, nat_tests) in
    ap (λ t. cond t (Spelled b bytes) (after_group (b % 128) (groups_within room bytes))) no

-- one more group is read
pub completed-after_group : (low scale group : ℕ) (outcome : VarintOutcome) → completed low scale (after_group group outcome) ≡ completed ((low + group * scale % 2 ^ 64) % 2 ^ 64) (scale * 128) outcome
completed-after_group low scale group (Spelled high rest) =
    let inner : (low + group * scale % 2 ^ 64) % 2 ^ 64 ≡ (low + group * scale) % 2 ^ 64 = add-mod-mod low (group * scale) (2 ^ 64) in
    let outer : ((low + group * scale) % 2 ^ 64 + scale * 128 * high) % 2 ^ 64 ≡ (low + group * scale + scale * 128 * high) % 2 ^ 64 = mod-add-mod (low + group * scale) (2 ^ 64) (scale * 128 * high) in
    let same : low + scale * (group + 128 * high) ≡ low + group * scale + scale * 128 * high = grind arith in
    ap (λ n. Spelled n rest) (ap (λ n. n % 2 ^ 64) same ∙ sym outer ∙ sym (ap (λ n. (n + scale * 128 * high) % 2 ^ 64) inner))
completed-after_group low scale group Short = refl
completed-after_group low scale group Long = refl

-- ---- a step of the loop: the bytes left begin with first, and low is its group at the scale

-- the step at the last byte
pub step_last : (whole rest others : List ℕ) (value scale room r first low : ℕ)
    → varint_of whole ≡ completed value scale (groups_within room rest) → room ≡ suc r → rest ≡ first ∷ others → first < 128 → low ≡ first % 128
    → varint_of whole ≡ Spelled ((value + low * scale % 2 ^ 64) % 2 ^ 64) others
step_last whole rest others value scale room r first low before room_is rest_is last low_is =
    let now : groups_within room rest ≡ Spelled first others = ap (λ k. groups_within k rest) room_is ∙ ap (groups_within (suc r)) rest_is ∙ groups_within-last r first others last in
    let same : low ≡ first = omega arith in
    before ∙ ap (completed value scale) now
    ∙ ap (λ n. Spelled n others) (
    ap (λ n. (value + n) % 2 ^ 64) (mul_comm scale first)
    ∙ sym (add-mod-mod value (first * scale) (2 ^ 64))
    ∙ ap (λ n. (value + n * scale % 2 ^ 64) % 2 ^ 64) (sym same))

-- the step at a byte after which the varint goes on
pub step_on : (whole rest others : List ℕ) (value scale room r first low next : ℕ)
    → varint_of whole ≡ completed value scale (groups_within room rest) → room ≡ suc r → rest ≡ first ∷ others → 128 ≤ first → low ≡ first % 128 → next ≡ scale * 128
    → varint_of whole ≡ completed ((value + low * scale % 2 ^ 64) % 2 ^ 64) next (groups_within r others)
step_on whole rest others value scale room r first low next before room_is rest_is on low_is next_is =
    let now : groups_within room rest ≡ after_group (first % 128) (groups_within r others) = ap (λ k. groups_within k rest) room_is ∙ ap (groups_within (suc r)) rest_is ∙ groups_within-on r first others on in
    before ∙ ap (completed value scale) now
    ∙ completed-after_group value scale (first % 128) (groups_within r others)
    ∙ ap (λ n. completed ((value + n * scale % 2 ^ 64) % 2 ^ 64) (scale * 128) (groups_within r others)) (sym low_is)
    ∙ ap (λ n. completed ((value + low * scale % 2 ^ 64) % 2 ^ 64) n (groups_within r others)) (sym next_is)

-- ---- a varint has a byte

modulo-shorter : (outcome : VarintOutcome) (value : ℕ) (rest : List ℕ) (n : ℕ) → ((number : ℕ) (rest : List ℕ) → outcome ≡ Spelled number rest → length rest < n) → modulo_2_64 outcome ≡ Spelled value rest → length rest < n
modulo-shorter (Spelled number rest') value rest n inner e =
    let rest_same : rest' ≡ rest = cc in
    subst (λ (xs : List ℕ). length xs < n) rest_same (inner number rest' refl)
modulo-shorter Short value rest n inner e = cc
modulo-shorter Long value rest n inner e = cc

after_group-shorter : (low : ℕ) (outcome : VarintOutcome) (number : ℕ) (rest : List ℕ) (n : ℕ) → ((high : ℕ) (rest : List ℕ) → outcome ≡ Spelled high rest → length rest < n) → after_group low outcome ≡ Spelled number rest → length rest < n
after_group-shorter low (Spelled high rest') number rest n inner e =
    let rest_same : rest' ≡ rest = cc in
    subst (λ (xs : List ℕ). length xs < n) rest_same (inner high rest' refl)
after_group-shorter low Short number rest n inner e = cc
after_group-shorter low Long number rest n inner e = cc

pub groups_within-shorter : (room : ℕ) (bytes : List ℕ) (number : ℕ) (rest : List ℕ) → groups_within room bytes ≡ Spelled number rest → length rest < length bytes
groups_within-shorter zero bytes number rest e = cc
groups_within-shorter (suc room) [] number rest e = cc
groups_within-shorter (suc room) (b ∷ bytes) number rest e =
    elim (cases_lt b 128) [
      | inl last ↦
          let found : Spelled b bytes ≡ Spelled number rest = sym (groups_within-last room b bytes last) ∙ e in
          let rest_same : bytes ≡ rest = cc in
          omega (arith, ap length rest_same)
      | inr on ↦
          let tail = after_group-shorter (b % 128) (groups_within room bytes) number rest (length bytes) (λ high rest'. groups_within-shorter room bytes high rest') (sym (groups_within-on room b bytes on) ∙ e) in
          omega (arith, tail)
    ]

pub varint_of-shorter : (bytes : List ℕ) (value : ℕ) (rest : List ℕ) → varint_of bytes ≡ Spelled value rest → length rest < length bytes
unfolding varint_of
varint_of-shorter bytes value rest e = modulo-shorter (groups_within 10 bytes) value rest (length bytes) (λ number rest'. groups_within-shorter 10 bytes number rest') e

-- ---- varints of one, two and three bytes

below_2_64 : (n : ℕ) (rest : List ℕ) → n < 2 ^ 64 → modulo_2_64 (Spelled n rest) ≡ Spelled n rest
below_2_64 n rest below = ap (λ m. Spelled m rest) (omega arith)

pub varint_of-one : (bytes rest : List ℕ) (a : ℕ) → bytes ≡ a ∷ rest → a < 128 → varint_of bytes ≡ Spelled a rest
unfolding varint_of
varint_of-one bytes rest a is last =
    ap varint_of is
    ∙ ap modulo_2_64 (groups_within-last 9 a rest last)
    ∙ below_2_64 a rest (omega arith)

pub varint_of-two : (bytes behind rest : List ℕ) (a b : ℕ) → bytes ≡ a ∷ behind → 128 ≤ a → behind ≡ b ∷ rest → b < 128 → varint_of bytes ≡ Spelled (a % 128 + 128 * b) rest
unfolding varint_of
varint_of-two bytes behind rest a b is on behind_is last =
    ap varint_of is
    ∙ ap modulo_2_64 (groups_within-on 9 a behind on
    ∙ ap (λ xs. after_group (a % 128) (groups_within 9 xs)) behind_is
    ∙ ap (after_group (a % 128)) (groups_within-last 8 b rest last))
    ∙ below_2_64 (a % 128 + 128 * b) rest (omega arith)

pub varint_of-three : (bytes behind far rest : List ℕ) (a b c : ℕ) → bytes ≡ a ∷ behind → 128 ≤ a → behind ≡ b ∷ far → 128 ≤ b → far ≡ c ∷ rest → c < 128
    → varint_of bytes ≡ Spelled (a % 128 + 128 * (b % 128 + 128 * c)) rest
unfolding varint_of
varint_of-three bytes behind far rest a b c is on behind_is too far_is last =
    ap varint_of is
    ∙ ap modulo_2_64 (groups_within-on 9 a behind on
    ∙ ap (λ xs. after_group (a % 128) (groups_within 9 xs)) behind_is
    ∙ ap (after_group (a % 128)) (groups_within-on 8 b far too
    ∙ ap (λ xs. after_group (b % 128) (groups_within 8 xs)) far_is
    ∙ ap (after_group (b % 128)) (groups_within-last 7 c rest last)))
    ∙ below_2_64 (a % 128 + 128 * (b % 128 + 128 * c)) rest (omega arith)
