-- The outcome of reading a varint against the grammar of varints.
use Rattle.std.proofs.Common.{◌≡◌, ℕ, zero, suc, ◌+◌, ◌*◌, ◌%◌, ◌^◌, ◌<◌, ◌≤◌, ◌↔◌, List, [], ◌∷◌, ◌++◌, length, take, refl, sym, ap, ◌∙◌, arith, inl, inr}
use Rattle.std.proofs.lemmas.Bool.{cases_lt}
use Rattle.std.proofs.lemmas.List.{append_cancel_right}
use Rattle.std.proofs.lemmas.List.Elements.{All-nil, All-cons, All-head, All-tail}
use Rattle.wire_read.specs.Varint.{IsGroups, number_of, IsVarint, AreBytes, AllGoOn, VarintOutcome, Spelled, Short, Long, after_group, groups_within, modulo_2_64, varint_of, OutcomeIsByGrammar, HasOneFront}
use Rattle.wire_read.proofs.Groups.{groups_within-last, groups_within-on}

-- ---- a spelling at the front is found

pub groups_within-front : (room : ℕ) (front rest : List ℕ) → IsGroups front → length front ≤ room → groups_within room (front ++ rest) ≡ Spelled (number_of front) rest
groups_within-front room [] rest groups few = absurd groups
groups_within-front zero (b ∷ bytes) rest groups few = absurd (omega arith)
groups_within-front (suc room) (b ∷ []) rest groups few =
    groups_within-last room b rest groups ∙ ap (λ n. Spelled n rest) (omega (arith, groups))
groups_within-front (suc room) (b ∷ c ∷ bytes) rest groups few =
    groups_within-on room b (c ∷ bytes ++ rest) groups.0
    ∙ ap (after_group (b % 128)) (groups_within-front room (c ∷ bytes) rest groups.2 (omega arith))

-- ---- what is found is a spelling at the front

-- the bytes begin with groups of this number, at most so many, and these bytes follow
pub record BeginsWith (room : ℕ) (bytes : List ℕ) (number : ℕ) (rest : List ℕ) : Type 0 where
  pub front : List ℕ
  pub groups : IsGroups front
  pub few : length front ≤ room
  pub number_is : number ≡ number_of front
  pub split : bytes ≡ front ++ rest

-- one group more in front
IsGroups-cons : (b : ℕ) (front : List ℕ) → 128 ≤ b → b < 256 → IsGroups front → IsGroups (b ∷ front)
IsGroups-cons b [] on byte groups = absurd groups
IsGroups-cons b (c ∷ front) on byte groups = (on, byte, groups)

BeginsWith-cons : (room b : ℕ) (bytes : List ℕ) (outcome : VarintOutcome) (number : ℕ) (rest : List ℕ) → 128 ≤ b → b < 256
    → ((high : ℕ) (rest : List ℕ) → outcome ≡ Spelled high rest → BeginsWith room bytes high rest)
    → after_group (b % 128) outcome ≡ Spelled number rest → BeginsWith (suc room) (b ∷ bytes) number rest
BeginsWith-cons room b bytes (Spelled high rest') number rest on byte inner e =
    let tail = inner high rest' refl in
    let number_same : b % 128 + 128 * high ≡ number = cc in
    let rest_same : rest' ≡ rest = cc in
    record {
      front = b ∷ tail.front;
      groups = IsGroups-cons b tail.front on byte tail.groups;
      few = omega (arith, tail.few);
      number_is = sym number_same ∙ ap (λ n. b % 128 + 128 * n) tail.number_is;
      split = ap (λ xs. b ∷ xs) (tail.split ∙ ap (λ xs. tail.front ++ xs) rest_same);
    }
BeginsWith-cons room b bytes Short number rest on byte inner e = cc
BeginsWith-cons room b bytes Long number rest on byte inner e = cc

pub groups_within-found : (room : ℕ) (bytes : List ℕ) (number : ℕ) (rest : List ℕ) → AreBytes bytes → groups_within room bytes ≡ Spelled number rest → BeginsWith room bytes number rest
groups_within-found zero bytes number rest are e = cc
groups_within-found (suc room) [] number rest are e = cc
groups_within-found (suc room) (b ∷ bytes) number rest are e =
    elim (cases_lt b 128) [
      | inl last ↦
          let found : Spelled b bytes ≡ Spelled number rest = sym (groups_within-last room b bytes last) ∙ e in
          let number_same : b ≡ number = cc in
          let rest_same : bytes ≡ rest = cc in
          record { front = b ∷ []; groups = last; few = omega arith; number_is = omega arith; split = ap (λ xs. b ∷ xs) rest_same }
      | inr on ↦
          BeginsWith-cons room b bytes (groups_within room bytes) number rest on (All-head (λ x. x < 256) b bytes are)
          (λ high rest'. groups_within-found room bytes high rest' (All-tail (λ x. x < 256) b bytes are))
          (sym (groups_within-on room b bytes on) ∙ e)
    ]

-- ---- the bytes end inside, and ten bytes that all go on

groups_within-short : (room : ℕ) (bytes : List ℕ) → length bytes < room → AllGoOn bytes → groups_within room bytes ≡ Short
groups_within-short zero bytes few on = absurd (omega arith)
groups_within-short (suc room) [] few on = refl
groups_within-short (suc room) (b ∷ bytes) few on =
    groups_within-on room b bytes (All-head (λ x. 128 ≤ x) b bytes on)
    ∙ ap (after_group (b % 128)) (groups_within-short room bytes (omega arith) (All-tail (λ x. 128 ≤ x) b bytes on))

groups_within-long : (room : ℕ) (bytes : List ℕ) → room ≤ length bytes → AllGoOn (take room bytes) → groups_within room bytes ≡ Long
groups_within-long zero bytes many on = refl
groups_within-long (suc room) [] many on = absurd (omega arith)
groups_within-long (suc room) (b ∷ bytes) many on =
    groups_within-on room b bytes (All-head (λ x. 128 ≤ x) b (take room bytes) on)
    ∙ ap (after_group (b % 128)) (groups_within-long room bytes (omega arith) (All-tail (λ x. 128 ≤ x) b (take room bytes) on))

-- where a group comes first, the outcome is Short or Long as that of the bytes after it is
after_group-short : (low : ℕ) (outcome : VarintOutcome) → after_group low outcome ≡ Short → outcome ≡ Short
after_group-short low (Spelled high rest) e = cc
after_group-short low Short e = refl
after_group-short low Long e = cc

after_group-long : (low : ℕ) (outcome : VarintOutcome) → after_group low outcome ≡ Long → outcome ≡ Long
after_group-long low (Spelled high rest) e = cc
after_group-long low Short e = cc
after_group-long low Long e = refl

groups_within-ends : (room : ℕ) (bytes : List ℕ) → groups_within room bytes ≡ Short → (length bytes < room) × AllGoOn bytes
groups_within-ends zero bytes e = cc
groups_within-ends (suc room) [] e = (omega arith, All-nil (λ x. 128 ≤ x))
groups_within-ends (suc room) (b ∷ bytes) e =
    elim (cases_lt b 128) [
      | inl last ↦ let no : Spelled b bytes ≡ Short = sym (groups_within-last room b bytes last) ∙ e in cc
      | inr on ↦
          let tail = groups_within-ends room bytes (after_group-short (b % 128) (groups_within room bytes) (sym (groups_within-on room b bytes on) ∙ e)) in
          (omega (arith, tail.0), All-cons (λ x. 128 ≤ x) b bytes on tail.1)
    ]

groups_within-endless : (room : ℕ) (bytes : List ℕ) → groups_within room bytes ≡ Long → (room ≤ length bytes) × AllGoOn (take room bytes)
groups_within-endless zero bytes e = (omega arith, All-nil (λ x. 128 ≤ x))
groups_within-endless (suc room) [] e = cc
groups_within-endless (suc room) (b ∷ bytes) e =
    elim (cases_lt b 128) [
      | inl last ↦ let no : Spelled b bytes ≡ Long = sym (groups_within-last room b bytes last) ∙ e in cc
      | inr on ↦
          let tail = groups_within-endless room bytes (after_group-long (b % 128) (groups_within room bytes) (sym (groups_within-on room b bytes on) ∙ e)) in
          (omega (arith, tail.0), All-cons (λ x. 128 ≤ x) b (take room bytes) on tail.1)
    ]

-- ---- the laws

-- the value is the number modulo 2^64, and nothing else changes
modulo-spelled : (outcome : VarintOutcome) (value : ℕ) (rest : List ℕ) → modulo_2_64 outcome ≡ Spelled value rest → (number : ℕ) × (outcome ≡ Spelled number rest) × (value ≡ number % 2 ^ 64)
modulo-spelled (Spelled number rest') value rest e =
    let value_same : number % 2 ^ 64 ≡ value = cc in
    let rest_same : rest' ≡ rest = cc in
    (number, ap (λ xs. Spelled number xs) rest_same, sym value_same)
modulo-spelled Short value rest e = cc
modulo-spelled Long value rest e = cc

modulo-short : (outcome : VarintOutcome) → modulo_2_64 outcome ≡ Short → outcome ≡ Short
modulo-short (Spelled number rest) e = cc
modulo-short Short e = refl
modulo-short Long e = cc

modulo-long : (outcome : VarintOutcome) → modulo_2_64 outcome ≡ Long → outcome ≡ Long
modulo-long (Spelled number rest) e = cc
modulo-long Short e = cc
modulo-long Long e = refl

found : (bytes : List ℕ) → AreBytes bytes → (value : ℕ) (rest : List ℕ) → varint_of bytes ≡ Spelled value rest → (front : List ℕ) × IsVarint front value × (bytes ≡ front ++ rest)
unfolding varint_of
found bytes are value rest e =
    let number = modulo-spelled (groups_within 10 bytes) value rest e in
    let begins = groups_within-found 10 bytes number.0 rest are number.1 in
    (begins.front, record { groups = begins.groups; few = begins.few; modulo = number.2 ∙ ap (λ n. n % 2 ^ 64) begins.number_is }, begins.split)

pub varint_of-front : (front rest : List ℕ) (value : ℕ) → IsVarint front value → varint_of (front ++ rest) ≡ Spelled value rest
unfolding varint_of
varint_of-front front rest value is =
    ap modulo_2_64 (groups_within-front 10 front rest is.groups is.few) ∙ ap (λ n. Spelled n rest) (sym is.modulo)

pub short_both : (bytes : List ℕ) → varint_of bytes ≡ Short ↔ ((length bytes < 10) × AllGoOn bytes)
unfolding varint_of
short_both bytes = (
  λ e. groups_within-ends 10 bytes (modulo-short (groups_within 10 bytes) e),
  λ h. ap modulo_2_64 (groups_within-short 10 bytes h.0 h.1),
)

pub long_both : (bytes : List ℕ) → varint_of bytes ≡ Long ↔ ((10 ≤ length bytes) × AllGoOn (take 10 bytes))
unfolding varint_of
long_both bytes = (
  λ e. groups_within-endless 10 bytes (modulo-long (groups_within 10 bytes) e),
  λ h. ap modulo_2_64 (groups_within-long 10 bytes h.0 h.1),
)

pub outcome_is_by_grammar : (bytes : List ℕ) → AreBytes bytes → OutcomeIsByGrammar bytes
outcome_is_by_grammar bytes are = record {
  found = found bytes are;
  spelled = λ front rest value is e. ap varint_of e ∙ varint_of-front front rest value is;
  short = short_both bytes;
  long = long_both bytes;
}

pub has_one_front : HasOneFront
has_one_front a b x y m n is_a is_b e =
    let same : Spelled m x ≡ Spelled n y = sym (varint_of-front a x m is_a) ∙ ap varint_of e ∙ varint_of-front b y n is_b in
    let rest_same : x ≡ y = cc in
    let value_same : m ≡ n = cc in
    (append_cancel_right a b y (sym (ap (λ xs. a ++ xs) rest_same) ∙ e), value_same, rest_same)
