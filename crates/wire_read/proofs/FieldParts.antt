-- The parts of a field: what reading each of them answers, against the grammar.
use Rattle.std.proofs.Common.{◌≡◌, ℕ, ◌+◌, ◌*◌, ◌/◌, ◌%◌, ◌<◌, ◌≤◌, Bool, true, false, cond, ltb, eqb, ◌||◌, List, ◌++◌, length, take, drop, Result, Ok, Err, refl, sym, ap, ◌∙◌, subst, arith, ◌⊎◌, inl, inr, length-append, append_assoc}
use Rattle.std.specs.Int.{w32, w64, from_le_bytes}
use Rattle.std.proofs.lemmas.Bool.{cases_Bool, ltb-true, ltb-false, lt-ltb, le-ltb, eqb-true, eqb-false, or_cases, or_parts, cond-true, cond-false}
use Rattle.std.proofs.lemmas.Bool.Decides.{nat_tests}
use Rattle.std.proofs.lemmas.List.{take-append-drop, length-take, take_at, drop_at}
use Rattle.wire_read.specs.declared.fault.WireFault.{WireFault}
use Rattle.wire_read.specs.declared.fault.WireFault.TheVariants as faults
use Rattle.wire_read.specs.Varint.{IsVarint, AreBytes, VarintOutcome, Spelled, Short, Long, varint_of}
use Rattle.wire_read.specs.Fields.{Content, Varint, Fixed64, Bytes, Fixed32, IsKind, IsBody, IsCut, IsEndless, EndsInBody, EndlessBody, IsFieldNumber, ◌>>=◌, varint_read, varint_at, part_at, number_at, varint_body, fixed64_body, bytes_body, fixed32_body, body_of}
use Rattle.wire_read.proofs.Groups.{varint_of-shorter}
use Rattle.wire_read.proofs.Grammar.{outcome_is_by_grammar, varint_of-front, short_both, long_both}

-- ---- steps that may fail

-- the value of a step that didn't fail
pub bind_ok : {A B : Type 0} (r : Result A WireFault) (f : A → Result B WireFault) (y : B) → (r >>= f) ≡ Ok y → (x : A) × (r ≡ Ok x) × (f x ≡ Ok y)
bind_ok (Ok x) f y e = (x, refl, e)
bind_ok (Err d) f y e = absurd cc

-- the step that failed
pub bind_err : {A B : Type 0} (r : Result A WireFault) (f : A → Result B WireFault) (d : WireFault) → (r >>= f) ≡ Err d → (r ≡ Err d) ⊎ ((x : A) × (r ≡ Ok x) × (f x ≡ Err d))
bind_err (Ok x) f d e = inr (x, refl, e)
bind_err (Err c) f d e = let same : c ≡ d = cc in inl (ap (λ x. Err x) same)

abbrev found : {A : Type 0} → A → Result A WireFault
found x = Ok x

abbrev failed : (A : Type 0) → WireFault → Result A WireFault
failed A d = Err d

pub ok_is : {A : Type 0} (x y : A) → found x ≡ found y → x ≡ y
ok_is x y e = cc

pub err_is : (A : Type 0) (x y : WireFault) → failed A x ≡ failed A y → x ≡ y
err_is A x y e = cc

-- ---- varints

read_ok : (at : ℕ) (o : VarintOutcome) (x : ℕ × List ℕ) → varint_read at o ≡ Ok x → o ≡ Spelled x.0 x.1
read_ok at (Spelled n rest) x e = let same : (n, rest) ≡ x = ok_is (n, rest) x e in ap (λ (p : ℕ × List ℕ). Spelled p.0 p.1) same
read_ok at Short x e = absurd cc
read_ok at Long x e = absurd cc

pub varint_at_ok : (at : ℕ) (bytes : List ℕ) (x : ℕ × List ℕ) → varint_at at bytes ≡ Ok x → varint_of bytes ≡ Spelled x.0 x.1
varint_at_ok at bytes x e = read_ok at (varint_of bytes) x e

read_err : (at : ℕ) (o : VarintOutcome) (d : WireFault) → varint_read at o ≡ Err d → ((d ≡ faults.Short at) × (o ≡ Short)) ⊎ ((d ≡ faults.LongVarint at) × (o ≡ Long))
read_err at (Spelled n rest) d e = absurd cc
read_err at Short d e = inl (sym (err_is (ℕ × List ℕ) (faults.Short at) d e), refl)
read_err at Long d e = inr (sym (err_is (ℕ × List ℕ) (faults.LongVarint at) d e), refl)

-- a varint that isn't read is cut off or endless
pub varint_at_err : (at : ℕ) (bytes : List ℕ) (d : WireFault) → AreBytes bytes → varint_at at bytes ≡ Err d → ((d ≡ faults.Short at) × IsCut bytes) ⊎ ((d ≡ faults.LongVarint at) × IsEndless bytes)
varint_at_err at bytes d are e =
    elim (read_err at (varint_of bytes) d e) [
      | inl h ↦ inl (h.0, (short_both bytes).0 h.1)
      | inr h ↦ inr (h.0, (long_both bytes).0 h.1)
    ]

pub varint_at-front : (at : ℕ) (front rest : List ℕ) (n : ℕ) → IsVarint front n → varint_at at (front ++ rest) ≡ Ok (n, rest)
varint_at-front at front rest n is = ap (varint_read at) (varint_of-front front rest n is)

pub varint_at-cut : (at : ℕ) (bytes : List ℕ) → IsCut bytes → varint_at at bytes ≡ Err (faults.Short at)
varint_at-cut at bytes cut = ap (varint_read at) ((short_both bytes).1 cut)

pub varint_at-endless : (at : ℕ) (bytes : List ℕ) → IsEndless bytes → varint_at at bytes ≡ Err (faults.LongVarint at)
varint_at-endless at bytes endless = ap (varint_read at) ((long_both bytes).1 endless)

-- ---- so many bytes

-- a test that passed, and one that failed
guard_ok : {A : Type 0} (b : Bool) (d : WireFault) (x y : A) → cond b (Err d) (Ok x) ≡ Ok y → (b ≡ false) × (x ≡ y)
guard_ok true d x y e = absurd cc
guard_ok false d x y e = (refl, ok_is x y e)

guard_err : {A : Type 0} (b : Bool) (d c : WireFault) (x : A) → cond b (Err d) (Ok x) ≡ Err c → (b ≡ true) × (d ≡ c)
guard_err true d c x e = (refl, cc)
guard_err false d c x e = absurd cc

pub part_at_ok : (at count : ℕ) (bytes : List ℕ) (x : List ℕ × List ℕ) → part_at at count bytes ≡ Ok x → (length x.0 ≡ count) × (bytes ≡ x.0 ++ x.1)
unfolding part_at
part_at_ok at count bytes x e =
    let g = guard_ok (ltb (length bytes) count) (faults.Short at) (take count bytes, drop count bytes) x e in
    let enough : count ≤ length bytes = ltb-false _ _ g.0 in
    subst (λ (p : List ℕ × List ℕ). (length p.0 ≡ count) × (bytes ≡ p.0 ++ p.1)) g.1 (omega (arith, length-take count bytes), sym (take-append-drop count bytes))

pub part_at_err : (at count : ℕ) (bytes : List ℕ) (d : WireFault) → part_at at count bytes ≡ Err d → (d ≡ faults.Short at) × (length bytes < count)
unfolding part_at
part_at_err at count bytes d e =
    let g = guard_err (ltb (length bytes) count) (faults.Short at) d (take count bytes, drop count bytes) e in
    (sym g.1, ltb-true _ _ g.0)

pub part_at-front : (at count : ℕ) (front rest : List ℕ) → length front ≡ count → part_at at count (front ++ rest) ≡ Ok (front, rest)
unfolding part_at
part_at-front at count front rest len =
    let enough : ltb (length (front ++ rest)) count ≡ false = le-ltb _ _ (omega (arith, length-append front rest)) in
    cond-false (ltb (length (front ++ rest)) count) (Err (faults.Short at)) (Ok (take count (front ++ rest), drop count (front ++ rest))) enough
    ∙ ap (λ (p : List ℕ). Ok (p, drop count (front ++ rest))) (take_at front rest count len)
    ∙ ap (λ (p : List ℕ). Ok (front, p)) (drop_at front rest count len)

pub part_at-cut : (at count : ℕ) (bytes : List ℕ) → length bytes < count → part_at at count bytes ≡ Err (faults.Short at)
unfolding part_at
part_at-cut at count bytes few = cond-true (ltb (length bytes) count) (Err (faults.Short at)) (Ok (take count bytes, drop count bytes)) (lt-ltb _ _ few)

-- ---- the number of a tag

abbrev known : ℕ → Bool
known kind = eqb kind 0 || eqb kind 1 || eqb kind 2 || eqb kind 5

abbrev bad : ℕ → Bool
bad number = eqb number 0 || ltb 536_870_911 number

-- what the tests of a tag mean
known_is : (kind : ℕ) → known kind ≡ true → IsKind kind
known_is kind e =
    elim (or_cases (eqb kind 0 || eqb kind 1 || eqb kind 2) (eqb kind 5) e) [
      | inl a ↦ elim (or_cases (eqb kind 0 || eqb kind 1) (eqb kind 2) a) [
        | inl b ↦ elim (or_cases (eqb kind 0) (eqb kind 1) b) [
          | inl c ↦ inl (eqb-true kind 0 c)
          | inr c ↦ inr (inl (eqb-true kind 1 c))
        ]
        | inr b ↦ inr (inr (inl (eqb-true kind 2 b)))
      ]
      | inr a ↦ inr (inr (inr (eqb-true kind 5 a)))
    ]

kind_known : (kind : ℕ) → IsKind kind → known kind ≡ true
kind_known kind (inl e) = ap known e
kind_known kind (inr (inl e)) = ap known e
kind_known kind (inr (inr (inl e))) = ap known e
kind_known kind (inr (inr (inr e))) = ap known e

not_known : (kind : ℕ) → (IsKind kind → ⊥) → known kind ≡ false
not_known kind never = elim (cases_Bool (known kind)) [ inl e ↦ absurd (never (known_is kind e)) | inr e ↦ e ]

known_not : (kind : ℕ) → known kind ≡ false → IsKind kind → ⊥
known_not kind e is = let t : known kind ≡ true = kind_known kind is in cc

good_number : (number : ℕ) → bad number ≡ false → IsFieldNumber number
good_number number e =
    let p = or_parts (eqb number 0) (ltb 536_870_911 number) e in
    let some : number ≡ 0 → ⊥ = eqb-false number 0 p.0 in
    let most : number ≤ 536_870_911 = ltb-false _ _ p.1 in
    (omega arith, most)

number_good : (number : ℕ) → IsFieldNumber number → bad number ≡ false
number_good number is = let low = is.0 in let high = is.1 in grind (arith, nat_tests)

bad_not : (number : ℕ) → bad number ≡ true → IsFieldNumber number → ⊥
bad_not number e is = let f : bad number ≡ false = number_good number is in cc

not_good : (number : ℕ) → (IsFieldNumber number → ⊥) → bad number ≡ true
not_good number never = elim (cases_Bool (bad number)) [ inl e ↦ e | inr e ↦ absurd (never (good_number number e)) ]

abbrev decided : ℕ → ℕ → Bool → Bool → Result ℕ WireFault
decided at tag good worse = cond good (cond worse (Err (faults.BadNumber at)) (Ok (tag / 8))) (Err (faults.BadWire at (tag % 8)))

decided_ok : (at tag : ℕ) (good worse : Bool) (n : ℕ) → decided at tag good worse ≡ Ok n → (good ≡ true) × (worse ≡ false) × (tag / 8 ≡ n)
decided_ok at tag true true n e = absurd cc
decided_ok at tag true false n e = (refl, refl, ok_is _ _ e)
decided_ok at tag false worse n e = absurd cc

decided_err : (at tag : ℕ) (good worse : Bool) (d : WireFault) → decided at tag good worse ≡ Err d → ((d ≡ faults.BadWire at (tag % 8)) × (good ≡ false)) ⊎ ((d ≡ faults.BadNumber at) × (good ≡ true) × (worse ≡ true))
decided_err at tag true true d e = inr (sym (err_is ℕ (faults.BadNumber at) d e), refl, refl)
decided_err at tag true false d e = absurd cc
decided_err at tag false worse d e = inl (sym (err_is ℕ (faults.BadWire at (tag % 8)) d e), refl)

pub number_at_ok : (at tag n : ℕ) → number_at at tag ≡ Ok n → IsKind (tag % 8) × IsFieldNumber n × (tag / 8 ≡ n)
unfolding number_at
number_at_ok at tag n e =
    let p = decided_ok at tag (known (tag % 8)) (bad (tag / 8)) n e in
    (known_is (tag % 8) p.0, subst IsFieldNumber p.2 (good_number (tag / 8) p.1), p.2)

pub number_at_err : (at tag : ℕ) (d : WireFault) → number_at at tag ≡ Err d
    → ((d ≡ faults.BadWire at (tag % 8)) × (IsKind (tag % 8) → ⊥)) ⊎ ((d ≡ faults.BadNumber at) × IsKind (tag % 8) × (IsFieldNumber (tag / 8) → ⊥))
unfolding number_at
number_at_err at tag d e =
    elim (decided_err at tag (known (tag % 8)) (bad (tag / 8)) d e) [
      | inl h ↦ inl (h.0, known_not (tag % 8) h.1)
      | inr h ↦ inr (h.0, known_is (tag % 8) h.1, bad_not (tag / 8) h.2)
    ]

pub kind_below : (kind : ℕ) → IsKind kind → kind < 8
kind_below kind (inl e) = omega arith
kind_below kind (inr (inl e)) = omega arith
kind_below kind (inr (inr (inl e))) = omega arith
kind_below kind (inr (inr (inr e))) = omega arith

pub tag_kind : (number kind : ℕ) → kind < 8 → (8 * number + kind) % 8 ≡ kind
tag_kind number kind fits = omega arith

pub tag_number : (number kind : ℕ) → kind < 8 → (8 * number + kind) / 8 ≡ number
tag_number number kind fits = omega arith

pub number_at-good : (at number kind : ℕ) → IsKind kind → IsFieldNumber number → number_at at (8 * number + kind) ≡ Ok number
unfolding number_at
number_at-good at number kind is good =
    let below = kind_below kind is in
    ap (λ k. decided at (8 * number + kind) (known k) (bad ((8 * number + kind) / 8))) (tag_kind number kind below)
    ∙ ap (λ k. decided at (8 * number + kind) k (bad ((8 * number + kind) / 8))) (kind_known kind is)
    ∙ ap (λ k. cond (bad k) (Err (faults.BadNumber at)) (Ok k)) (tag_number number kind below)
    ∙ ap (λ k. cond k (Err (faults.BadNumber at)) (Ok number)) (number_good number good)

pub number_at-bad_wire : (at number kind : ℕ) → kind < 8 → (IsKind kind → ⊥) → number_at at (8 * number + kind) ≡ Err (faults.BadWire at kind)
unfolding number_at
number_at-bad_wire at number kind below never =
    ap (λ k. cond (known k) (cond (bad ((8 * number + kind) / 8)) (Err (faults.BadNumber at)) (Ok ((8 * number + kind) / 8))) (Err (faults.BadWire at k))) (tag_kind number kind below)
    ∙ ap (λ k. cond k (cond (bad ((8 * number + kind) / 8)) (Err (faults.BadNumber at)) (Ok ((8 * number + kind) / 8))) (Err (faults.BadWire at kind))) (not_known kind never)

pub number_at-bad_number : (at number kind : ℕ) → IsKind kind → (IsFieldNumber number → ⊥) → number_at at (8 * number + kind) ≡ Err (faults.BadNumber at)
unfolding number_at
number_at-bad_number at number kind is never =
    let below = kind_below kind is in
    ap (λ k. decided at (8 * number + kind) (known k) (bad ((8 * number + kind) / 8))) (tag_kind number kind below)
    ∙ ap (λ k. decided at (8 * number + kind) k (bad ((8 * number + kind) / 8))) (kind_known kind is)
    ∙ ap (λ k. cond (bad k) (Err (faults.BadNumber at)) (Ok k)) (tag_number number kind below)
    ∙ ap (λ k. cond k (Err (faults.BadNumber at)) (Ok number)) (not_good number never)

-- ---- the body of each wire type

varint_body_found : (at : ℕ) (bytes : List ℕ) (x : Content × List ℕ) → AreBytes bytes → varint_body at bytes ≡ Ok x → (front : List ℕ) × IsBody 0 front x.0 × (bytes ≡ front ++ x.1)
unfolding varint_body
varint_body_found at bytes x are e =
    let b = bind_ok (varint_at at bytes) (λ n. Ok (Varint n.0, n.1)) x e in
    let spelled = (outcome_is_by_grammar bytes are).found b.0.0 b.0.1 (varint_at_ok at bytes b.0 b.1) in
    subst (λ (p : Content × List ℕ). (front : List ℕ) × IsBody 0 front p.0 × (bytes ≡ front ++ p.1)) (ok_is (Varint b.0.0, b.0.1) x b.2)
    (spelled.0, (refl, spelled.1), spelled.2)

fixed64_body_found : (at : ℕ) (bytes : List ℕ) (x : Content × List ℕ) → fixed64_body at bytes ≡ Ok x → (front : List ℕ) × IsBody 1 front x.0 × (bytes ≡ front ++ x.1)
unfolding fixed64_body
fixed64_body_found at bytes x e =
    let b = bind_ok (part_at at 8 bytes) (λ part. Ok (Fixed64 (from_le_bytes w64 part.0), part.1)) x e in
    let part = part_at_ok at 8 bytes b.0 b.1 in
    subst (λ (p : Content × List ℕ). (front : List ℕ) × IsBody 1 front p.0 × (bytes ≡ front ++ p.1)) (ok_is (Fixed64 (from_le_bytes w64 b.0.0), b.0.1) x b.2)
    (b.0.0, (refl, part.0, refl), part.1)

fixed32_body_found : (at : ℕ) (bytes : List ℕ) (x : Content × List ℕ) → fixed32_body at bytes ≡ Ok x → (front : List ℕ) × IsBody 5 front x.0 × (bytes ≡ front ++ x.1)
unfolding fixed32_body
fixed32_body_found at bytes x e =
    let b = bind_ok (part_at at 4 bytes) (λ part. Ok (Fixed32 (from_le_bytes w32 part.0), part.1)) x e in
    let part = part_at_ok at 4 bytes b.0 b.1 in
    subst (λ (p : Content × List ℕ). (front : List ℕ) × IsBody 5 front p.0 × (bytes ≡ front ++ p.1)) (ok_is (Fixed32 (from_le_bytes w32 b.0.0), b.0.1) x b.2)
    (b.0.0, (refl, part.0, refl), part.1)

bytes_body_found : (at : ℕ) (bytes : List ℕ) (x : Content × List ℕ) → AreBytes bytes → bytes_body at bytes ≡ Ok x → (front : List ℕ) × IsBody 2 front x.0 × (bytes ≡ front ++ x.1)
unfolding bytes_body
bytes_body_found at bytes x are e =
    let b = bind_ok (varint_at at bytes) (λ n. part_at at n.0 n.1 >>= λ part. Ok (Bytes part.0, part.1)) x e in
    let c = bind_ok (part_at at b.0.0 b.0.1) (λ part. Ok (Bytes part.0, part.1)) x b.2 in
    let spelled = (outcome_is_by_grammar bytes are).found b.0.0 b.0.1 (varint_at_ok at bytes b.0 b.1) in
    let part = part_at_ok at b.0.0 b.0.1 c.0 c.1 in
    let count : IsVarint spelled.0 (length c.0.0) = subst (λ (n : ℕ). IsVarint spelled.0 n) (sym part.0) spelled.1 in
    let split : bytes ≡ (spelled.0 ++ c.0.0) ++ c.0.1 = spelled.2 ∙ ap (λ (p : List ℕ). spelled.0 ++ p) part.1 ∙ sym (append_assoc spelled.0 c.0.0 c.0.1) in
    subst (λ (p : Content × List ℕ). (front : List ℕ) × IsBody 2 front p.0 × (bytes ≡ front ++ p.1)) (ok_is (Bytes c.0.0, c.0.1) x c.2)
    (spelled.0 ++ c.0.0, (refl, (spelled.0, count, refl)), split)

-- a body that is read is one by the grammar
pub body_found : (at kind : ℕ) (bytes : List ℕ) (x : Content × List ℕ) → AreBytes bytes → IsKind kind → body_of at kind bytes ≡ Ok x → (front : List ℕ) × IsBody kind front x.0 × (bytes ≡ front ++ x.1)
unfolding body_of
body_found at kind bytes x are (inl k) e =
    let Found : ℕ → Type 0 = λ j. (front : List ℕ) × IsBody j front x.0 × (bytes ≡ front ++ x.1) in
    subst Found (sym k) (varint_body_found at bytes x are (sym (ap (λ j. body_of at j bytes) k) ∙ e))
body_found at kind bytes x are (inr (inl k)) e =
    let Found : ℕ → Type 0 = λ j. (front : List ℕ) × IsBody j front x.0 × (bytes ≡ front ++ x.1) in
    subst Found (sym k) (fixed64_body_found at bytes x (sym (ap (λ j. body_of at j bytes) k) ∙ e))
body_found at kind bytes x are (inr (inr (inl k))) e =
    let Found : ℕ → Type 0 = λ j. (front : List ℕ) × IsBody j front x.0 × (bytes ≡ front ++ x.1) in
    subst Found (sym k) (bytes_body_found at bytes x are (sym (ap (λ j. body_of at j bytes) k) ∙ e))
body_found at kind bytes x are (inr (inr (inr k))) e =
    let Found : ℕ → Type 0 = λ j. (front : List ℕ) × IsBody j front x.0 × (bytes ≡ front ++ x.1) in
    subst Found (sym k) (fixed32_body_found at bytes x (sym (ap (λ j. body_of at j bytes) k) ∙ e))

-- a body by the grammar is read
pub body_of-front : (at kind : ℕ) (front rest : List ℕ) (content : Content) → IsBody kind front content → body_of at kind (front ++ rest) ≡ Ok (content, rest)
unfolding body_of varint_body fixed64_body bytes_body fixed32_body
body_of-front at kind front rest (Varint n) is =
    ap (λ j. body_of at j (front ++ rest)) is.0 ∙ ap (λ r. r >>= λ m. Ok (Varint m.0, m.1)) (varint_at-front at front rest n is.1)
body_of-front at kind front rest (Fixed64 n) is =
    ap (λ j. body_of at j (front ++ rest)) is.0
    ∙ ap (λ r. r >>= λ part. Ok (Fixed64 (from_le_bytes w64 part.0), part.1)) (part_at-front at 8 front rest is.1)
    ∙ ap (λ m. Ok (Fixed64 m, rest)) (sym is.2)
body_of-front at kind front rest (Bytes inner) is =
    let count = is.1.0 in
    let split : front ++ rest ≡ count ++ (inner ++ rest) = ap (λ (p : List ℕ). p ++ rest) is.1.2 ∙ append_assoc count inner rest in
    ap (λ j. body_of at j (front ++ rest)) is.0
    ∙ ap (λ p. body_of at 2 p) split
    ∙ ap (λ r. r >>= λ m. part_at at m.0 m.1 >>= λ part. Ok (Bytes part.0, part.1)) (varint_at-front at count (inner ++ rest) (length inner) is.1.1)
    ∙ ap (λ r. r >>= λ part. Ok (Bytes part.0, part.1)) (part_at-front at (length inner) inner rest refl)
body_of-front at kind front rest (Fixed32 n) is =
    ap (λ j. body_of at j (front ++ rest)) is.0
    ∙ ap (λ r. r >>= λ part. Ok (Fixed32 (from_le_bytes w32 part.0), part.1)) (part_at-front at 4 front rest is.1)
    ∙ ap (λ m. Ok (Fixed32 m, rest)) (sym is.2)

-- ---- a body that isn't there

-- why reading a body answers this fault
abbrev pub Missing : ℕ → ℕ → List ℕ → WireFault → Type 0
Missing at kind bytes d = ((d ≡ faults.Short at) × EndsInBody kind bytes) ⊎ ((d ≡ faults.LongVarint at) × EndlessBody kind bytes)

-- a result that isn't an error
pub ok_not_err : {A B : Type 0} (f : A → B) (x : A) (d : WireFault) → found (f x) ≡ failed B d → ⊥
ok_not_err f x d e = cc

varint_missing : (at : ℕ) (bytes : List ℕ) (d : WireFault) → AreBytes bytes → varint_body at bytes ≡ Err d → Missing at 0 bytes d
unfolding varint_body
varint_missing at bytes d are e =
    elim (bind_err (varint_at at bytes) (λ n. Ok (Varint n.0, n.1)) d e) [
      | inl h ↦ elim (varint_at_err at bytes d are h) [
        | inl c ↦ inl (c.0, inl (refl, c.1))
        | inr c ↦ inr (c.0, (inl refl, c.1))
      ]
      | inr h ↦ absurd (ok_not_err (λ (n : ℕ × List ℕ). (Varint n.0, n.1)) h.0 d h.2)
    ]

fixed64_missing : (at : ℕ) (bytes : List ℕ) (d : WireFault) → fixed64_body at bytes ≡ Err d → Missing at 1 bytes d
unfolding fixed64_body
fixed64_missing at bytes d e =
    elim (bind_err (part_at at 8 bytes) (λ part. Ok (Fixed64 (from_le_bytes w64 part.0), part.1)) d e) [
      | inl h ↦ let c = part_at_err at 8 bytes d h in inl (c.0, inr (inl (refl, c.1)))
      | inr h ↦ absurd (ok_not_err (λ (p : List ℕ × List ℕ). (Fixed64 (from_le_bytes w64 p.0), p.1)) h.0 d h.2)
    ]

fixed32_missing : (at : ℕ) (bytes : List ℕ) (d : WireFault) → fixed32_body at bytes ≡ Err d → Missing at 5 bytes d
unfolding fixed32_body
fixed32_missing at bytes d e =
    elim (bind_err (part_at at 4 bytes) (λ part. Ok (Fixed32 (from_le_bytes w32 part.0), part.1)) d e) [
      | inl h ↦ let c = part_at_err at 4 bytes d h in inl (c.0, inr (inr (inr (refl, c.1))))
      | inr h ↦ absurd (ok_not_err (λ (p : List ℕ × List ℕ). (Fixed32 (from_le_bytes w32 p.0), p.1)) h.0 d h.2)
    ]

bytes_missing : (at : ℕ) (bytes : List ℕ) (d : WireFault) → AreBytes bytes → bytes_body at bytes ≡ Err d → Missing at 2 bytes d
unfolding bytes_body
bytes_missing at bytes d are e =
    elim (bind_err (varint_at at bytes) (λ n. part_at at n.0 n.1 >>= λ part. Ok (Bytes part.0, part.1)) d e) [
      | inl h ↦ elim (varint_at_err at bytes d are h) [
        | inl c ↦ inl (c.0, inr (inr (inl (refl, inl c.1))))
        | inr c ↦ inr (c.0, (inr refl, c.1))
      ]
      | inr h ↦ elim (bind_err (part_at at h.0.0 h.0.1) (λ part. Ok (Bytes part.0, part.1)) d h.2) [
        | inl c ↦
            let spelled = (outcome_is_by_grammar bytes are).found h.0.0 h.0.1 (varint_at_ok at bytes h.0 h.1) in
            let few = part_at_err at h.0.0 h.0.1 d c in
            inl (few.0, inr (inr (inl (refl, inr (spelled.0, h.0.1, (h.0.0, spelled.1, spelled.2, few.1))))))
        | inr c ↦ absurd (ok_not_err (λ (p : List ℕ × List ℕ). (Bytes p.0, p.1)) c.0 d c.2)
      ]
    ]

pub body_missing : (at kind : ℕ) (bytes : List ℕ) (d : WireFault) → AreBytes bytes → IsKind kind → body_of at kind bytes ≡ Err d → Missing at kind bytes d
unfolding body_of
body_missing at kind bytes d are (inl k) e =
    subst (λ (j : ℕ). Missing at j bytes d) (sym k) (varint_missing at bytes d are (sym (ap (λ j. body_of at j bytes) k) ∙ e))
body_missing at kind bytes d are (inr (inl k)) e =
    subst (λ (j : ℕ). Missing at j bytes d) (sym k) (fixed64_missing at bytes d (sym (ap (λ j. body_of at j bytes) k) ∙ e))
body_missing at kind bytes d are (inr (inr (inl k))) e =
    subst (λ (j : ℕ). Missing at j bytes d) (sym k) (bytes_missing at bytes d are (sym (ap (λ j. body_of at j bytes) k) ∙ e))
body_missing at kind bytes d are (inr (inr (inr k))) e =
    subst (λ (j : ℕ). Missing at j bytes d) (sym k) (fixed32_missing at bytes d (sym (ap (λ j. body_of at j bytes) k) ∙ e))

-- where the bytes end inside a body, reading it answers Short
pub body_of-cut : (at kind : ℕ) (bytes : List ℕ) → EndsInBody kind bytes → body_of at kind bytes ≡ Err (faults.Short at)
unfolding body_of varint_body fixed64_body bytes_body fixed32_body
body_of-cut at kind bytes (inl h) =
    ap (λ j. body_of at j bytes) h.0 ∙ ap (λ r. r >>= λ m. Ok (Varint m.0, m.1)) (varint_at-cut at bytes h.1)
body_of-cut at kind bytes (inr (inl h)) =
    ap (λ j. body_of at j bytes) h.0 ∙ ap (λ r. r >>= λ part. Ok (Fixed64 (from_le_bytes w64 part.0), part.1)) (part_at-cut at 8 bytes h.1)
body_of-cut at kind bytes (inr (inr (inl (k, inl cut)))) =
    ap (λ j. body_of at j bytes) k ∙ ap (λ r. r >>= λ m. part_at at m.0 m.1 >>= λ part. Ok (Bytes part.0, part.1)) (varint_at-cut at bytes cut)
body_of-cut at kind bytes (inr (inr (inl (k, inr h)))) =
    ap (λ j. body_of at j bytes) k
    ∙ ap (λ p. body_of at 2 p) h.2.2
    ∙ ap (λ r. r >>= λ m. part_at at m.0 m.1 >>= λ part. Ok (Bytes part.0, part.1)) (varint_at-front at h.0 h.1 h.2.0 h.2.1)
    ∙ ap (λ r. r >>= λ part. Ok (Bytes part.0, part.1)) (part_at-cut at h.2.0 h.1 h.2.3)
body_of-cut at kind bytes (inr (inr (inr h))) =
    ap (λ j. body_of at j bytes) h.0 ∙ ap (λ r. r >>= λ part. Ok (Fixed32 (from_le_bytes w32 part.0), part.1)) (part_at-cut at 4 bytes h.1)

-- where its varint doesn't end, reading it answers LongVarint
pub body_of-endless : (at kind : ℕ) (bytes : List ℕ) → EndlessBody kind bytes → body_of at kind bytes ≡ Err (faults.LongVarint at)
unfolding body_of varint_body bytes_body
body_of-endless at kind bytes (inl k, endless) =
    ap (λ j. body_of at j bytes) k ∙ ap (λ r. r >>= λ m. Ok (Varint m.0, m.1)) (varint_at-endless at bytes endless)
body_of-endless at kind bytes (inr k, endless) =
    ap (λ j. body_of at j bytes) k ∙ ap (λ r. r >>= λ m. part_at at m.0 m.1 >>= λ part. Ok (Bytes part.0, part.1)) (varint_at-endless at bytes endless)

-- ---- nothing is read twice

-- what follows a body isn't longer than what begins with it
pub body_of-shorter : (at kind : ℕ) (bytes : List ℕ) (x : Content × List ℕ) → IsKind kind → body_of at kind bytes ≡ Ok x → length x.1 ≤ length bytes
unfolding body_of varint_body fixed64_body bytes_body fixed32_body
body_of-shorter at kind bytes x (inl k) e =
    let b = bind_ok (varint_at at bytes) (λ n. Ok (Varint n.0, n.1)) x (sym (ap (λ j. body_of at j bytes) k) ∙ e) in
    let same = ap (λ (p : Content × List ℕ). length p.1) (ok_is (Varint b.0.0, b.0.1) x b.2) in
    omega (arith, same, varint_of-shorter bytes b.0.0 b.0.1 (varint_at_ok at bytes b.0 b.1))
body_of-shorter at kind bytes x (inr (inl k)) e =
    let b = bind_ok (part_at at 8 bytes) (λ part. Ok (Fixed64 (from_le_bytes w64 part.0), part.1)) x (sym (ap (λ j. body_of at j bytes) k) ∙ e) in
    let same = ap (λ (p : Content × List ℕ). length p.1) (ok_is (Fixed64 (from_le_bytes w64 b.0.0), b.0.1) x b.2) in
    let part = part_at_ok at 8 bytes b.0 b.1 in
    omega (arith, same, ap length part.1, length-append b.0.0 b.0.1)
body_of-shorter at kind bytes x (inr (inr (inl k))) e =
    let b = bind_ok (varint_at at bytes) (λ n. part_at at n.0 n.1 >>= λ part. Ok (Bytes part.0, part.1)) x (sym (ap (λ j. body_of at j bytes) k) ∙ e) in
    let c = bind_ok (part_at at b.0.0 b.0.1) (λ part. Ok (Bytes part.0, part.1)) x b.2 in
    let same = ap (λ (p : Content × List ℕ). length p.1) (ok_is (Bytes c.0.0, c.0.1) x c.2) in
    let part = part_at_ok at b.0.0 b.0.1 c.0 c.1 in
    omega (arith, same, ap length part.1, length-append c.0.0 c.0.1, varint_of-shorter bytes b.0.0 b.0.1 (varint_at_ok at bytes b.0 b.1))
body_of-shorter at kind bytes x (inr (inr (inr k))) e =
    let b = bind_ok (part_at at 4 bytes) (λ part. Ok (Fixed32 (from_le_bytes w32 part.0), part.1)) x (sym (ap (λ j. body_of at j bytes) k) ∙ e) in
    let same = ap (λ (p : Content × List ℕ). length p.1) (ok_is (Fixed32 (from_le_bytes w32 b.0.0), b.0.1) x b.2) in
    let part = part_at_ok at 4 bytes b.0 b.1 in
    omega (arith, same, ap length part.1, length-append b.0.0 b.0.1)
