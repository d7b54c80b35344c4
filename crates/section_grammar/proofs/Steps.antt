-- Steps that did not fail, and readings that go on by one item; for loops that read items.
use Rattle.std.proofs.Common.{◌≡◌, ℕ, zero, suc, ◌+◌, ◌-◌, ◌<◌, ◌≤◌, Bool, true, false, cond, List, [], ◌∷◌, ◌++◌, length, Result, Ok, Err, refl, sym, ap, ◌∙◌, arith}
use Rattle.std.proofs.lemmas.Bool.{eq-eqb, ne_eqb}
use Rattle.section_grammar.specs.declared.fault.SectionFault.{SectionFault}
use Rattle.section_grammar.specs.declared.fault.SectionFault.TheVariants as faults
use Rattle.section_grammar.specs.Reads.{◌>>=◌, read_many, read_all}
use Rattle.section_grammar.specs.Answers.{FailedCheck, Check, Fails, place_of, ended}

-- the value of a step that did not fail
pub bind_ok : {A B F : Type 0} (r : Result A F) (f : A → Result B F) (y : B) → (r >>= f) ≡ Ok y → (x : A) × (r ≡ Ok x) × (f x ≡ Ok y)
bind_ok (Ok x) f y e = (x, refl, e)
bind_ok (Err d) f y e = absurd cc

-- tests that did not fail
pub guard_ok : {A F : Type 0} (b : Bool) (d : F) (r : Result A F) (y : A) → cond b (Err d) r ≡ Ok y → (b ≡ false) × (r ≡ Ok y)
guard_ok true d r y e = absurd cc
guard_ok false d r y e = (refl, e)

pub passed_ok : {A F : Type 0} (b : Bool) (d : F) (r : Result A F) (y : A) → cond b r (Err d) ≡ Ok y → (b ≡ true) × (r ≡ Ok y)
passed_ok true d r y e = (refl, e)
passed_ok false d r y e = absurd cc

abbrev done : {A F : Type 0} → A → Result A F
done x = Ok x

pub ok_is : {A F : Type 0} (x y : A) → done {F = F} x ≡ done {F = F} y → x ≡ y
ok_is x y e = cc

-- ---- so many items

module _ {A F : Type 0} (item : List A → List ℕ → Result (A × List ℕ) F) where
  pub goes_on : (before : List A) (count i : ℕ) (rest : List ℕ) (x : A) (after : List ℕ) (total : Result (List A × List ℕ) F) → i < count → item before rest ≡ Ok (x, after)
      → read_many item (count - i) before rest ≡ total → read_many item (count - (i + 1)) (before ++ x ∷ []) after ≡ total
  unfolding read_many
  goes_on before count i rest x after total lt h so_far =
      let k : count - i ≡ suc (count - (i + 1)) = omega arith in
      let one : read_many item (count - i) before rest ≡ read_many item (count - (i + 1)) (before ++ x ∷ []) after = rw (k, h) refl in
      sym one ∙ so_far

  pub breaks : (d : F) (before : List A) (count i : ℕ) (rest : List ℕ) (total : Result (List A × List ℕ) F) → i < count → item before rest ≡ Err d
      → read_many item (count - i) before rest ≡ total → total ≡ Err d
  unfolding read_many
  breaks d before count i rest total lt h so_far =
      let k : count - i ≡ suc (count - (i + 1)) = omega arith in
      let one : read_many item (count - i) before rest ≡ Err d = rw (k, h) refl in
      sym so_far ∙ one

  pub is_done : (before : List A) (count i : ℕ) (rest : List ℕ) (total : Result (List A × List ℕ) F) → count ≤ i
      → read_many item (count - i) before rest ≡ total → total ≡ Ok (before, rest)
  unfolding read_many
  is_done before count i rest total le so_far =
      let k : count - i ≡ 0 = omega arith in
      let one : read_many item (count - i) before rest ≡ Ok (before, rest) = rw k refl in
      sym so_far ∙ one

-- a fault that ends a loop over so many items
pub ends : {A : Type 0} (item : List A → List ℕ → Result (A × List ℕ) FailedCheck) (e : SectionFault) (before : List A) (count i : ℕ) (rest : List ℕ) (total : Result (List A × List ℕ) FailedCheck)
    → i < count → Fails e (item before rest) → read_many item (count - i) before rest ≡ total → Fails e total
ends item faults.OutOfMemory before count i rest total lt h so_far = tt
ends item (faults.Bad check at) before count i rest total lt h so_far = breaks item (Check check at) before count i rest total lt h so_far

-- ---- items until nothing is left, each of which takes some bytes

-- an item that is read leaves fewer bytes
abbrev pub Shrinks : {A F : Type 0} → (List A → List ℕ → Result (A × List ℕ) F) → Type 0
Shrinks {A = A} item = (before : List A) (rest : List ℕ) (x : A) (after : List ℕ) → item before rest ≡ Ok (x, after) → length after < length rest

module _ {A F : Type 0} (item : List A → List ℕ → Result (A × List ℕ) F) (shrinks : Shrinks item) where
  step_enough : (before : List A) (rest : List ℕ) (n m : ℕ) (r : Result (A × List ℕ) F) → ((x : A) (after : List ℕ) → r ≡ Ok (x, after) → read_all item n (before ++ x ∷ []) after ≡ read_all item m (before ++ x ∷ []) after)
      → (r >>= λ x. read_all item n (before ++ x.0 ∷ []) x.1) ≡ (r >>= λ x. read_all item m (before ++ x.0 ∷ []) x.1)
  step_enough before rest n m (Ok x) h = h x.0 x.1 refl
  step_enough before rest n m (Err d) h = refl

  -- each number that is no less than that of the bytes is enough
  pub all_enough : (n m : ℕ) (before : List A) (rest : List ℕ) → length rest ≤ n → length rest ≤ m → read_all item n before rest ≡ read_all item m before rest
  unfolding read_all
  all_enough n m before [] ln lm = refl
  all_enough zero m before (b ∷ bs) ln lm = absurd (omega arith)
  all_enough (suc n) zero before (b ∷ bs) ln lm = absurd (omega arith)
  all_enough (suc n) (suc m) before (b ∷ bs) ln lm =
      step_enough before (b ∷ bs) n m (item before (b ∷ bs)) (λ x after e. let lt = shrinks before (b ∷ bs) x after e in all_enough n m (before ++ x ∷ []) after (omega arith) (omega arith))

  pub all_goes_on : (before : List A) (rest : List ℕ) (x : A) (after : List ℕ) (total : Result (List A) F) → 0 < length rest → item before rest ≡ Ok (x, after)
      → read_all item (length rest) before rest ≡ total → read_all item (length after) (before ++ x ∷ []) after ≡ total
  unfolding read_all
  all_goes_on before [] x after total some h so_far = absurd (omega arith)
  all_goes_on before (b ∷ bs) x after total some h so_far =
      let lt = shrinks before (b ∷ bs) x after h in
      let one : read_all item (suc (length bs)) before (b ∷ bs) ≡ read_all item (length bs) (before ++ x ∷ []) after = rw h refl in
      all_enough (length after) (length bs) (before ++ x ∷ []) after (omega arith) (omega arith) ∙ sym one ∙ so_far

  pub all_breaks : (d : F) (before : List A) (rest : List ℕ) (total : Result (List A) F) → 0 < length rest → item before rest ≡ Err d → read_all item (length rest) before rest ≡ total → total ≡ Err d
  unfolding read_all
  all_breaks d before [] total some h so_far = absurd (omega arith)
  all_breaks d before (b ∷ bs) total some h so_far =
      let one : read_all item (suc (length bs)) before (b ∷ bs) ≡ Err d = rw h refl in
      sym so_far ∙ one

pub all_done : {A F : Type 0} (item : List A → List ℕ → Result (A × List ℕ) F) (before : List A) (rest : List ℕ) (total : Result (List A) F) → length rest ≡ 0 → read_all item (length rest) before rest ≡ total → total ≡ Ok before
unfolding read_all
all_done item before [] total none so_far = sym so_far
all_done item before (b ∷ bs) total none so_far = absurd (omega arith)

-- a fault that ends a loop over items until nothing is left
pub all_ends : {A : Type 0} (item : List A → List ℕ → Result (A × List ℕ) FailedCheck) → Shrinks item → (e : SectionFault) (before : List A) (rest : List ℕ) (total : Result (List A) FailedCheck)
    → 0 < length rest → Fails e (item before rest) → read_all item (length rest) before rest ≡ total → Fails e total
all_ends item shrinks faults.OutOfMemory before rest total some h so_far = tt
all_ends item shrinks (faults.Bad check at) before rest total some h so_far = all_breaks item shrinks (Check check at) before rest total some h so_far

-- a fault of a step is that of what follows it
pub bind_fails : {A B : Type 0} (e : SectionFault) (r : Result A FailedCheck) (f : A → Result B FailedCheck) → Fails e r → Fails e (r >>= f)
bind_fails faults.OutOfMemory r f h = tt
bind_fails (faults.Bad check at) r f h = rw h refl

-- what was read fills the section, or something is left
pub filled : {A : Type 0} (check end : ℕ) (x : A) (rest : List ℕ) → length rest ≡ 0 → ended check end x rest ≡ Ok x
filled check end x rest none = ap (λ b. cond b (Ok x) (Err (Check check (place_of end rest)))) (eq-eqb (length rest) 0 none)

pub unfilled : {A : Type 0} (check end at : ℕ) (x : A) (rest : List ℕ) → (length rest ≡ 0 → ⊥) → at ≡ place_of end rest → ended check end x rest ≡ Err (Check check at)
unfilled {A = A} check end at x rest some here =
    let one : ended check end x rest ≡ Err (Check check (place_of end rest)) = ap (λ b. cond b (Ok x) (Err (Check check (place_of end rest)))) (ne_eqb (length rest) 0 some) in
    one ∙ ap (λ (n : ℕ). Err (Check check n)) (sym here)
