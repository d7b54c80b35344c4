-- Readings that fail: the first item that does, and what it says.
use Rattle.std.proofs.Common.{◌≡◌, ℕ, zero, suc, ◌+◌, ◌<◌, ◌≤◌, Bool, true, false, cond, List, [], ◌∷◌, ◌++◌, length, Result, Ok, Err, refl, sym, ap, subst, ◌∙◌, append_assoc, arith}
use Rattle.std.specs.List.{flat_map}
use Rattle.std.proofs.lemmas.List.{append-nil, length-append}
use Rattle.std.proofs.lemmas.List.Concat.{flat_map-cons}
use Rattle.section_grammar.specs.WordBytes.{IsByteList}
use Rattle.section_grammar.specs.Reads.{◌>>=◌, read_many, read_all, AllGood}
use Rattle.section_grammar.specs.Sections.{IsReader}
use Rattle.section_grammar.proofs.ByteLists.{IsByteList-rest}

-- ---- what a reading says where it fails

abbrev pub OnlyFails : {A F : Type 0} → F → Result A F → Type 0
OnlyFails bad (Ok x) = Unit {0}
OnlyFails bad (Err d) = d ≡ bad

pub only_bind : {A B F : Type 0} (bad : F) (r : Result A F) (f : A → Result B F) → OnlyFails bad r → ((x : A) → OnlyFails bad (f x)) → OnlyFails bad (r >>= f)
only_bind bad (Ok x) f h k = k x
only_bind bad (Err d) f h k = h

pub only_test : {A F : Type 0} (bad : F) (b : Bool) (r s : Result A F) → OnlyFails bad r → OnlyFails bad s → OnlyFails bad (cond b r s)
only_test bad true r s h k = h
only_test bad false r s h k = k

pub only_many : {A F : Type 0} (bad : F) (item : List A → List ℕ → Result (A × List ℕ) F) → ((before : List A) (rest : List ℕ) → OnlyFails bad (item before rest)) → (n : ℕ) (before : List A) (rest : List ℕ) → OnlyFails bad (read_many item n before rest)
unfolding read_many
only_many bad item h zero before rest = tt
only_many bad item h (suc n) before rest = only_bind bad (item before rest) (λ x. read_many item n (before ++ x.0 ∷ []) x.1) (h before rest) (λ x. only_many bad item h n (before ++ x.0 ∷ []) x.1)

pub says : {A F : Type 0} (bad d : F) (r : Result A F) → OnlyFails bad r → r ≡ Err d → d ≡ bad
says bad d r h e = subst (OnlyFails bad) e h

-- ---- the first item that fails

pub record Failed {A F : Type 0} (item : List A → List ℕ → Result (A × List ℕ) F) (spell : A → List ℕ) (good : List A → A → Type 0) (before : List A) (rest : List ℕ) (d : F) : Type 0 where
  pub new : List A
  pub left : List ℕ
  pub each_good : AllGood good before new
  pub spelled_so : rest ≡ flat_map spell new ++ left
  pub fails : item (before ++ new) left ≡ Err d

err_is : {A F : Type 0} (d d' : F) → ◌≡◌ {A = Result A F} (Err d) (Err d') → d ≡ d'
err_is d d' e = cc

module _ {A F : Type 0} (item : List A → List ℕ → Result (A × List ℕ) F) (spell : A → List ℕ) (good : List A → A → Type 0) where
  failed_here : (before : List A) (rest : List ℕ) (d : F) → item before rest ≡ Err d → Failed item spell good before rest d
  failed_here before rest d e = record { new = []; left = rest; each_good = tt; spelled_so = refl; fails = ap (λ b. item b rest) (append-nil before) ∙ e }

  failed_later : (before : List A) (rest : List ℕ) (x : A) (middle : List ℕ) (d : F) → good before x → rest ≡ spell x ++ middle → Failed item spell good (before ++ x ∷ []) middle d → Failed item spell good before rest d
  failed_later before rest x middle d is first more = record {
    new = x ∷ more.new;
    left = more.left;
    each_good = (is, more.each_good);
    spelled_so = first ∙ ap (λ t. spell x ++ t) more.spelled_so ∙ sym (append_assoc (spell x) (flat_map spell more.new) more.left) ∙ ap (λ t. t ++ more.left) (sym (flat_map-cons spell x more.new));
    fails = ap (λ b. item b more.left) (sym (append_assoc before (x ∷ []) more.new)) ∙ more.fails;
  }

module _ {A F : Type 0} (item : List A → List ℕ → Result (A × List ℕ) F) (spell : A → List ℕ) (good : List A → A → Type 0) (reader : IsReader item spell good) where
  pub many_fails : (n : ℕ) (before : List A) (rest : List ℕ) (d : F) → IsByteList rest → read_many item n before rest ≡ Err d → (f : Failed item spell good before rest d) × (length f.new < n)
  unfolding read_many failed_here failed_later
  many_fails zero before rest d fits e = absurd cc
  many_fails (suc n) before rest d fits e =
      (elim (item before rest) as (λ r. item before rest ≡ r → (r >>= λ x. read_many item n (before ++ x.0 ∷ []) x.1) ≡ Err d → (f : Failed item spell good before rest d) × (length f.new < suc n)) [
        | Ok x ↦ λ h k.
            let first = reader.takes before rest x.0 x.1 fits h in
            let more = many_fails n (before ++ x.0 ∷ []) x.1 d (IsByteList-rest rest (spell x.0) x.1 fits first.1) k in
            (failed_later item spell good before rest x.0 x.1 d first.0 first.1 more.0, omega (arith, more.1))
        | Err d' ↦ λ h k. (failed_here item spell good before rest d (h ∙ ap (λ f. Err f) (err_is {A = List A × List ℕ} d' d k)), omega arith)
      ]) refl e

  pub all_fails : ((before : List A) (x : A) → good before x → 0 < length (spell x)) → (limit : ℕ) (before : List A) (rest : List ℕ) (d : F) → IsByteList rest → length rest ≤ limit → read_all item limit before rest ≡ Err d
      → (f : Failed item spell good before rest d) × (0 < length f.left)
  unfolding read_all failed_here failed_later
  all_fails some limit before [] d fits le e = absurd cc
  all_fails some zero before (b ∷ bs) d fits le e = absurd (omega arith)
  all_fails some (suc limit) before (b ∷ bs) d fits le e =
      (elim (item before (b ∷ bs)) as (λ r. item before (b ∷ bs) ≡ r → (r >>= λ x. read_all item limit (before ++ x.0 ∷ []) x.1) ≡ Err d → (f : Failed item spell good before (b ∷ bs) d) × (0 < length f.left)) [
        | Ok x ↦ λ h k.
            let first = reader.takes before (b ∷ bs) x.0 x.1 fits h in
            let fewer : length x.1 ≤ limit = omega (arith, ap length first.1, length-append (spell x.0) x.1, some before x.0 first.0, le) in
            let more = all_fails some limit (before ++ x.0 ∷ []) x.1 d (IsByteList-rest (b ∷ bs) (spell x.0) x.1 fits first.1) fewer k in
            (failed_later item spell good before (b ∷ bs) x.0 x.1 d first.0 first.1 more.0, more.1)
        | Err d' ↦ λ h k. (failed_here item spell good before (b ∷ bs) d (h ∙ ap (λ f. Err f) (err_is {A = List A} d' d k)), omega arith)
      ]) refl e

  -- ---- and again

  regrouped : (x : A) (xs : List A) (rest : List ℕ) → flat_map spell (x ∷ xs) ++ rest ≡ spell x ++ (flat_map spell xs ++ rest)
  regrouped x xs rest = ap (λ t. t ++ rest) (flat_map-cons spell x xs) ∙ append_assoc (spell x) (flat_map spell xs) rest

  pub many_fails_again : (new : List A) (n : ℕ) (before : List A) (left : List ℕ) (d : F) → AllGood good before new → length new < n → item (before ++ new) left ≡ Err d → read_many item n before (flat_map spell new ++ left) ≡ Err d
  unfolding read_many
  many_fails_again new zero before left d h lt e = absurd (omega arith)
  many_fails_again [] (suc n) before left d h lt e = let one : item before left ≡ Err d = ap (λ b. item b left) (sym (append-nil before)) ∙ e in rw one refl
  many_fails_again (x ∷ xs) (suc n) before left d h lt e =
      let one = reader.again before x (flat_map spell xs ++ left) h.0 in
      let more = many_fails_again xs n (before ++ x ∷ []) left d h.1 (omega arith) (ap (λ b. item b left) (append_assoc before (x ∷ []) xs) ∙ e) in
      ap (read_many item (suc n) before) (regrouped x xs left) ∙ rw one more

  step_all : (limit : ℕ) (before : List A) (rest : List ℕ) (r : Result (A × List ℕ) F) (total : Result (List A) F) → 0 < length rest → item before rest ≡ r → (r >>= λ x. read_all item limit (before ++ x.0 ∷ []) x.1) ≡ total → read_all item (suc limit) before rest ≡ total
  unfolding read_all
  step_all limit before [] r total some h e = absurd (omega arith)
  step_all limit before (b ∷ bs) r total some h e = rw h e

  pub all_fails_again : ((before : List A) (x : A) → good before x → 0 < length (spell x)) → (limit : ℕ) (new before : List A) (left : List ℕ) (d : F) → AllGood good before new → 0 < length left → length (flat_map spell new ++ left) ≤ limit → item (before ++ new) left ≡ Err d
      → read_all item limit before (flat_map spell new ++ left) ≡ Err d
  all_fails_again some zero new before left d h more le e = absurd (omega (arith, length-append (flat_map spell new) left))
  all_fails_again some (suc limit) [] before left d h more le e = step_all limit before left (Err d) (Err d) more (ap (λ b. item b left) (sym (append-nil before)) ∙ e) refl
  all_fails_again some (suc limit) (x ∷ xs) before left d h more le e =
      let bytes = flat_map spell xs ++ left in
      let parts = regrouped x xs left in
      let one = reader.again before x bytes h.0 in
      let has = some before x h.0 in
      let size : length (flat_map spell (x ∷ xs) ++ left) ≡ length (spell x) + length bytes = ap length parts ∙ length-append (spell x) bytes in
      let rest = all_fails_again some limit xs (before ++ x ∷ []) left d h.1 more (omega (arith, size, has, le)) (ap (λ b. item b left) (append_assoc before (x ∷ []) xs) ∙ e) in
      step_all limit before (flat_map spell (x ∷ xs) ++ left) (Ok (x, bytes)) (Err d) (omega (arith, size, has)) (ap (item before) parts ∙ one) rest
