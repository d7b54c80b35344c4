-- A reader of one item reads whole sections of such items.
use Rattle.std.proofs.Common.{◌≡◌, ℕ, zero, suc, ◌+◌, ◌-◌, ◌<◌, ◌≤◌, List, [], ◌∷◌, ◌++◌, length, Result, Ok, refl, sym, ap, subst, ◌∙◌, append_assoc, arith}
use Rattle.std.specs.List.{flat_map}
use Rattle.std.proofs.lemmas.List.{append-nil, length-append}
use Rattle.std.proofs.lemmas.List.Concat.{flat_map-cons}
use Rattle.section_grammar.specs.WordBytes.{IsByteList}
use Rattle.section_grammar.specs.Reads.{read_many, read_all, AllGood}
use Rattle.section_grammar.specs.Sections.{IsReader, IsSection, FillsSection}
use Rattle.section_grammar.proofs.ByteLists.{IsByteList-rest}
use Rattle.section_grammar.proofs.Steps.{bind_ok, ok_is}

-- what a reading of items took
pub record Took {A : Type 0} (spell : A → List ℕ) (good : List A → A → Type 0) (before : List A) (rest : List ℕ) (all : List A) (after : List ℕ) : Type 0 where
  pub new : List A
  pub all_are : all ≡ before ++ new
  pub each_good : AllGood good before new
  pub spelled_so : rest ≡ flat_map spell new ++ after

module _ {A : Type 0} (spell : A → List ℕ) (good : List A → A → Type 0) where
  took_none : (before : List A) (rest : List ℕ) (all : List A) (after : List ℕ) → before ≡ all → rest ≡ after → Took spell good before rest all after
  took_none before rest all after same ends_so = record { new = []; all_are = sym same ∙ sym (append-nil before); each_good = tt; spelled_so = ends_so }

  took_one : (before : List A) (rest : List ℕ) (x : A) (middle : List ℕ) (all : List A) (after : List ℕ) → good before x → rest ≡ spell x ++ middle → Took spell good (before ++ x ∷ []) middle all after → Took spell good before rest all after
  took_one before rest x middle all after is first more = record {
    new = x ∷ more.new;
    all_are = more.all_are ∙ append_assoc before (x ∷ []) more.new;
    each_good = (is, more.each_good);
    spelled_so = first ∙ ap (λ t. spell x ++ t) more.spelled_so ∙ sym (append_assoc (spell x) (flat_map spell more.new) after) ∙ ap (λ t. t ++ after) (sym (flat_map-cons spell x more.new));
  }

module _ {A F : Type 0} (item : List A → List ℕ → Result (A × List ℕ) F) (spell : A → List ℕ) (good : List A → A → Type 0) (reader : IsReader item spell good) where
  many_takes : (n : ℕ) (before : List A) (rest : List ℕ) (all : List A) (after : List ℕ) → IsByteList rest → read_many item n before rest ≡ Ok (all, after) → (t : Took spell good before rest all after) × (length t.new ≡ n)
  unfolding read_many took_none took_one
  many_takes zero before rest all after fits e =
      let same = ok_is {F = F} (before, rest) (all, after) e in
      (took_none spell good before rest all after (ap (λ p. p.0) same) (ap (λ p. p.1) same), refl)
  many_takes (suc n) before rest all after fits e =
      let a = bind_ok (item before rest) (λ x. read_many item n (before ++ x.0 ∷ []) x.1) (all, after) e in
      let first = reader.takes before rest a.0.0 a.0.1 fits a.1 in
      let more = many_takes n (before ++ a.0.0 ∷ []) a.0.1 all after (IsByteList-rest rest (spell a.0.0) a.0.1 fits first.1) a.2 in
      (took_one spell good before rest a.0.0 a.0.1 all after first.0 first.1 more.0, ap suc more.1)

  regrouped : (x : A) (xs : List A) (rest : List ℕ) → flat_map spell (x ∷ xs) ++ rest ≡ spell x ++ (flat_map spell xs ++ rest)
  regrouped x xs rest = ap (λ t. t ++ rest) (flat_map-cons spell x xs) ∙ append_assoc (spell x) (flat_map spell xs) rest

  many_again : (new : List A) (before : List A) (rest : List ℕ) → AllGood good before new → read_many item (length new) before (flat_map spell new ++ rest) ≡ Ok (before ++ new, rest)
  unfolding read_many
  many_again [] before rest h = ap (λ xs. Ok (xs, rest)) (sym (append-nil before))
  many_again (x ∷ xs) before rest h =
      let one = reader.again before x (flat_map spell xs ++ rest) h.0 in
      let more = many_again xs (before ++ x ∷ []) rest h.1 in
      ap (read_many item (suc (length xs)) before) (regrouped x xs rest) ∙ rw one (more ∙ ap (λ ys. Ok (ys, rest)) (append_assoc before (x ∷ []) xs))

  pub section_of : IsSection item spell good
  section_of = record {
    found = λ n rest all after fits e.
        let t = many_takes n [] rest all after fits e in
        let same : t.0.new ≡ all = sym t.0.all_are in
        subst (λ (xs : List A). AllGood good [] xs × (rest ≡ flat_map spell xs ++ after) × (length xs ≡ n)) same (t.0.each_good, t.0.spelled_so, t.1);
    spelled = λ all after h. many_again all [] after h;
  }

  -- ---- items that fill some bytes

  all_takes : (limit : ℕ) (before : List A) (rest : List ℕ) (all : List A) → IsByteList rest → ((before : List A) (x : A) → good before x → 0 < length (spell x)) → length rest ≤ limit
      → read_all item limit before rest ≡ Ok all → Took spell good before rest all []
  unfolding read_all
  all_takes limit before [] all fits some le e = took_none spell good before [] all [] (ok_is {F = F} before all e) refl
  all_takes zero before (b ∷ bs) all fits some le e = absurd (omega arith)
  all_takes (suc limit) before (b ∷ bs) all fits some le e =
      let a = bind_ok (item before (b ∷ bs)) (λ x. read_all item limit (before ++ x.0 ∷ []) x.1) all e in
      let first = reader.takes before (b ∷ bs) a.0.0 a.0.1 fits a.1 in
      let fewer : length a.0.1 ≤ limit = omega (arith, ap length first.1, length-append (spell a.0.0) a.0.1, some before a.0.0 first.0) in
      took_one spell good before (b ∷ bs) a.0.0 a.0.1 all [] first.0 first.1
      (all_takes limit (before ++ a.0.0 ∷ []) a.0.1 all (IsByteList-rest (b ∷ bs) (spell a.0.0) a.0.1 fits first.1) some fewer a.2)

  step_all : (limit : ℕ) (before : List A) (rest : List ℕ) (x : A) (after : List ℕ) (total : Result (List A) F) → 0 < length rest → item before rest ≡ Ok (x, after)
      → read_all item limit (before ++ x ∷ []) after ≡ total → read_all item (suc limit) before rest ≡ total
  unfolding read_all
  step_all limit before [] x after total some h e = absurd (omega arith)
  step_all limit before (b ∷ bs) x after total some h e = rw h e

  all_again : (limit : ℕ) (new : List A) (before : List A) → ((before : List A) (x : A) → good before x → 0 < length (spell x)) → AllGood good before new → length (flat_map spell new) ≤ limit
      → read_all item limit before (flat_map spell new) ≡ Ok (before ++ new)
  unfolding read_all
  all_again limit [] before some h le = ap (λ xs. Ok xs) (sym (append-nil before))
  all_again limit (x ∷ xs) before some h le =
      let parts : flat_map spell (x ∷ xs) ≡ spell x ++ flat_map spell xs = flat_map-cons spell x xs in
      let size : length (flat_map spell (x ∷ xs)) ≡ length (spell x) + length (flat_map spell xs) = ap length parts ∙ length-append (spell x) (flat_map spell xs) in
      let one = some before x h.0 in
      let fewer : length (flat_map spell xs) ≤ limit - 1 = omega arith in
      let limit_is : limit ≡ suc (limit - 1) = omega arith in
      let here : item before (flat_map spell (x ∷ xs)) ≡ Ok (x, flat_map spell xs) = ap (item before) parts ∙ reader.again before x (flat_map spell xs) h.0 in
      let more = all_again (limit - 1) xs (before ++ x ∷ []) some h.1 fewer in
      ap (λ n. read_all item n before (flat_map spell (x ∷ xs))) limit_is
      ∙ step_all (limit - 1) before (flat_map spell (x ∷ xs)) x (flat_map spell xs) (Ok (before ++ x ∷ xs)) (omega arith) here (more ∙ ap (λ ys. Ok ys) (append_assoc before (x ∷ []) xs))

  pub filling_of : ((before : List A) (x : A) → good before x → 0 < length (spell x)) → FillsSection item spell good
  filling_of some = record {
    filled = λ limit rest all fits le e.
        let t = all_takes limit [] rest all fits some le e in
        let same : t.new ≡ all = sym t.all_are in
        subst (λ (xs : List A). AllGood good [] xs × (rest ≡ flat_map spell xs)) same (t.each_good, t.spelled_so ∙ append-nil (flat_map spell t.new));
    refilled = λ limit all h le. all_again limit all [] some h le;
  }
