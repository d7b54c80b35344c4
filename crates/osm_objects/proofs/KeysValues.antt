-- Groups of keys and values, one after the other.
use Rattle.std.proofs.Common.{◌≡◌, ℕ, zero, suc, ◌+◌, ◌<◌, ◌≤◌, eqb, cond, true, false, List, [], ◌∷◌, length, replicate, Option, Some, None, Ok, Err, IsOk, refl, sym, ap, ◌∙◌, arith, ◌⊎◌, inl, inr, append-nil, zero-add, take, drop, ◌-◌}
use Rattle.std.proofs.lemmas.Bool.{cases_Bool, eqb-true}
use Rattle.std.proofs.lemmas.List.{length-replicate, take_all}
use Rattle.std.specs.Option.{option_and_then, option_map}
use Rattle.osm_model.specs.declared.tags.Tag.{Tag}
use Rattle.osm_objects.specs.declared.fault.ObjectFault.{ObjectFault}
use Rattle.osm_objects.specs.declared.fault.ObjectFault.TheVariants.{Uneven}
use Rattle.osm_objects.specs.Steps.{◌>>=◌}
use Rattle.osm_objects.specs.Tags.{tag_of, tags_of}
use Rattle.osm_objects.specs.Groups.{into_first, groups_in, exactly, groups_of}
use Rattle.osm_objects.specs.FirstGroups.{first_group, behind_group, group_read}
use Rattle.osm_objects.specs.Answers.{after}
use Rattle.osm_objects.proofs.Loops.{joined-step}

abbrev pub Groups : Type 0
Groups = List (List (ℕ × ℕ))

-- ---- how many groups there are

-- so many groups, and those that are left
abbrev pub counted : ℕ → List ℕ → Option ℕ
counted groups rest = option_map (λ gs. length gs + groups) (groups_in rest)

pub counted-begun : (numbers : List ℕ) → option_map (λ gs. length gs) (groups_in numbers) ≡ counted 0 numbers
counted-begun numbers = by (groups_in numbers)
  where
    by : (o : Option Groups) → option_map (λ gs. length gs) o ≡ option_map (λ gs. length gs + 0) o
    by None = refl
    by (Some gs) = ap (λ n. Some n) (omega arith)

pub counted-closed : (groups : ℕ) (rest : List ℕ) → counted groups (0 ∷ rest) ≡ counted (groups + 1) rest
counted-closed groups rest = by (groups_in rest)
  where
    by : (o : Option Groups) → option_map (λ gs. length gs + groups) (option_and_then (λ gs. Some ([] ∷ gs)) o) ≡ option_map (λ gs. length gs + (groups + 1)) o
    by None = refl
    by (Some gs) = ap (λ n. Some n) (omega arith)

-- where a number is written there is a group, or none ends
some_group : (n : ℕ) (ns : List ℕ) (gs : Groups) → groups_in (n ∷ ns) ≡ Some gs → 0 < length gs
some_group zero ns gs e = closed (groups_in ns) gs e
  where
    closed : (o : Option Groups) (gs : Groups) → option_and_then (λ gs. Some ([] ∷ gs)) o ≡ Some gs → 0 < length gs
    closed None gs e = absurd cc
    closed (Some hs) [] e = absurd cc
    closed (Some hs) (g ∷ gs) e = omega arith
some_group (suc k) [] gs e = absurd cc
some_group (suc k) (v ∷ ns) gs e = first (groups_in ns) gs e
  where
    first : (o : Option Groups) (gs : Groups) → option_and_then (into_first (suc k, v)) o ≡ Some gs → 0 < length gs
    first None gs e = absurd cc
    first (Some []) gs e = absurd cc
    first (Some (h ∷ hs)) [] e = absurd cc
    first (Some (h ∷ hs)) (g ∷ gs) e = omega arith

pub counted-pair : (groups key value n : ℕ) (ns : List ℕ) → (key ≡ 0 → ⊥) → counted groups (key ∷ value ∷ n ∷ ns) ≡ counted groups (n ∷ ns)
counted-pair groups zero value n ns some = absurd (some refl)
counted-pair groups (suc key) value n ns some = by (groups_in (n ∷ ns)) (some_group n ns)
  where
    by : (o : Option Groups) → ((gs : Groups) → o ≡ Some gs → 0 < length gs) → option_map (λ gs. length gs + groups) (option_and_then (into_first (suc key, value)) o) ≡ option_map (λ gs. length gs + groups) o
    by None h = refl
    by (Some []) h = absurd (omega (arith, h [] refl))
    by (Some (g ∷ gs)) h = refl

pub counted-cut : (groups key : ℕ) (rest : List ℕ) → (key ≡ 0 → ⊥) → length rest < 2 → counted groups (key ∷ rest) ≡ None
counted-cut groups zero rest some h = absurd (some refl)
counted-cut groups (suc key) [] some h = refl
counted-cut groups (suc key) (v ∷ []) some h = refl
counted-cut groups (suc key) (v ∷ n ∷ ns) some h = absurd (omega arith)

exactly_none : (at count : ℕ) (o : Option Groups) → option_map (λ gs. length gs) o ≡ None → exactly at count o ≡ Err (Uneven at)
exactly_none at count None e = refl
exactly_none at count (Some gs) e = absurd cc

exactly_other : (at count n : ℕ) (o : Option Groups) → option_map (λ gs. length gs) o ≡ Some n → eqb n count ≡ false → exactly at count o ≡ Err (Uneven at)
exactly_other at count n None e f = refl
exactly_other at count n (Some gs) e f =
    let same : length gs ≡ n = cc in
    ap (λ k. cond (eqb k count) (Ok gs) (Err (Uneven at))) same ∙ ap (λ b. cond b (Ok gs) (Err (Uneven at))) f

exactly_same : (at count n : ℕ) (o : Option Groups) → option_map (λ gs. length gs) o ≡ Some n → eqb n count ≡ true → IsOk (exactly at count o)
exactly_same at count n None e f = absurd cc
exactly_same at count n (Some gs) e f =
    let same : length gs ≡ n = cc in
    rw (same, f) refl

-- ---- the groups, one after the other

-- the numbers spell these groups, or there is no number and each of them is empty
pub record Spells (numbers : List ℕ) (groups : Groups) : Type 0 where
  pub either : (groups_in numbers ≡ Some groups) ⊎ ((numbers ≡ []) × (groups ≡ replicate (length groups) []))

written_first : (numbers : List ℕ) (g : List (ℕ × ℕ)) (gs : Groups) → groups_in numbers ≡ Some (g ∷ gs) → (first_group numbers ≡ g) × (groups_in (behind_group numbers) ≡ Some gs)
written_first [] g gs e = absurd cc
written_first (zero ∷ ns) g gs e = by (groups_in ns) e
  where
    by : (o : Option Groups) → option_and_then (λ hs. Some ([] ∷ hs)) o ≡ Some (g ∷ gs) → (([] ≡ g) × (o ≡ Some gs))
    by None e = absurd cc
    by (Some hs) e = (cc, cc)
written_first (suc k ∷ []) g gs e = absurd cc
written_first (suc k ∷ v ∷ ns) g gs e = by (groups_in ns) (λ h hs. written_first ns h hs) e
  where
    by : (o : Option Groups) → ((h : List (ℕ × ℕ)) (hs : Groups) → o ≡ Some (h ∷ hs) → (first_group ns ≡ h) × (groups_in (behind_group ns) ≡ Some hs))
        → option_and_then (into_first (suc k, v)) o ≡ Some (g ∷ gs) → (((suc k, v) ∷ first_group ns) ≡ g) × (groups_in (behind_group ns) ≡ Some gs)
    by None ih e = absurd cc
    by (Some []) ih e = absurd cc
    by (Some (h ∷ hs)) ih e =
        let one = ih h hs refl in
        let head : ((suc k, v) ∷ h) ≡ g = cc in
        let tail : hs ≡ gs = cc in
        (ap (λ l. (suc k, v) ∷ l) one.0 ∙ head, one.1 ∙ ap (λ l. Some l) tail)

pub Spells-first : (numbers : List ℕ) (g : List (ℕ × ℕ)) (gs : Groups) → Spells numbers (g ∷ gs) → (first_group numbers ≡ g) × Spells (behind_group numbers) gs
Spells-first numbers g gs spells = elim spells.either [
  | inl written ↦ (let p = written_first numbers g gs written in (p.0, record { either = inl p.1 }))
  | inr none ↦
      (let head : [] ≡ g = cc none.1 in
      let tail : gs ≡ replicate (length gs) [] = cc none.1 in
      (ap first_group none.0 ∙ head, record { either = inr (ap behind_group none.0, tail) }))
]

exactly_is : (at count : ℕ) (o : Option Groups) (groups : Groups) → exactly at count o ≡ Ok groups → (o ≡ Some groups) × (length groups ≡ count)
exactly_is at count None groups e = absurd cc
exactly_is at count (Some gs) groups e =
    elim (cases_Bool (eqb (length gs) count)) [
      | inl same_count ↦
          (let same : Ok gs ≡ Ok groups = sym (ap (λ b. cond b (Ok gs) (Err (Uneven at))) same_count) ∙ e in
          let them : gs ≡ groups = cc same in
          (ap (λ l. Some l) them, sym (ap (λ l. length l) them) ∙ eqb-true (length gs) count same_count))
      | inr other_count ↦
          (let other : Err (Uneven at) ≡ Ok groups = sym (ap (λ b. cond b (Ok gs) (Err (Uneven at))) other_count) ∙ e in absurd (cc other))
    ]

pub Spells-begun : (at count : ℕ) (numbers : List ℕ) (groups : Groups) → groups_of at count numbers ≡ Ok groups → Spells numbers groups × (length groups ≡ count)
Spells-begun at count [] groups e =
    let them : replicate count [] ≡ groups = cc e in
    let many : length groups ≡ count = sym (ap (λ l. length l) them) ∙ length-replicate count [] in
    (record { either = inr (refl, sym them ∙ ap (λ n. replicate n []) (sym many)) }, many)
Spells-begun at count (n ∷ ns) groups e =
    let p = exactly_is at count (groups_in (n ∷ ns)) groups e in
    (record { either = inl p.0 }, p.1)

-- ---- the tags of a group

-- one pair of a group, and what is behind it
pub group-pair : (table : List (List ℕ)) (at : ℕ) (done : List Tag) (rest behind : List ℕ) (key value : ℕ) → rest ≡ key ∷ value ∷ behind → (key ≡ 0 → ⊥)
    → after done (tags_of table at (first_group rest)) ≡ (after done (tag_of table at (key, value)) >>= λ items. after items (tags_of table at (first_group behind)))
group-pair table at done rest behind zero value e some = absurd (some refl)
group-pair table at done rest behind (suc key) value e some =
    ap (λ l. after done (tags_of table at (first_group l))) e ∙ joined-step done (tag_of table at (suc key, value)) (tags_of table at (first_group behind))

pub behind-pair : (rest behind : List ℕ) (key value : ℕ) → rest ≡ key ∷ value ∷ behind → (key ≡ 0 → ⊥) → behind_group rest ≡ behind_group behind
behind-pair rest behind zero value e some = absurd (some refl)
behind-pair rest behind (suc key) value e some = ap behind_group e

-- the whole, by what is left: the tags so far, and the numbers that are left
pub record GroupSoFar (table table_now : List (List ℕ)) (at : ℕ) (numbers : List ℕ) (done : List Tag) (rest : List ℕ) : Type 0 where
  pub tags : tags_of table at (first_group numbers) ≡ after done (tags_of table at (first_group rest))
  pub behind : behind_group numbers ≡ behind_group rest
  pub kept : table_now ≡ table

pub group_read-is : (table : List (List ℕ)) (at : ℕ) (numbers : List ℕ) (tags : List Tag) (behind : List ℕ) → tags_of table at (first_group numbers) ≡ Ok tags → behind_group numbers ≡ behind → group_read table at numbers ≡ Ok (tags, behind)
unfolding group_read
group_read-is table at numbers tags behind e f = rw (e, f) refl

pub group_read-fault : (table : List (List ℕ)) (at : ℕ) (numbers : List ℕ) (d : ObjectFault) → tags_of table at (first_group numbers) ≡ Err d → group_read table at numbers ≡ Err d
unfolding group_read
group_read-fault table at numbers d e = rw e refl

-- where a group ends: at a 0, inside a pair, or with the numbers
pub ended-closed : (table : List (List ℕ)) (at : ℕ) (done : List Tag) (rest behind : List ℕ) (key : ℕ) → rest ≡ key ∷ behind → key ≡ 0 → (after done (tags_of table at (first_group rest)) ≡ Ok done) × (behind_group rest ≡ behind)
ended-closed table at done rest behind zero e closed = (ap (λ l. after done (tags_of table at (first_group l))) e ∙ ap (λ l. Ok l) (append-nil done), ap behind_group e)
ended-closed table at done rest behind (suc key) e closed = absurd cc

pub ended-cut : (table : List (List ℕ)) (at : ℕ) (done : List Tag) (rest behind : List ℕ) (key : ℕ) → rest ≡ key ∷ behind → behind ≡ [] → (key ≡ 0 → ⊥) → (after done (tags_of table at (first_group rest)) ≡ Ok done) × (behind_group rest ≡ behind)
ended-cut table at done rest behind zero e none some = absurd (some refl)
ended-cut table at done rest behind (suc key) e none some =
    let same : rest ≡ suc key ∷ [] = e ∙ ap (λ l. suc key ∷ l) none in
    (ap (λ l. after done (tags_of table at (first_group l))) same ∙ ap (λ l. Ok l) (append-nil done), ap behind_group same ∙ sym none)

pub ended-all : (table : List (List ℕ)) (at : ℕ) (done : List Tag) (rest : List ℕ) → rest ≡ [] → (after done (tags_of table at (first_group rest)) ≡ Ok done) × (behind_group rest ≡ rest)
ended-all table at done rest none =
    (ap (λ l. after done (tags_of table at (first_group l))) none ∙ ap (λ l. Ok l) (append-nil done), ap behind_group none ∙ sym none)

-- ---- whether there are so many groups

-- what is counted, by what is left
pub record CountSoFar (numbers rest : List ℕ) (groups : ℕ) : Type 0 where
  pub same : option_map (λ gs. length gs) (groups_in numbers) ≡ counted groups rest
  pub within : groups + length rest ≤ length numbers

pub count-pair : (numbers rest behind : List ℕ) (groups key : ℕ) → CountSoFar numbers rest groups → rest ≡ key ∷ behind → (key ≡ 0 → ⊥) → 2 ≤ length behind → CountSoFar numbers (take (length behind - 1) (drop 1 behind)) groups
count-pair numbers rest [] groups key so_far e some h = absurd (omega arith)
count-pair numbers rest (v ∷ []) groups key so_far e some h = absurd (omega arith)
count-pair numbers rest (v ∷ n ∷ ns) groups key so_far e some h =
    let whole : take (length (v ∷ n ∷ ns) - 1) (n ∷ ns) ≡ n ∷ ns = take_all (length (v ∷ n ∷ ns) - 1) (n ∷ ns) (omega arith) in
    let shorter : length rest ≡ suc (suc (suc (length ns))) = ap (λ l. length l) e in
    rw whole (record { same = so_far.same ∙ ap (counted groups) e ∙ counted-pair groups key v n ns some; within = omega (arith, so_far.within) })

pub count-cut : (at count : ℕ) (numbers rest behind : List ℕ) (groups key : ℕ) → CountSoFar numbers rest groups → 0 < length numbers → rest ≡ key ∷ behind → (key ≡ 0 → ⊥) → length behind < 2 → groups_of at count numbers ≡ Err (Uneven at)
count-cut at count [] rest behind groups key so_far some e h short = absurd (omega arith)
count-cut at count (n ∷ ns) rest behind groups key so_far some e h short =
    exactly_none at count (groups_in (n ∷ ns)) (so_far.same ∙ ap (counted groups) e ∙ counted-cut groups key behind h short)

pub count-same : (at count : ℕ) (numbers rest : List ℕ) (groups : ℕ) → CountSoFar numbers rest groups → 0 < length numbers → rest ≡ [] → eqb groups count ≡ true → IsOk (groups_of at count numbers)
count-same at count [] rest groups so_far some e f = absurd (omega arith)
count-same at count (n ∷ ns) rest groups so_far some e f =
    exactly_same at count groups (groups_in (n ∷ ns)) (so_far.same ∙ ap (counted groups) e ∙ ap (λ k. Some k) (zero-add groups)) f

pub count-other : (at count : ℕ) (numbers rest : List ℕ) (groups : ℕ) → CountSoFar numbers rest groups → 0 < length numbers → rest ≡ [] → eqb groups count ≡ false → groups_of at count numbers ≡ Err (Uneven at)
count-other at count [] rest groups so_far some e f = absurd (omega arith)
count-other at count (n ∷ ns) rest groups so_far some e f =
    exactly_other at count groups (groups_in (n ∷ ns)) (so_far.same ∙ ap (counted groups) e ∙ ap (λ k. Some k) (zero-add groups)) f
