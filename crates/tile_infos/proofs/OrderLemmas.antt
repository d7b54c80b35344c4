-- Each text is named, and texts stand in the order in which they are first named.
use Rattle.std.proofs.Common.{◌≡◌, ◌≢◌, ℕ, zero, suc, ◌+◌, ◌<◌, ◌≤◌, Bool, true, false, cond, ◌||◌, List, [], ◌∷◌, ◌++◌, length, map, refl, sym, ap, ◌∙◌, subst, inl, inr, arith, append_assoc, append-nil, eqb, All}
use Rattle.std.specs.List.{list_any}
use Rattle.std.specs.Str.{bytes_eq}
use Rattle.std.specs.Cmp.Lexicographic.{nat_list_eq_equiv}
use Rattle.std.proofs.lemmas.Bool.{cases_Bool, cases_eq, ne_eqb, eq-eqb, false≢true, cond-true, cond-false}
use Rattle.std.proofs.lemmas.List.{length-append}
use Rattle.std.proofs.lemmas.List.Elements.{All-head, All-tail}
use Rattle.section_grammar.specs.Reads.{AllGood}
use Rattle.edge_info.specs.Texts.{first_place, TextPasses, AreFirstNamed}
use Rattle.tile_infos.specs.TileTexts.{with_text, texts_once, text_place}
use Rattle.tile_infos.specs.TileChecks.{IsRoadName}
use Rattle.tile_infos.proofs.TextLemmas.{place_stays, place_behind, pushed_has, grew_once}

-- ---- each text is new

any_turned : (ts : List (List ℕ)) (t : List ℕ) → list_any (λ s. bytes_eq s t) ts ≡ list_any (bytes_eq t) ts
any_turned [] t = refl
any_turned (s ∷ ts) t = ap (λ b. b || list_any (λ r. bytes_eq r t) ts) (nat_list_eq_equiv.symm s t) ∙ ap (λ b. bytes_eq t s || b) (any_turned ts t)

-- the texts that are put behind others pass the check
pub once_passes : (xs before : List (List ℕ)) → All IsRoadName xs → (more : List (List ℕ)) × (texts_once before xs ≡ before ++ more) × AllGood TextPasses before more
once_passes [] before h = ([], sym (append-nil before), tt)
once_passes (x ∷ xs) before h = elim (cases_Bool (list_any (bytes_eq x) before)) [
  | inl there ↦ (
      let r = once_passes xs before (All-tail IsRoadName x xs h) in
      (r.0, ap (λ b. texts_once b xs) (cond-true (list_any (bytes_eq x) before) before (before ++ x ∷ []) there) ∙ r.1, r.2)
      )
  | inr new ↦ (
      let r = once_passes xs (before ++ x ∷ []) (All-tail IsRoadName x xs h) in
      let name = All-head IsRoadName x xs h in
      let passes : TextPasses before x = record { some = name.some; utf8 = name.utf8; new = any_turned before x ∙ new } in
      (x ∷ r.0, ap (λ b. texts_once b xs) (cond-false (list_any (bytes_eq x) before) before (before ++ x ∷ []) new) ∙ r.1 ∙ append_assoc before (x ∷ []) r.0, (passes, r.2))
      )
]

-- ---- the order

place_inside_at : (b rest : Bool) (n k : ℕ) → (rest ≡ true → n < k) → (b || rest) ≡ true → cond b zero (suc n) < suc k
place_inside_at true rest n k h e = omega arith
place_inside_at false rest n k h e = let l = h e in omega (arith, l)

-- a text that is there has a place among them
pub place_inside : (ts : List (List ℕ)) (t : List ℕ) → list_any (bytes_eq t) ts ≡ true → text_place ts t < length ts
place_inside [] t h = absurd (false≢true h)
place_inside (s ∷ ts) t h = place_inside_at (bytes_eq t s) (list_any (bytes_eq t) ts) (text_place ts t) (length ts) (place_inside ts t) h

-- the texts from number `low` on are named, and first named in order
record FirstFrom (low count : ℕ) (names : List ℕ) : Type 0 where
  named : (i : ℕ) → low ≤ i → i < count → first_place i names < length names
  ordered : (i j : ℕ) → low ≤ i → i < j → j < count → first_place i names < first_place j names

first_here : (i : ℕ) (names : List ℕ) → first_place i (i ∷ names) ≡ 0
first_here i names = cond-true (eqb i i) zero (suc (first_place i names)) (eq-eqb i i refl)

first_later : (n i : ℕ) (names : List ℕ) → n ≢ i → first_place i (n ∷ names) ≡ suc (first_place i names)
first_later n i names apart = cond-false (eqb n i) zero (suc (first_place i names)) (ne_eqb n i apart)

-- a name of a text before these changes nothing
skips : (low count n : ℕ) (names : List ℕ) → n < low → FirstFrom low count names → FirstFrom low count (n ∷ names)
skips low count n names lt h = record {
  named = λ i a b. let l = h.named i a b in let e = first_later n i names (λ e. omega (arith, e, lt, a)) in omega (arith, l, e);
  ordered = λ i j a b d.
      let l = h.ordered i j a b d in
      let e = first_later n i names (λ e. omega (arith, e, lt, a)) in
      let f = first_later n j names (λ e. omega (arith, e, lt, a, b)) in
      omega (arith, l, e, f);
}

-- the name of the first of them stands in front
begins_with : (low count : ℕ) (names : List ℕ) → FirstFrom (low + 1) count names → FirstFrom low count (low ∷ names)
begins_with low count names h = record {
  named = λ i a b. elim (cases_eq i low) [
    | inl same ↦ (let e = subst (λ k. first_place k (low ∷ names) ≡ 0) (sym same) (first_here low names) in omega (arith, e))
    | inr apart ↦ (
        let l = h.named i (omega (arith, a, apart)) b in
        let e = first_later low i names (λ e. apart (sym e)) in
        omega (arith, l, e)
        )
  ];
  ordered = λ i j a b d.
      let f = first_later low j names (λ e. omega (arith, e, a, b)) in
      elim (cases_eq i low) [
        | inl same ↦ (let e = subst (λ k. first_place k (low ∷ names) ≡ 0) (sym same) (first_here low names) in omega (arith, e, f))
        | inr apart ↦ (
            let l = h.ordered i j (omega (arith, a, apart)) b d in
            let e = first_later low i names (λ e. apart (sym e)) in
            omega (arith, l, e, f)
            )
      ];
}

first_from : (xs before : List (List ℕ)) → FirstFrom (length before) (length (texts_once before xs)) (map (text_place (texts_once before xs)) xs)
first_from [] before = record {
  named = λ i a b. absurd (omega (arith, a, b));
  ordered = λ i j a b d. absurd (omega (arith, a, b, d));
}
first_from (x ∷ xs) before = elim (cases_Bool (list_any (bytes_eq x) before)) [
  | inl there ↦ (
      let e : with_text before x ≡ before = cond-true (list_any (bytes_eq x) before) before (before ++ x ∷ []) there in
      let g = grew_once xs before in
      let at : text_place (texts_once before xs) x ≡ text_place before x = ap (λ l. text_place l x) g.is ∙ place_stays before g.more x there in
      let low = place_inside before x there in
      subst (λ b. FirstFrom (length before) (length (texts_once b xs)) (map (text_place (texts_once b xs)) (x ∷ xs))) (sym e)
      (skips (length before) (length (texts_once before xs)) (text_place (texts_once before xs) x) (map (text_place (texts_once before xs)) xs) (omega (arith, at, low)) (first_from xs before))
      )
  | inr new ↦ (
      let b' = before ++ x ∷ [] in
      let e : with_text before x ≡ b' = cond-false (list_any (bytes_eq x) before) before b' new in
      let g = grew_once xs b' in
      let at : text_place (texts_once b' xs) x ≡ length before = ap (λ l. text_place l x) g.is ∙ place_stays b' g.more x (pushed_has before x) ∙ place_behind before x new in
      let next : length b' ≡ length before + 1 = length-append before (x ∷ []) in
      let rest : FirstFrom (length before + 1) (length (texts_once b' xs)) (map (text_place (texts_once b' xs)) xs) = subst (λ n. FirstFrom n (length (texts_once b' xs)) (map (text_place (texts_once b' xs)) xs)) next (first_from xs b') in
      subst (λ b. FirstFrom (length before) (length (texts_once b xs)) (map (text_place (texts_once b xs)) (x ∷ xs))) (sym e)
      (subst (λ n. FirstFrom (length before) (length (texts_once b' xs)) (n ∷ map (text_place (texts_once b' xs)) xs)) (sym at) (begins_with (length before) (length (texts_once b' xs)) (map (text_place (texts_once b' xs)) xs) rest))
      )
]

pub named_in_order : (xs : List (List ℕ)) → AreFirstNamed (map (text_place (texts_once [] xs)) xs) (texts_once [] xs)
named_in_order xs =
    let f = first_from xs [] in
    record {
      named = λ i b. f.named i (omega arith) b;
      ordered = λ i j b d. f.ordered i j (omega arith) b d;
    }
