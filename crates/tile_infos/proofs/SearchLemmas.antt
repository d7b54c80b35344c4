-- The map of places, where a text is put behind the others.
use Rattle.std.proofs.Common.{◌≡◌, ◌<◌, ◌^◌, ℕ, arith, true, false, cond, ◌||◌, List, [], ◌∷◌, ◌++◌, length, Option, Some, None, Bor, sym, ap, ◌∙◌, subst, inl, inr}
use Rattle.std.specs.Ordering.{nat_cmp}
use Rattle.std.specs.BTreeMap.{BTreeMap, get_by, is_at}
use Rattle.std.specs.Map.{update, lookup}
use Rattle.std.specs.Cmp.Lexicographic.{slice_cmp, nat_list_eq_equiv}
use Rattle.std.specs.List.{list_any}
use Rattle.std.specs.Str.{bytes_eq}
use Rattle.std.proofs.lemmas.Bool.{cases_Bool, cond-true, cond-false}
use Rattle.std.proofs.lemmas.List.{length-append}
use Rattle.std.proofs.lemmas.Option.{cond_some, none-some}
use Rattle.std.proofs.lemmas.List.Folds.{list_any-append}
use Rattle.std.proofs.lemmas.Slice.Eq.{bytes_eq-Decides}
use Rattle.tile_infos.specs.TileTexts.{text_place}
use Rattle.tile_infos.specs.TextSearch.{KnowsPlaces}
use Rattle.tile_infos.proofs.TextLemmas.{itself, or_false, place_stays, place_behind, pushed_has}

-- what the map has at a text
abbrev found : List (List ℕ) → List ℕ → Option ℕ
found texts t = cond (list_any (bytes_eq t) texts) (Some (text_place texts t)) None

same_found : (texts new : List (List ℕ)) (t : List ℕ) → list_any (bytes_eq t) new ≡ list_any (bytes_eq t) texts → (list_any (bytes_eq t) texts ≡ true → text_place new t ≡ text_place texts t) → found texts t ≡ found new t
same_found texts new t same place = elim (cases_Bool (list_any (bytes_eq t) texts)) [
  | inl there ↦ cond-true (list_any (bytes_eq t) texts) (Some (text_place texts t)) None there ∙ ap Some (sym (place there)) ∙ sym (cond-true (list_any (bytes_eq t) new) (Some (text_place new t)) None (same ∙ there))
  | inr new_one ↦ cond-false (list_any (bytes_eq t) texts) (Some (text_place texts t)) None new_one ∙ sym (cond-false (list_any (bytes_eq t) new) (Some (text_place new t)) None (same ∙ new_one))
]

found_here : (texts : List (List ℕ)) (t : List ℕ) → list_any (bytes_eq t) texts ≡ false → cond (bytes_eq t t) (Some (length texts)) (found texts t) ≡ found (texts ++ t ∷ []) t
found_here texts t new =
    cond-true (bytes_eq t t) (Some (length texts)) (found texts t) (itself t)
    ∙ ap Some (sym (place_behind texts t new))
    ∙ sym (cond-true (list_any (bytes_eq t) (texts ++ t ∷ [])) (Some (text_place (texts ++ t ∷ []) t)) None (pushed_has texts t))

found_push : (texts : List (List ℕ)) (t other : List ℕ) → list_any (bytes_eq t) texts ≡ false → cond (bytes_eq t other) (Some (length texts)) (found texts other) ≡ found (texts ++ t ∷ []) other
found_push texts t other new = elim (cases_Bool (bytes_eq t other)) [
  | inl same ↦ subst (λ c. cond (bytes_eq t c) (Some (length texts)) (found texts c) ≡ found (texts ++ t ∷ []) c) ((bytes_eq-Decides t other).0 same) (found_here texts t new)
  | inr apart ↦ (
      let not_t : bytes_eq other t ≡ false = nat_list_eq_equiv.symm other t ∙ apart in
      let any : list_any (bytes_eq other) (texts ++ t ∷ []) ≡ list_any (bytes_eq other) texts = list_any-append (bytes_eq other) texts (t ∷ []) ∙ ap (λ b. list_any (bytes_eq other) texts || (b || false)) not_t ∙ or_false (list_any (bytes_eq other) texts) in
      cond-false (bytes_eq t other) (Some (length texts)) (found texts other) apart ∙ same_found texts (texts ++ t ∷ []) other any (place_stays texts (t ∷ []) other)
      )
]

pub knows_none : (known : BTreeMap (Bor (List ℕ)) ℕ) → known.entries ≡ [] → KnowsPlaces known []
knows_none known e = record { each = λ t. ap (lookup (is_at (λ k. slice_cmp nat_cmp t k.now))) e; few = omega arith }

pub knows_more : (known new : BTreeMap (Bor (List ℕ)) ℕ) (texts now : List (List ℕ)) (t : List ℕ) (place : ℕ)
    → ((cs : List ℕ) → get_by (λ k. slice_cmp nat_cmp cs k.now) new ≡ update bytes_eq (λ ds. get_by (λ k. slice_cmp nat_cmp ds k.now) known) t (Some place) cs)
    → KnowsPlaces known texts → list_any (bytes_eq t) texts ≡ false → place ≡ length texts → place < 2 ^ 32 → now ≡ texts ++ t ∷ [] → KnowsPlaces new now
knows_more known new texts now t place h had none at fits is = subst (KnowsPlaces new) (sym is) (record {
  each = λ cs.
      h cs
      ∙ ap (λ o. cond (bytes_eq t cs) (Some place) o) (had.each cs)
      ∙ ap (λ n. cond (bytes_eq t cs) (Some n) (found texts cs)) at
      ∙ found_push texts t cs none;
  few = omega (arith, at, fits, length-append texts (t ∷ []));
})

-- what a look-up says: the text is there, at this place
pub look_up_some : (known : BTreeMap (Bor (List ℕ)) ℕ) (texts : List (List ℕ)) (t : List ℕ) (place : ℕ) → KnowsPlaces known texts → get_by (λ k. slice_cmp nat_cmp t k.now) known ≡ Some place → (list_any (bytes_eq t) texts ≡ true) × (text_place texts t ≡ place)
look_up_some known texts t place had e = cond_some (list_any (bytes_eq t) texts) (text_place texts t) place (sym (had.each t) ∙ e)

-- .. or it isn't
pub look_up_none : (known : BTreeMap (Bor (List ℕ)) ℕ) (texts : List (List ℕ)) (t : List ℕ) → KnowsPlaces known texts → get_by (λ k. slice_cmp nat_cmp t k.now) known ≡ None → list_any (bytes_eq t) texts ≡ false
look_up_none known texts t had e = elim (cases_Bool (list_any (bytes_eq t) texts)) [
  | inl there ↦ absurd (none-some (text_place texts t) (sym e ∙ had.each t ∙ cond-true (list_any (bytes_eq t) texts) (Some (text_place texts t)) None there))
  | inr new ↦ new
]
