-- The places of the known keys, from one tag to the tag before it.
use Rattle.std.proofs.Common.{◌≡◌, ℕ, ◌+◌, ◌<◌, suc, cond, eqb, sym, subst, ap, ◌∙◌, List, ◌∷◌, length, get_or, set, drop, arith, inl, inr, get_or-set_same, get_or-set_other, add-one}
use Rattle.std.specs.Prelude.{Some, option_map, slice_get}
use Rattle.std.specs.Str.{bytes_eq}
use Rattle.std.proofs.Math.Seq.{drop-cons, drop-length}
use Rattle.std.proofs.lemmas.Bool.{cases_eq, eq-eqb, ne_eqb, cond-true, cond-false}
use Rattle.std.proofs.lemmas.Option.{slice_get-get_or, slice_get_past}
use Rattle.osm_model.specs.declared.tags.Tag.{Tag}
use Rattle.osm_model.specs.Tags.{value_of}
use Rattle.way_tags.specs.KnownKeys.{known_key, ArePlaces}

-- before any tag
pub places_none : (tags : List Tag) (n : ℕ) (places : List ℕ) → n ≡ length tags → ((k : ℕ) → k < 19 → get_or places k 0 ≡ n) → ArePlaces tags n places
places_none tags n places all at k h =
    ap (λ p. option_map (λ (tag : Tag). tag.value) (slice_get tags p)) (at k h)
    ∙ ap (λ o. option_map (λ (tag : Tag). tag.value) o) (slice_get_past tags n (omega (arith, all)))
    ∙ sym (ap (λ m. value_of (known_key k) (drop m tags)) all ∙ ap (value_of (known_key k)) (drop-length tags))

-- one tag more
pub places_more : (tags : List Tag) (i : ℕ) (places : List ℕ) (number : ℕ) (d : Tag) → i < length tags → length places ≡ 20 → ((k : ℕ) → k < 19 → bytes_eq (get_or tags i d).key (known_key k) ≡ eqb k number) → ArePlaces tags (i + 1) places → ArePlaces tags i (set places number i)
places_more tags i places number d inside long tells rest k h =
    let cut : drop i tags ≡ get_or tags i d ∷ drop (suc i) tags = drop-cons tags i d inside in
    let rest_is : option_map (λ (tag : Tag). tag.value) (slice_get tags (get_or places k 0)) ≡ value_of (known_key k) (drop (suc i) tags) = rw add-one at (rest k h) in
    let whole : value_of (known_key k) (drop i tags) ≡ cond (bytes_eq (get_or tags i d).key (known_key k)) (Some (get_or tags i d).value) (value_of (known_key k) (drop (suc i) tags)) = ap (value_of (known_key k)) cut in
    elim (cases_eq k number) [
      | inl same ↦
          ap (λ p. option_map (λ (tag : Tag). tag.value) (slice_get tags p)) (subst (λ n. get_or (set places n i) k 0 ≡ i) same (get_or-set_same places k i 0 (omega (arith, long, h))))
          ∙ ap (λ o. option_map (λ (tag : Tag). tag.value) o) (slice_get-get_or tags i d inside)
          ∙ sym (whole ∙ cond-true (bytes_eq (get_or tags i d).key (known_key k)) (Some (get_or tags i d).value) (value_of (known_key k) (drop (suc i) tags)) (tells k h ∙ eq-eqb k number same))
      | inr other ↦
          ap (λ p. option_map (λ (tag : Tag). tag.value) (slice_get tags p)) (get_or-set_other places number k i 0 other)
          ∙ rest_is
          ∙ sym (whole ∙ cond-false (bytes_eq (get_or tags i d).key (known_key k)) (Some (get_or tags i d).value) (value_of (known_key k) (drop (suc i) tags)) (tells k h ∙ ne_eqb k number other))
    ]
