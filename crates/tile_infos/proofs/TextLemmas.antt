-- Where texts stand among others, and that they stay there where more are put behind.
use Rattle.std.proofs.Common.{◌≡◌, ℕ, zero, suc, Bool, true, false, cond, ◌||◌, List, [], ◌∷◌, ◌++◌, length, map, refl, sym, ap, ◌∙◌, subst, inl, inr, true≢false}
use Rattle.std.specs.List.{list_any}
use Rattle.std.specs.Str.{bytes_eq}
use Rattle.std.proofs.lemmas.Bool.{cases_Bool, false≢true, cond-true, cond-false}
use Rattle.std.proofs.lemmas.List.{map-append}
use Rattle.std.proofs.lemmas.List.Folds.{list_any-append}
use Rattle.std.proofs.lemmas.Slice.Eq.{bytes_eq-Decides}
use Rattle.osm_model.specs.Grew.{Grew}
use Rattle.osm_model.proofs.TextLemmas.{grew_none, grew_twice}
use Rattle.tile_infos.specs.TileTexts.{with_text, texts_once, text_place}

pub itself : (t : List ℕ) → bytes_eq t t ≡ true
itself t = (bytes_eq-Decides t t).1 refl

pub or_left : (a b : Bool) → a ≡ true → (a || b) ≡ true
or_left true b e = refl
or_left false b e = absurd (false≢true e)

pub or_right : (a b : Bool) → b ≡ true → (a || b) ≡ true
or_right true b e = refl
or_right false b e = e

pub or_false : (b : Bool) → (b || false) ≡ b
or_false true = refl
or_false false = refl

-- ---- places

kept_at : (b rest : Bool) (n m : ℕ) → (rest ≡ true → n ≡ m) → (b || rest) ≡ true → cond b zero (suc n) ≡ cond b zero (suc m)
kept_at true rest n m h e = refl
kept_at false rest n m h e = ap suc (h e)

-- a text that is there stays at its place
pub place_stays : (ts more : List (List ℕ)) (t : List ℕ) → list_any (bytes_eq t) ts ≡ true → text_place (ts ++ more) t ≡ text_place ts t
place_stays [] more t h = absurd (false≢true h)
place_stays (s ∷ ts) more t h =
    kept_at (bytes_eq t s) (list_any (bytes_eq t) ts) (text_place (ts ++ more) t) (text_place ts t) (place_stays ts more t) h

behind_at : (b rest : Bool) (n k : ℕ) → (rest ≡ false → n ≡ k) → (b || rest) ≡ false → cond b zero (suc n) ≡ suc k
behind_at true rest n k h e = absurd (true≢false e)
behind_at false rest n k h e = ap suc (h e)

-- a text that is new stands behind the others
pub place_behind : (ts : List (List ℕ)) (t : List ℕ) → list_any (bytes_eq t) ts ≡ false → text_place (ts ++ t ∷ []) t ≡ length ts
place_behind [] t h = cond-true (bytes_eq t t) zero (suc zero) (itself t)
place_behind (s ∷ ts) t h =
    behind_at (bytes_eq t s) (list_any (bytes_eq t) ts) (text_place (ts ++ t ∷ []) t) (length ts) (place_behind ts t) h

-- the places of texts that are there stay
pub places_stay : (ts more xs : List (List ℕ)) → ((t : List ℕ) → list_any (bytes_eq t) xs ≡ true → list_any (bytes_eq t) ts ≡ true) → map (text_place (ts ++ more)) xs ≡ map (text_place ts) xs
places_stay ts more [] h = refl
places_stay ts more (x ∷ xs) h =
    ap (λ n. n ∷ map (text_place (ts ++ more)) xs) (place_stays ts more x (h x (or_left (bytes_eq x x) (list_any (bytes_eq x) xs) (itself x))))
    ∙ ap (λ l. text_place ts x ∷ l) (places_stay ts more xs (λ t e. h t (or_right (bytes_eq t x) (list_any (bytes_eq t) xs) e)))

-- ---- each text once

pub grew_with : (before : List (List ℕ)) (t : List ℕ) → Grew before (with_text before t)
grew_with before t = elim (list_any (bytes_eq t) before) as (λ b. Grew before (cond b before (before ++ t ∷ []))) [ true ↦ grew_none before | false ↦ record { more = t ∷ []; is = refl } ]

pub grew_once : (xs before : List (List ℕ)) → Grew before (texts_once before xs)
grew_once [] before = grew_none before
grew_once (x ∷ xs) before = grew_twice before (with_text before x) (texts_once (with_text before x) xs) (grew_with before x) (grew_once xs (with_text before x))

pub once_append : (xs ys before : List (List ℕ)) → texts_once before (xs ++ ys) ≡ texts_once (texts_once before xs) ys
once_append [] ys before = refl
once_append (x ∷ xs) ys before = once_append xs ys (with_text before x)

has_grown : (t : List ℕ) (a b : List (List ℕ)) → Grew a b → list_any (bytes_eq t) a ≡ true → list_any (bytes_eq t) b ≡ true
has_grown t a b g h = ap (list_any (bytes_eq t)) g.is ∙ list_any-append (bytes_eq t) a g.more ∙ or_left (list_any (bytes_eq t) a) (list_any (bytes_eq t) g.more) h

pub pushed_has : (before : List (List ℕ)) (t : List ℕ) → list_any (bytes_eq t) (before ++ t ∷ []) ≡ true
pushed_has before t = list_any-append (bytes_eq t) before (t ∷ []) ∙ or_right (list_any (bytes_eq t) before) (list_any (bytes_eq t) (t ∷ [])) (or_left (bytes_eq t t) false (itself t))

with_has : (before : List (List ℕ)) (t : List ℕ) → list_any (bytes_eq t) (with_text before t) ≡ true
with_has before t = elim (cases_Bool (list_any (bytes_eq t) before)) [
  | inl there ↦ ap (list_any (bytes_eq t)) (cond-true (list_any (bytes_eq t) before) before (before ++ t ∷ []) there) ∙ there
  | inr new ↦ ap (list_any (bytes_eq t)) (cond-false (list_any (bytes_eq t) before) before (before ++ t ∷ []) new) ∙ pushed_has before t
]

-- each of the texts is there
pub once_has : (xs before : List (List ℕ)) (t : List ℕ) → list_any (bytes_eq t) xs ≡ true → list_any (bytes_eq t) (texts_once before xs) ≡ true
once_has [] before t h = absurd (false≢true h)
once_has (x ∷ xs) before t h = elim (cases_Bool (bytes_eq t x)) [
  | inl same ↦ (
      let e : t ≡ x = (bytes_eq-Decides t x).0 same in
      has_grown t (with_text before x) (texts_once (with_text before x) xs) (grew_once xs (with_text before x)) (subst (λ s. list_any (bytes_eq s) (with_text before x) ≡ true) (sym e) (with_has before x))
      )
  | inr other ↦ once_has xs (with_text before x) t (sym (ap (λ b. b || list_any (bytes_eq t) xs) other) ∙ h)
]

-- one name more of a piece: the texts, and the places of the names so far
pub once_step : (before xs part texts new : List (List ℕ)) (t : List ℕ) → part ≡ xs ++ t ∷ [] → texts ≡ texts_once before xs → new ≡ with_text texts t → new ≡ texts_once before part
once_step before xs part texts new t next at grew =
    grew ∙ ap (λ l. with_text l t) at ∙ sym (once_append xs (t ∷ []) before) ∙ ap (texts_once before) (sym next)

pub names_step : (before xs part texts new : List (List ℕ)) (t : List ℕ) (places new_places : List ℕ) (place : ℕ)
    → part ≡ xs ++ t ∷ [] → texts ≡ texts_once before xs → new ≡ with_text texts t → place ≡ text_place new t → places ≡ map (text_place texts) xs → new_places ≡ places ++ place ∷ []
    → new_places ≡ map (text_place new) part
names_step before xs part texts new t places new_places place next at grew here old pushed =
    let g = grew_with texts t in
    let is : new ≡ texts ++ g.more = grew ∙ g.is in
    let all : (s : List ℕ) → list_any (bytes_eq s) xs ≡ true → list_any (bytes_eq s) texts ≡ true = λ s e. ap (list_any (bytes_eq s)) at ∙ once_has xs before s e in
    let stay : map (text_place new) xs ≡ places = ap (λ l. map (text_place l) xs) is ∙ places_stay texts g.more xs all ∙ sym old in
    pushed ∙ sym (ap (map (text_place new)) next ∙ map-append (text_place new) xs (t ∷ []) ∙ ap (λ l. l ++ text_place new t ∷ []) stay ∙ ap (λ n. places ++ n ∷ []) (sym here))

-- a copy of a text stands where the text was put
pub copy_pushed : (old new : List (List ℕ)) (copy t : List ℕ) → new ≡ old ++ copy ∷ [] → copy ≡ t → new ≡ old ++ t ∷ []
copy_pushed old new copy t is same = is ∙ ap (λ s. old ++ s ∷ []) same

pub place_pushed : (old new : List (List ℕ)) (t : List ℕ) (place : ℕ) → place ≡ length old → new ≡ old ++ t ∷ [] → list_any (bytes_eq t) old ≡ false → place ≡ text_place new t
place_pushed old new t place at is none = at ∙ sym (ap (λ l. text_place l t) is ∙ place_behind old t none)
