-- Names stay as they are where texts are added after theirs.
use Rattle.std.proofs.Common.{◌≡◌, ℕ, ◌-◌, ◌<◌, ◌≤◌, refl, sym, ◌∙◌, ap, subst, List, [], ◌∷◌, ◌++◌, length, map, take, drop, get_or, arith}
use Rattle.std.specs.Prelude.{Result, Ok, Err, OnErr, All, slice_range, slice_get, Option, Some, None, Bool, true, false, codes, cond}
use Rattle.std.specs.List.{dedup}
use Rattle.std.specs.Str.{bytes_eq}
use Rattle.std.proofs.lemmas.List.{drop-append-le, take-append-le, length-drop, length-append, map-append, drop_at, take_all, get_or_append_left, append-nil, take-map, drop-map, get_or-map, length-map}
use Rattle.std.proofs.lemmas.List.Elements.{All-head, All-tail, All-push}
use Rattle.std.proofs.lemmas.Option.{get_or_from_slice_get, slice_get_within}
use Rattle.osm_model.specs.Grew.{Grew}
use Rattle.osm_model.specs.declared.tags.Tag.{Tag}
use Rattle.osm_model.specs.Tags.{value_of}
use Rattle.way_tags.specs.Names.{shown_text}
use Rattle.road_pieces.specs.Rules.{names_of}
use Rattle.road_pieces.specs.NameRows.{text_of, AreNumbers}

pub longer : {X : Type 0} (a b : List X) → Grew a b → length a ≤ length b
longer a b g = let is : length b ≡ length (a ++ g.more) = ap length g.is in omega (arith, is, length-append a g.more)

names_append : (texts more : List (List ℕ)) (numbers : List ℕ) → AreNumbers texts numbers → map (text_of (texts ++ more)) numbers ≡ map (text_of texts) numbers
names_append texts more [] h = refl
names_append texts more (n ∷ numbers) h =
    ap (λ t. t ∷ map (text_of (texts ++ more)) numbers) (get_or_append_left texts more [] n (All-head (λ m. m < length texts) n numbers h)) ∙ ap (λ l. text_of texts n ∷ l) (names_append texts more numbers (All-tail (λ m. m < length texts) n numbers h))

names_stay : (texts new : List (List ℕ)) (numbers : List ℕ) → AreNumbers texts numbers → Grew texts new → map (text_of new) numbers ≡ map (text_of texts) numbers
names_stay texts new numbers h g = ap (λ t. map (text_of t) numbers) g.is ∙ names_append texts g.more numbers h

-- more texts leave the names
pub names_kept : (old texts new : List (List ℕ)) (numbers numbers' : List ℕ) → map (text_of texts) numbers ≡ old → AreNumbers texts numbers → Grew texts new → numbers' ≡ numbers → map (text_of new) numbers' ≡ old
names_kept old texts new numbers numbers' e h g same = ap (map (text_of new)) same ∙ (names_stay texts new numbers h g ∙ e)

pub numbers_stay : (texts new : List (List ℕ)) (numbers : List ℕ) → AreNumbers texts numbers → Grew texts new → AreNumbers new numbers
numbers_stay texts new numbers h g = λ k d l. omega (arith, h k d l, longer texts new g)

-- a name behind the others
pub name_behind : (old texts new : List (List ℕ)) (numbers numbers' : List ℕ) (n : ℕ) (name : List ℕ) → map (text_of texts) numbers ≡ old → AreNumbers texts numbers → Grew texts new → slice_get new n ≡ Some name → numbers' ≡ numbers ++ n ∷ [] → map (text_of new) numbers' ≡ old ++ name ∷ []
name_behind old texts new numbers numbers' n name e h g is pushed =
    ap (map (text_of new)) pushed ∙ (map-append (text_of new) numbers (n ∷ []) ∙
    (ap (λ l. l ++ text_of new n ∷ []) (names_stay texts new numbers h g ∙ e) ∙ ap (λ t. old ++ t ∷ []) (get_or_from_slice_get new n name [] is)))

pub numbers_more : (texts new : List (List ℕ)) (numbers numbers' : List ℕ) (n : ℕ) (name : List ℕ) → AreNumbers texts numbers → Grew texts new → slice_get new n ≡ Some name → numbers' ≡ numbers ++ n ∷ [] → AreNumbers new numbers'
numbers_more texts new numbers numbers' n name h g is pushed =
    subst (AreNumbers new) (sym pushed) (All-push (λ m. m < length new) numbers n (numbers_stay texts new numbers h g) (slice_get_within new n name is))

-- a part of the names is the names of a part
pub part_is : (old texts texts' : List (List ℕ)) (numbers : List ℕ) (from to : ℕ) → map (text_of texts) numbers ≡ old → texts' ≡ texts → map (text_of texts') (slice_range numbers from to) ≡ slice_range old from to
part_is old texts texts' numbers from to e same =
    ap (λ t. map (text_of t) (slice_range numbers from to)) same ∙ (sym (take-map (text_of texts) (to - from) (drop from numbers)) ∙
    (ap (take (to - from)) (sym (drop-map (text_of texts) from numbers)) ∙ ap (λ l. slice_range l from to) e))

-- the name at a place
pub name_at : (old texts : List (List ℕ)) (numbers : List ℕ) (i : ℕ) (d : List ℕ) → map (text_of texts) numbers ≡ old → i < length numbers → get_or old i d ≡ text_of texts (get_or numbers i 0)
name_at old texts numbers i d e l = ap (λ o. get_or o i d) (sym e) ∙ get_or-map (text_of texts) numbers i 0 d l

-- a way has no more than two names
few_by : (one two : List (List ℕ)) → length one ≤ 1 → length two ≤ 1 → length (dedup bytes_eq (one ++ two)) ≤ 2
few_by [] [] h l = omega arith
few_by [] (b ∷ []) h l = omega arith
few_by (a ∷ []) [] h l = omega arith
few_by (a ∷ []) (b ∷ []) h l = by (bytes_eq b a)
  where
    by : (same : Bool) → length (cond same (a ∷ []) (a ∷ (b ∷ []))) ≤ 2
    by true = omega arith
    by false = omega arith
few_by (a ∷ (c ∷ one)) two h l = absurd (omega arith)
few_by one (b ∷ (d ∷ two)) h l = absurd (omega arith)

shown_once : (text : Option (List ℕ)) → length (shown_text text) ≤ 1
shown_once None = omega arith
shown_once (Some []) = omega arith
shown_once (Some (byte ∷ bytes)) = omega arith

few_names : (tags : List Tag) → length (names_of tags) ≤ 2
unfolding names_of
few_names tags = few_by (shown_text (value_of (codes "name") tags)) (shown_text (value_of (codes "ref") tags)) (shown_once (value_of (codes "name") tags)) (shown_once (value_of (codes "ref") tags))

pub named_few : (names : List (List ℕ)) (tags : List Tag) → names ≡ names_of tags → length names ≤ 2
named_few names tags e = omega (arith, ap length e, few_names tags)
