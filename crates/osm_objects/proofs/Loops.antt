-- Loops over lists: what is done, and what is left.
use Rattle.std.proofs.Common.{◌≡◌, ℕ, ◌+◌, ◌<◌, ◌≤◌, ℤ, List, [], ◌∷◌, ◌++◌, length, get_or, drop, Result, Ok, Err, refl, sym, ap, ◌∙◌, append_assoc, append-nil}
use Rattle.std.specs.List.{zip}
use Rattle.std.proofs.lemmas.List.{drop_more, drop_all}
use Rattle.osm_model.specs.declared.tags.Tag.{Tag}
use Rattle.osm_model.specs.declared.relations.Member.{Member}
use Rattle.osm_model.specs.declared.relations.MemberKind.{MemberKind}
use Rattle.osm_objects.specs.declared.fault.ObjectFault.{ObjectFault}
use Rattle.osm_objects.specs.Steps.{◌>>=◌, each}
use Rattle.osm_objects.specs.Tags.{text_at, tag_of, tags_of}
use Rattle.osm_objects.specs.Relations.{members_of}
use Rattle.osm_objects.specs.Answers.{after}
use Rattle.osm_objects.proofs.Results.{after_after}

-- the element at a place, and those behind it
pub at_place : {A : Type 0} (xs : List A) (i : ℕ) (x d : A) → i < length xs → x ≡ get_or xs i d → drop i xs ≡ x ∷ drop (i + 1) xs
at_place xs i x d h r = drop_more xs i d h ∙ ap (λ z. z ∷ drop (i + 1) xs) (sym r)

-- ---- one value for each item

pub each-more : {A B : Type 0} (f : A → Result B ObjectFault) (done : List B) (xs : List A) (i : ℕ) (x d : A) → i < length xs → x ≡ get_or xs i d
    → after done (each f (drop i xs)) ≡ (f x >>= λ y. after (done ++ y ∷ []) (each f (drop (i + 1) xs)))
each-more f done xs i x d h r =
    ap (λ l. after done (each f l)) (at_place xs i x d h r) ∙ each_cons f done (f x) (each f (drop (i + 1) xs))
  where
    each_cons : {A B : Type 0} (f : A → Result B ObjectFault) (done : List B) (one : Result B ObjectFault) (rest : Result (List B) ObjectFault)
        → after done (one >>= λ y. rest >>= λ ys. Ok (y ∷ ys)) ≡ (one >>= λ y. after (done ++ y ∷ []) rest)
    each_cons f done (Ok y) rest = after_after done (y ∷ []) rest
    each_cons f done (Err d) rest = refl

pub each-end : {A B : Type 0} (f : A → Result B ObjectFault) (done : List B) (xs : List A) (i : ℕ) → length xs ≤ i → after done (each f (drop i xs)) ≡ Ok done
each-end f done xs i h = ap (λ l. after done (each f l)) (drop_all i xs h) ∙ ap (λ l. Ok l) (append-nil done)

-- ---- a list of values for each item

pub joined-step : {B : Type 0} (done : List B) (one rest : Result (List B) ObjectFault)
    → after done (one >>= λ ys. rest >>= λ more. Ok (ys ++ more)) ≡ (after done one >>= λ items. after items rest)
joined-step done (Ok ys) (Ok more) = ap (λ l. Ok l) (sym (append_assoc done ys more))
joined-step done (Ok ys) (Err d) = refl
joined-step done (Err d) rest = refl

-- ---- the tags of two lists

abbrev pub tags_left : List (List ℕ) → ℕ → List ℕ → List ℕ → ℕ → Result (List Tag) ObjectFault
tags_left table at keys values i = tags_of table at (zip (drop i keys) (drop i values))

pub tags-more : (table : List (List ℕ)) (at : ℕ) (done : List Tag) (keys values : List ℕ) (i k v : ℕ) → i < length keys → i < length values → k ≡ get_or keys i 0 → v ≡ get_or values i 0
    → after done (tags_left table at keys values i) ≡ (after done (tag_of table at (k, v)) >>= λ items. after items (tags_left table at keys values (i + 1)))
tags-more table at done keys values i k v hk hv rk rv =
    ap (λ l. after done (tags_of table at (zip l (drop i values)))) (at_place keys i k 0 hk rk)
    ∙ ap (λ l. after done (tags_of table at (zip (k ∷ drop (i + 1) keys) l))) (at_place values i v 0 hv rv)
    ∙ joined-step done (tag_of table at (k, v)) (tags_left table at keys values (i + 1))

pub tags-end : (table : List (List ℕ)) (at : ℕ) (done : List Tag) (keys values : List ℕ) (i : ℕ) → length keys ≤ i → after done (tags_left table at keys values i) ≡ Ok done
tags-end table at done keys values i h =
    ap (λ l. after done (tags_of table at (zip l (drop i values)))) (drop_all i keys h) ∙ ap (λ l. Ok l) (append-nil done)

-- ---- the members of three lists

abbrev pub members_left : List (List ℕ) → ℕ → List ℕ → List ℤ → List MemberKind → ℕ → Result (List Member) ObjectFault
members_left table at roles ids kinds i = members_of table at (drop i roles) (drop i ids) (drop i kinds)

members_cons : (done : List Member) (id : ℤ) (kind : MemberKind) (one : Result (List ℕ) ObjectFault) (rest : Result (List Member) ObjectFault)
    → after done (one >>= λ text. rest >>= λ members. Ok (record { role = text; kind = kind; id = id } ∷ members)) ≡ (one >>= λ text. after (done ++ record { role = text; kind = kind; id = id } ∷ []) rest)
members_cons done id kind (Ok text) rest = after_after done (record { role = text; kind = kind; id = id } ∷ []) rest
members_cons done id kind (Err d) rest = refl

pub members-more : (table : List (List ℕ)) (at : ℕ) (done : List Member) (roles : List ℕ) (ids : List ℤ) (kinds : List MemberKind) (i role : ℕ) (id : ℤ) (kind : MemberKind) (d : ℤ) (e : MemberKind)
    → i < length roles → i < length ids → i < length kinds → role ≡ get_or roles i 0 → id ≡ get_or ids i d → kind ≡ get_or kinds i e
    → after done (members_left table at roles ids kinds i) ≡ (text_at table at role >>= λ text. after (done ++ record { role = text; kind = kind; id = id } ∷ []) (members_left table at roles ids kinds (i + 1)))
members-more table at done roles ids kinds i role id kind d e hr hi hk rr ri rk =
    ap (λ l. after done (members_of table at l (drop i ids) (drop i kinds))) (at_place roles i role 0 hr rr)
    ∙ ap (λ l. after done (members_of table at (role ∷ drop (i + 1) roles) l (drop i kinds))) (at_place ids i id d hi ri)
    ∙ ap (λ l. after done (members_of table at (role ∷ drop (i + 1) roles) (id ∷ drop (i + 1) ids) l)) (at_place kinds i kind e hk rk)
    ∙ members_cons done id kind (text_at table at role) (members_left table at roles ids kinds (i + 1))

pub members-end : (table : List (List ℕ)) (at : ℕ) (done : List Member) (roles : List ℕ) (ids : List ℤ) (kinds : List MemberKind) (i : ℕ) → length roles ≤ i → after done (members_left table at roles ids kinds i) ≡ Ok done
members-end table at done roles ids kinds i h =
    ap (λ l. after done (members_of table at l (drop i ids) (drop i kinds))) (drop_all i roles h) ∙ ap (λ l. Ok l) (append-nil done)

-- ---- a loop that uses the string table

-- the whole is what is left gives; the table is as it was
pub record Going {A : Type 0} (whole now : A) (table table_now : List (List ℕ)) : Type 0 where
  pub same : whole ≡ now
  pub kept : table_now ≡ table
