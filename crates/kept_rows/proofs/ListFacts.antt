-- Lists: filters that agree, and what is mapped.
use Rattle.std.proofs.Common.{◌≡◌, refl, ◌∙◌, ap, List, [], ◌∷◌, map, Bool, true, false, cond, inl, inr}
use Rattle.std.specs.List.{filter, All, slice_index_or}
use Rattle.std.proofs.lemmas.List.Elements.{All-map}
use Rattle.road_pieces.proofs.Members.{IsIn}

-- two tests that agree on the elements keep the same ones
pub filter_alike : {E : Type 0} (f g : E → Bool) (es : List E) → ((e : E) → IsIn es e → f e ≡ g e) → filter f es ≡ filter g es
filter_alike f g [] same = refl
filter_alike f g (e ∷ es) same =
    ap (λ b. cond b (e ∷ filter f es) (filter f es)) (same e (inl refl)) ∙ ap (λ l. cond (g e) (e ∷ l) l) (filter_alike f g es (λ d h. same d (inr h)))

-- a test that no element passes keeps none
pub filter_none : {E : Type 0} (f : E → Bool) (es : List E) → ((e : E) → IsIn es e → f e ≡ false) → filter f es ≡ []
filter_none f [] none = refl
filter_none f (e ∷ es) none =
    ap (λ b. cond b (e ∷ filter f es) (filter f es)) (none e (inl refl)) ∙ filter_none f es (λ d h. none d (inr h))

-- values are kept where a test on their elements says so
pub filter_values : {A B : Type 0} (f : A → B) (test : B → Bool) (its : A → Bool) → ((e : A) → test (f e) ≡ its e) → (es : List A) → filter test (map f es) ≡ map f (filter its es)
filter_values f test its same [] = refl
filter_values f test its same (e ∷ es) =
    ap (λ b. cond b (f e ∷ filter test (map f es)) (filter test (map f es))) (same e) ∙ by (its e) (filter_values f test its same es)
  where
    by : (b : Bool) → filter test (map f es) ≡ map f (filter its es) → cond b (f e ∷ filter test (map f es)) (filter test (map f es)) ≡ map f (cond b (e ∷ filter its es) (filter its es))
    by true rest = ap (λ l. f e ∷ l) rest
    by false rest = rest

-- two ways from elements to values that agree on each
pub map_alike : {A B C D : Type 0} (f : A → B) (g : B → D) (h : A → C) (k : C → D) → ((e : A) → g (f e) ≡ k (h e)) → (es : List A) → map g (map f es) ≡ map k (map h es)
map_alike f g h k same [] = refl
map_alike f g h k same (e ∷ es) = λ i. same e i ∷ map_alike f g h k same es i

-- what holds of each value holds of all
pub all_values : {A B : Type 0} (P : B → Type 0) (f : A → B) → ((e : A) → P (f e)) → (es : List A) → All P (map f es)
all_values P f each es = All-map P f es (λ k d l. each (slice_index_or es k d))
