-- The first place at which an element of a list without repetition is found is its place; and a part of lists side
-- by side is found by the lengths of those before it.
use Rattle.std.proofs.Common.{◌≡◌, ℕ, zero, suc, ◌<◌, refl, ◌∙◌, ap, List, [], ◌∷◌, ◌++◌, length, get_or, take, drop, Bool, true, false, cond, arith}
use Rattle.std.specs.List.{flat_map}
use Rattle.folder_spec.specs.Tables.{first_index}

pub spot_is : {E : Type 0} (test : E → Bool) (es : List E) (d : E) (i : ℕ) → i < length es → test (get_or es i d) ≡ true → ((j : ℕ) → j < length es → test (get_or es j d) ≡ true → j ≡ i) → first_index test es ≡ i
spot_is test [] d i h passes only = absurd (omega arith)
spot_is test (e ∷ es) d zero h passes only = ap (λ b. cond b 0 (suc (first_index test es))) passes
spot_is test (e ∷ es) d (suc i) h passes only =
    by (test e) refl (spot_is test es d i (omega arith) passes (λ j k p. let same : suc j ≡ suc i = only (suc j) (omega arith) p in omega (arith, same)))
  where
    by : (b : Bool) → test e ≡ b → first_index test es ≡ i → cond b 0 (suc (first_index test es)) ≡ suc i
    by true t rest = let same : zero ≡ suc i = only zero (omega arith) t in absurd (omega (arith, same))
    by false t rest = ap suc rest

-- an element before which so many stand
pub skipped : {E : Type 0} (before rest : List E) → drop (length before) (before ++ rest) ≡ rest
skipped [] rest = refl
skipped (e ∷ before) rest = skipped before rest

pub taken_front : {E : Type 0} (part rest : List E) → take (length part) (part ++ rest) ≡ part
taken_front [] rest = refl
taken_front (e ∷ part) rest = ap (λ l. e ∷ l) (taken_front part rest)

past : {E : Type 0} (front before whole : List E) → drop (length (front ++ before)) (front ++ whole) ≡ drop (length before) whole
past [] before whole = refl
past (e ∷ front) before whole = past front before whole

-- the edges of a node, by the sum of the counts before it
pub part_at : {R E : Type 0} (f : R → List E) (before after : List R) (r : R) → take (length (f r)) (drop (length (flat_map f before)) (flat_map f (before ++ r ∷ after))) ≡ f r
part_at f [] after r = taken_front (f r) (flat_map f after)
part_at f (b ∷ before) after r =
    ap (take (length (f r))) (past (f b) (flat_map f before) (flat_map f (before ++ r ∷ after))) ∙ part_at f before after r
