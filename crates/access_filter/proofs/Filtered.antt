-- What a filter finds in a list, element by element.
use Rattle.std.proofs.Common.{◌≡◌, ℕ, ◌+◌, ◌<◌, ◌≤◌, Bool, true, false, List, [], ◌∷◌, ◌++◌, length, take, drop, get_or, map, sym, ap, ◌∙◌, arith, cond, ltb}
use Rattle.std.specs.List.{filter}
use Rattle.std.proofs.lemmas.Bool.{lt-ltb}
use Rattle.std.proofs.lemmas.List.{take_all, take_more, take-append-drop, length-append, map-append}
use Rattle.std.proofs.lemmas.List.Elements.{filter-append, filter_more}

pub none_more : {X : Type 0} (p : X → Bool) (xs : List X) (i : ℕ) (x : X) → i < length xs → x ≡ get_or xs i x → p x ≡ false
    → filter p (take i xs) ≡ [] → filter p (take (i + 1) xs) ≡ []
none_more p xs i x inside here left none =
    filter_more p xs i x inside
    ∙ ap (λ ys. ys ++ cond (p (get_or xs i x)) (get_or xs i x ∷ []) []) none
    ∙ ap (λ b. cond b (get_or xs i x ∷ []) []) (ap p (sym here) ∙ left)

pub some_found : {X : Type 0} (p : X → Bool) (xs : List X) (i : ℕ) (x : X) → i < length xs → x ≡ get_or xs i x → p x ≡ true
    → ltb 0 (length (filter p xs)) ≡ true
some_found p xs i x inside here is =
    let one : filter p (take (i + 1) xs) ≡ filter p (take i xs) ++ get_or xs i x ∷ [] =
    filter_more p xs i x inside ∙ ap (λ b. filter p (take i xs) ++ cond b (get_or xs i x ∷ []) []) (ap p (sym here) ∙ is) in
    let all : filter p xs ≡ filter p (take (i + 1) xs) ++ filter p (drop (i + 1) xs) =
    ap (filter p) (sym (take-append-drop (i + 1) xs)) ∙ filter-append p (take (i + 1) xs) (drop (i + 1) xs) in
    let some : 0 < length (filter p xs) =
    omega (arith, ap length one, length-append (filter p (take i xs)) (get_or xs i x ∷ []), ap length all, length-append (filter p (take (i + 1) xs)) (filter p (drop (i + 1) xs))) in
    lt-ltb 0 (length (filter p xs)) some

pub none_found : {X : Type 0} (p : X → Bool) (xs : List X) (i : ℕ) → length xs ≤ i → filter p (take i xs) ≡ [] → ltb 0 (length (filter p xs)) ≡ false
none_found p xs i over none =
    ap (λ ys. ltb 0 (length (filter p ys))) (sym (take_all i xs over)) ∙ ap (λ ys. ltb 0 (length ys)) none

-- mapped and filtered, with one element more
pub kept_more : {X Y : Type 0} (f : X → Y) (p : Y → Bool) (xs : List X) (i : ℕ) (x : X) → i < length xs → x ≡ get_or xs i x
    → filter p (map f (take (i + 1) xs)) ≡ filter p (map f (take i xs)) ++ filter p (map f (x ∷ []))
kept_more f p xs i x inside here =
    ap (λ ys. filter p (map f ys)) (take_more xs i x inside ∙ ap (λ y. take i xs ++ y ∷ []) (sym here))
    ∙ ap (filter p) (map-append f (take i xs) (x ∷ []))
    ∙ filter-append p (map f (take i xs)) (map f (x ∷ []))

-- where each element so far is found, and one more, none is left out
pub all_more : {X : Type 0} (p : X → Bool) (xs : List X) (i : ℕ) (x : X) → i < length xs → x ≡ get_or xs i x → p x ≡ true
    → filter p (take i xs) ≡ take i xs → filter p (take (i + 1) xs) ≡ take (i + 1) xs
all_more p xs i x inside here is all =
    filter_more p xs i x inside
    ∙ ap (λ ys. ys ++ cond (p (get_or xs i x)) (get_or xs i x ∷ []) []) all
    ∙ ap (λ b. take i xs ++ cond b (get_or xs i x ∷ []) []) (ap p (sym here) ∙ is)
    ∙ sym (take_more xs i x inside)
