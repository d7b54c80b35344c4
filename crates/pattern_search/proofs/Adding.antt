-- Lists that stop at a limit.
use Rattle.std.proofs.Common.{◌≡◌, refl, sym, ◌∙◌, ap, subst, ℕ, zero, suc, ◌+◌, ◌≤◌, ◌<◌, List, [], ◌∷◌, ◌++◌, length, take, append_assoc, get_or, arith}
use Rattle.std.specs.Prelude.{map, ◌≢◌, ◌-◌}
use Rattle.std.specs.List.{flat_map}
use Rattle.std.proofs.lemmas.List.{append-nil as append_nil}
use Rattle.pattern_search.specs.Spelling.{AddedUpTo, begun_with, words_with}
use Rattle.pattern_search.specs.Words.{WordSearch, words_of, ended_word, led_words}

take_again : {E : Type 0} (n : ℕ) (a b : List E) → take n (take n a ++ b) ≡ take n (a ++ b)
take_again zero a b = refl
take_again (suc n) [] b = refl
take_again (suc n) (x ∷ a) b = ap (λ l. x ∷ l) (take_again n a b)

take_short : {E : Type 0} (n : ℕ) (a : List E) → length a ≤ n → take n (a ++ []) ≡ a
take_short zero [] h = refl
take_short zero (x ∷ a) h = absurd (omega (arith, h))
take_short (suc n) [] h = refl
take_short (suc n) (x ∷ a) h = ap (λ l. x ∷ l) (take_short n a (omega (arith, h)))

take_full : {E : Type 0} (n : ℕ) (a b : List E) → length a ≡ n → take n (a ++ b) ≡ a
take_full zero [] b h = refl
take_full zero (x ∷ a) b h = absurd (omega (arith, h))
take_full (suc n) [] b h = absurd (omega (arith, h))
take_full (suc n) (x ∷ a) b h = ap (λ l. x ∷ l) (take_full n a b (omega (arith, h)))

take_fits : {E : Type 0} (n : ℕ) (a : List E) → length a ≤ n → take n a ≡ a
take_fits zero [] h = refl
take_fits zero (x ∷ a) h = absurd (omega (arith, h))
take_fits (suc n) [] h = refl
take_fits (suc n) (x ∷ a) h = ap (λ l. x ∷ l) (take_fits n a (omega (arith, h)))

pub added_none : (a : List (List ℕ)) → length a ≤ 257 → AddedUpTo a a []
added_none a h = record { few = h; is = sym (take_short 257 a h) }

pub added_full : (a more : List (List ℕ)) → length a ≤ 257 → 257 ≤ length a → AddedUpTo a a more
added_full a more h k = record { few = h; is = sym (take_full 257 a more (omega (arith, h, k))) }

pub added_more : (a b c m n : List (List ℕ)) → AddedUpTo a b m → AddedUpTo b c n → AddedUpTo a c (m ++ n)
added_more a b c m n one two =
    record {
      few = two.few;
      is = two.is ∙ ap (λ l. take 257 (l ++ n)) one.is ∙ take_again 257 (a ++ m) n ∙ ap (take 257) (append_assoc a m n);
    }

pub length_map : {V E : Type 0} (f : V → E) (xs : List V) → length (map f xs) ≡ length xs
length_map f [] = refl
length_map f (x ∷ xs) = ap suc (length_map f xs)

map_push : {V E : Type 0} (f : V → E) (xs : List V) (x : V) → map f (xs ++ x ∷ []) ≡ map f xs ++ f x ∷ []
map_push f [] x = refl
map_push f (y ∷ ys) x = ap (λ l. f y ∷ l) (map_push f ys x)

length_push : {E : Type 0} (xs : List E) (x : E) → length (xs ++ x ∷ []) ≡ suc (length xs)
length_push [] x = refl
length_push (y ∷ ys) x = ap suc (length_push ys x)

-- one word pushed, and no room for one
pub pushed : {V : Type 0} (f : V → List ℕ) (old new : List V) (v : V) (w : List ℕ) → new ≡ old ++ v ∷ [] → f v ≡ w → length old < 257 → AddedUpTo (map f old) (map f new) (w ∷ [])
pushed f old new v w is value room =
    let list : map f new ≡ map f old ++ w ∷ [] = ap (map f) is ∙ map_push f old v ∙ ap (λ u. map f old ++ u ∷ []) value in
    let size : length (map f old ++ w ∷ []) ≡ suc (length old) = length_push (map f old) w ∙ ap suc (length_map f old) in
    let fits : length (map f old ++ w ∷ []) ≤ 257 = omega (arith, size, room) in
    record {
      few = subst (λ l. length l ≤ 257) (sym list) fits;
      is = list ∙ sym (take_fits 257 (map f old ++ w ∷ []) fits);
    }

pub full : {V : Type 0} (f : V → List ℕ) (old : List V) (more : List (List ℕ)) → length old ≤ 257 → 257 ≤ length old → AddedUpTo (map f old) (map f old) more
full f old more few no_room =
    let same : length (map f old) ≡ length old = length_map f old in
    added_full (map f old) more (omega (arith, same, few)) (omega (arith, same, no_room))

pub nothing : {V : Type 0} (f : V → List ℕ) (old : List V) → length old ≤ 257 → AddedUpTo (map f old) (map f old) []
nothing f old few = let same : length (map f old) ≡ length old = length_map f old in added_none (map f old) (omega (arith, same, few))

pub begun_append : (word : List ℕ) (a b : List (List ℕ)) → begun_with word (a ++ b) ≡ begun_with word a ++ begun_with word b
begun_append word [] b = refl
begun_append word (w ∷ a) b = ap (λ l. (word ++ w) ∷ l) (begun_append word a b)

pub begun_letter : (word : List ℕ) (q : ℕ) (ws : List (List ℕ)) → begun_with (word ++ q ∷ []) ws ≡ begun_with word (map (λ w. q ∷ w) ws)
begun_letter word q [] = refl
begun_letter word q (w ∷ ws) = ap (λ l. ((word ++ q ∷ []) ++ w) ∷ l) (begun_letter word q ws) ∙ ap (λ u. u ∷ begun_with word (map (λ w. q ∷ w) ws)) (append_assoc word (q ∷ []) w)

take_next : {E : Type 0} (xs : List E) (i : ℕ) (d : E) → i < length xs → take (suc i) xs ≡ take i xs ++ get_or xs i d ∷ []
take_next [] i d h = absurd (omega (arith, h))
take_next (y ∷ ys) zero d h = refl
take_next (y ∷ ys) (suc i) d h = ap (λ l. y ∷ l) (take_next ys i d (omega (arith, h)))

flat_push : {X E : Type 0} (f : X → List E) (xs : List X) (x : X) → flat_map f (xs ++ x ∷ []) ≡ flat_map f xs ++ f x
flat_push f [] x = append_nil (f x)
flat_push f (y ∷ ys) x = ap (λ l. f y ++ l) (flat_push f ys x) ∙ sym (append_assoc (f y) (flat_map f ys) (f x))

-- the words of one letter more
pub added_letter : (a b c : List (List ℕ)) (word : List ℕ) (f : ℕ → List (List ℕ)) (xs : List ℕ) (i d : ℕ) → i < length xs → AddedUpTo a b (begun_with word (flat_map f (take i xs))) → AddedUpTo b c (begun_with word (f (get_or xs i d))) → AddedUpTo a c (begun_with word (flat_map f (take (i + 1) xs)))
added_letter a b c word f xs i d h one two =
    let x : ℕ = get_or xs i d in
    let list : begun_with word (flat_map f (take (suc i) xs)) ≡ begun_with word (flat_map f (take i xs)) ++ begun_with word (f x) =
    ap (λ l. begun_with word (flat_map f l)) (take_next xs i d h) ∙ ap (begun_with word) (flat_push f (take i xs) x) ∙ begun_append word (flat_map f (take i xs)) (f x) in
    let next : suc i ≡ i + 1 = omega arith in
    subst (λ j. AddedUpTo a c (begun_with word (flat_map f (take j xs)))) next (subst (AddedUpTo a c) (sym list) (added_more a b c (begun_with word (flat_map f (take i xs))) (begun_with word (f x)) one two))

-- what was added leaves the list within its limit
pub few_of : {V : Type 0} (f : V → List ℕ) (old : List (List ℕ)) (xs : List V) (more : List (List ℕ)) → AddedUpTo old (map f xs) more → length xs ≤ 257
few_of f old xs more added = let few : length (map f xs) ≤ 257 = added.few in let same : length (map f xs) ≡ length xs = length_map f xs in omega (arith, few, same)

-- all words, letter by letter
pub words_step : {D : Type 0} (s : WordSearch D ℕ) (most : ℕ) (d : D) → most ≢ 0 → words_of s most d ≡ flat_map (words_with s (most - 1) d) (s.letters d)
words_step s zero d some = absurd (some refl)
words_step s (suc n) d some = ap (λ m. flat_map (words_with s m d) (s.letters d)) (omega arith)

-- the words with one letter: the one that ends there, and those that it leads on to
pub with_parts : {D : Type 0} (a b c : List (List ℕ)) (word : List ℕ) (s : WordSearch D ℕ) (n : ℕ) (d : D) (q : ℕ) → AddedUpTo a b (begun_with word (ended_word (s.last d q) q)) → AddedUpTo b c (begun_with word (led_words (words_of s n) q (s.next d q))) → AddedUpTo a c (begun_with word (words_with s n d q))
with_parts a b c word s n d q one two =
    subst (AddedUpTo a c) (sym (begun_append word (ended_word (s.last d q) q) (led_words (words_of s n) q (s.next d q)))) (added_more a b c (begun_with word (ended_word (s.last d q) q)) (begun_with word (led_words (words_of s n) q (s.next d q))) one two)

-- nothing begins with no letter
pub begun_none : (ws : List (List ℕ)) → begun_with [] ws ≡ ws
begun_none [] = refl
begun_none (w ∷ ws) = ap (λ l. w ∷ l) (begun_none ws)
