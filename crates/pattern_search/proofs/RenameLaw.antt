-- A search over numbers that stand for letters spells the same words.
use Rattle.std.proofs.Common.{◌≡◌, refl, sym, ◌∙◌, ap, ℕ, zero, suc, Bool, true, false, cond, List, [], ◌∷◌, ◌++◌, inl, inr}
use Rattle.std.specs.Prelude.{◌&&◌, ◌||◌, map, filter}
use Rattle.std.specs.List.{flat_map, range_with_len}
use Rattle.pattern_search.specs.Words.{Includes, ended_word, led_words, words_of}
use Rattle.pattern_search.specs.Members.{Members, some_member, members_after, state_at, by_sets}
use Rattle.pattern_search.specs.Renamed.{AreRenamed, SameWordsRenamed}

map_append : {A B : Type 0} (f : A → B) (xs ys : List A) → map f (xs ++ ys) ≡ map f xs ++ map f ys
map_append f [] ys = refl
map_append f (x ∷ xs) ys = ap (λ l. f x ∷ l) (map_append f xs ys)

-- what each letter gives is the same, renamed
flat_renamed : {A B : Type 0} (f : ℕ → A) (g : A → List B) (C : Type 0) (h : C → B) (k : ℕ → List C) (qs : List ℕ) → ((q : ℕ) → Includes qs q → g (f q) ≡ map h (k q)) → flat_map g (map f qs) ≡ map h (flat_map k qs)
flat_renamed f g C h k [] same = refl
flat_renamed f g C h k (q ∷ qs) same =
    ap (λ l. l ++ flat_map g (map f qs)) (same q (inl refl)) ∙ ap (λ l. map h (k q) ++ l) (flat_renamed f g C h k qs (λ r there. same r (inr there))) ∙ sym (map_append h (k q) (flat_map k qs))

filter_same : (a b : ℕ → Bool) (js : List ℕ) → ((j : ℕ) → a j ≡ b j) → filter a js ≡ filter b js
filter_same a b [] same = refl
filter_same a b (j ∷ js) same =
    ap (λ t. cond t (j ∷ filter a js) (filter a js)) (same j) ∙ ap (λ l. cond (b j) (j ∷ l) l) (filter_same a b js same)

some_same : (a b : ℕ → Bool) (is : List ℕ) → ((i : ℕ) → a i ≡ b i) → some_member a is ≡ some_member b is
some_same a b [] same = refl
some_same a b (i ∷ is) same = ap (λ t. t || some_member a is) (same i) ∙ ap (λ t. b i || t) (some_same a b is same)

map_led : {P : Type 0} (letter : ℕ → P) (q : ℕ) (ws : List (List ℕ)) → map (λ w. letter q ∷ w) (map (map letter) ws) ≡ map (map letter) (map (λ w. q ∷ w) ws)
map_led letter q [] = refl
map_led letter q (w ∷ ws) = ap (λ l. (letter q ∷ map letter w) ∷ l) (map_led letter q ws)

module _ {P : Type 0} (is_letter : ℕ → Bool) (letter : ℕ → P) (numbers : Members ℕ) (m : Members P) (renamed : AreRenamed is_letter letter numbers m) where
  after_same : (is : List ℕ) (p q : ℕ) → is_letter p ≡ true → is_letter q ≡ true → members_after m is (letter p) (letter q) ≡ members_after numbers is p q
  after_same is p q from to =
      filter_same (λ j. m.can j (letter q) && some_member (λ i. m.moves i (letter p) (letter q) j) is) (λ j. numbers.can j q && some_member (λ i. numbers.moves i p q j) is) (range_with_len 0 (suc m.count)) (λ j.
      ap (λ t. t && some_member (λ i. m.moves i (letter p) (letter q) j) is) (renamed.can j q to)
      ∙ ap (λ t. numbers.can j q && t) (some_same (λ i. m.moves i (letter p) (letter q) j) (λ i. numbers.moves i p q j) is (λ i. renamed.moves i p q j from to)))
      ∙ ap (λ k. filter (λ j. numbers.can j q && some_member (λ i. numbers.moves i p q j) is) (range_with_len 0 (suc k))) renamed.count

  ended_same : (q : ℕ) (b : Bool) → ended_word b (letter q) ≡ map (map letter) (ended_word b q)
  ended_same q true = refl
  ended_same q false = refl

  led_same : (n q : ℕ) (js : List ℕ) → ((is : List ℕ) → words_of (by_sets m) n (record { letter = letter q; members = is }) ≡ map (map letter) (words_of (by_sets numbers) n (record { letter = q; members = is }))) → led_words (words_of (by_sets m) n) (letter q) (state_at (letter q) js) ≡ map (map letter) (led_words (words_of (by_sets numbers) n) q (state_at q js))
  led_same n q [] rest = refl
  led_same n q (j ∷ js) rest = ap (map (λ w. letter q ∷ w)) (rest (j ∷ js)) ∙ map_led letter q (words_of (by_sets numbers) n (record { letter = q; members = j ∷ js }))

  pub same_words : (n p : ℕ) (is : List ℕ) → is_letter p ≡ true → words_of (by_sets m) n (record { letter = letter p; members = is }) ≡ map (map letter) (words_of (by_sets numbers) n (record { letter = p; members = is }))
  same_words zero p is from = refl
  same_words (suc n) p is from =
      ap (flat_map (in_letters (letter p))) (renamed.letters p from)
      ∙ flat_renamed letter (in_letters (letter p)) (List ℕ) (map letter) in_numbers (numbers.letters p) (λ q there. each q (renamed.are p q from there) (λ js. same_words n q js (renamed.are p q from there)))
    where
      in_letters : P → P → List (List P)
      in_letters o q = ended_word (some_member (λ i. m.last i o q) is) q ++ led_words (words_of (by_sets m) n) q (state_at q (members_after m is o q))

      in_numbers : ℕ → List (List ℕ)
      in_numbers q = ended_word (some_member (λ i. numbers.last i p q) is) q ++ led_words (words_of (by_sets numbers) n) q (state_at q (members_after numbers is p q))

      each : (q : ℕ) → is_letter q ≡ true → ((js : List ℕ) → words_of (by_sets m) n (record { letter = letter q; members = js }) ≡ map (map letter) (words_of (by_sets numbers) n (record { letter = q; members = js }))) → in_letters (letter p) (letter q) ≡ map (map letter) (in_numbers q)
      each q to rest =
          ap (λ b. ended_word b (letter q) ++ led_words (words_of (by_sets m) n) (letter q) (state_at (letter q) (members_after m is (letter p) (letter q)))) (some_same (λ i. m.last i (letter p) (letter q)) (λ i. numbers.last i p q) is (λ i. renamed.last i p q from to))
          ∙ ap (λ l. l ++ led_words (words_of (by_sets m) n) (letter q) (state_at (letter q) (members_after m is (letter p) (letter q)))) (ended_same q (some_member (λ i. numbers.last i p q) is))
          ∙ ap (λ js. map (map letter) (ended_word (some_member (λ i. numbers.last i p q) is) q) ++ led_words (words_of (by_sets m) n) (letter q) (state_at (letter q) js)) (after_same is p q from to)
          ∙ ap (λ l. map (map letter) (ended_word (some_member (λ i. numbers.last i p q) is) q) ++ l) (led_same n q (members_after numbers is p q) rest)
          ∙ sym (map_append (map letter) (ended_word (some_member (λ i. numbers.last i p q) is) q) (led_words (words_of (by_sets numbers) n) q (state_at q (members_after numbers is p q))))

pub renamed_words : {P : Type 0} → SameWordsRenamed P
renamed_words is_letter letter numbers m renamed = same_words is_letter letter numbers m renamed
