-- The length of the longest word, counted up to a cap.
use Rattle.std.specs.Prelude.{◌≡◌, ◌≢◌, ◌⊎◌, ℕ, zero, suc, ◌≤◌, ◌<◌, List, [], ◌∷◌, length, if◌then◌else◌, nat_lt, nat_eq}
use Rattle.pattern_search.specs.Words.{Includes}
use Rattle.pattern_search.specs.declared.behind.Place.{Place}

-- no word where it is 0; below the cap the longest word is that long; at the cap there is one at least that long
pub record IsMost {P : Type 0} (cap : ℕ) (Is : List P → Type 0) (n : ℕ) : Type 0 where
  pub long : (w : List P) → Is w → 0 < length w
  pub few : n < cap → (w : List P) → Is w → length w ≤ n
  pub met : n ≢ 0 → (w : List P) × (Is w × (n ≤ length w))

-- one letter more before each word
abbrev pub one_longer : ℕ → ℕ → ℕ
one_longer cap zero = zero
one_longer cap (suc n) = if nat_lt (suc n) cap then suc (suc n) else cap

abbrev pub greater_of : ℕ → ℕ → ℕ
greater_of m n = if nat_lt m n then n else m

-- along a line of letters that begins with p: what may come where one stops after p, or the next letter of the line and
-- what may come along the rest
abbrev pub IsAlong : {P : Type 0} → (P → List P → Type 0) → P → List P → List P → Type 0
IsAlong After p [] w = After p w
IsAlong {P} After p (q ∷ qs) w = After p w ⊎ ((v : List P) × ((w ≡ q ∷ v) × IsAlong After q qs v))

abbrev pub most_along : {P : Type 0} → ℕ → (P → ℕ) → P → List P → ℕ
most_along cap e p [] = e p
most_along cap e p (q ∷ qs) = greater_of (e p) (one_longer cap (most_along cap e q qs))

-- one of these letters first
abbrev pub BeginsWithOne : {P : Type 0} → (P → List P → Type 0) → List P → List P → Type 0
BeginsWithOne Is [] w = ⊥
BeginsWithOne {P} Is (q ∷ qs) w = ((v : List P) × ((w ≡ q ∷ v) × Is q v)) ⊎ BeginsWithOne Is qs w

abbrev pub most_of_one : {P : Type 0} → ℕ → (P → ℕ) → List P → ℕ
most_of_one cap n [] = 0
most_of_one cap n (q ∷ qs) = greater_of (one_longer cap (n q)) (most_of_one cap n qs)

-- the most at a place of a line, of which the line goes on at the place before: `run` and `most` are that one's. Places of
-- different runs are of different lines.
abbrev pub most_behind : ℕ → ℕ → ℕ → Place → ℕ
most_behind cap run most p = greater_of p.after (if nat_eq run p.run then one_longer cap most else 0)

-- the same at each place, made place by place
abbrev pub all_behind : ℕ → ℕ → ℕ → List Place → List ℕ
all_behind cap run most [] = []
all_behind cap run most (p ∷ ps) = most_behind cap run most p ∷ all_behind cap p.run (most_behind cap run most p) ps

-- the places of one run before p, the nearest first
abbrev pub line_to : Place → List Place → List Place
line_to p [] = []
line_to p (q ∷ qs) = if nat_eq q.run p.run then q ∷ qs else []

-- what that is: for each place the most along the rest of its line
abbrev pub all_along : ℕ → List Place → List Place → List ℕ
all_along cap line [] = []
all_along cap line (p ∷ ps) = most_along cap (λ q. q.after) p (line_to p line) ∷ all_along cap (p ∷ line_to p line) ps

-- The law of lines: the number along a line is that of the words along it. `next` lists the words that may come where one
-- stops.
abbrev pub MostTells : Type 0
MostTells =
    (cap : ℕ) → 0 < cap → (next : ℕ → List (List ℕ)) (most : ℕ → ℕ) → ((p : ℕ) → IsMost cap (Includes (next p)) (most p)) → (p : ℕ) (line : List ℕ) → IsMost cap (IsAlong (λ q. Includes (next q)) p line) (most_along cap most p line)

-- The law of first letters: the same for the words that begin with one of some letters.
abbrev pub FirstsTell : Type 0
FirstsTell =
    (cap : ℕ) → 0 < cap → (next : ℕ → List (List ℕ)) (most : ℕ → ℕ) → ((p : ℕ) → IsMost cap (Includes (next p)) (most p)) → (firsts : List ℕ) → IsMost cap (BeginsWithOne (λ q. Includes (next q)) firsts) (most_of_one cap most firsts)

-- The law of tables: the numbers made place by place are those along the lines.
abbrev pub TableTells : Type 0
TableTells = (cap run : ℕ) (places : List Place) → all_behind cap run 0 places ≡ all_along cap [] places
