-- a step that changes no word and no slot: its seat knows more
use Rattle.std.proofs.Common.{◌≡◌, ℕ, ◌+◌, ◌<◌, ◌≤◌, Bool, List, refl, ◌∙◌, arith}
use Rattle.std.specs.Prelude.{slice_set}
use Rattle.tile_table.specs.declared.view.View.{View}
use Rattle.tile_table.specs.declared.view.Hand.TheVariants.{Holds}
use Rattle.tile_table.specs.Counts.{bit, times_in, pair_times, total}
use Rattle.tile_table.specs.Views.{nobody, covering, claiming, taking, marking, holding}
use Rattle.tile_table.specs.Shows.{Table, Shows, Knows, claim_of, mark_of}
use Rattle.tile_table.proofs.Sums.{total-same, each-set}

module _ {T : Type 0} where
  -- the same seat with these lists of what it read
  abbrev pub reading : View T → List (ℕ × ℕ) → List (ℕ × ℕ) → List ℕ → View T
  reading v seen lost known = record v { seen = seen; lost = lost; known = known }

  pub looked : (s : Table T) → (sh : Shows s) → (k : ℕ) (v : View T) → Knows s k v → v.first < v.end
      → (S L : List (ℕ × ℕ)) (K : List ℕ)
      → ((i by : ℕ) → 0 < pair_times i by S → claim_of s i ≡ by + 1)
      → ((j h : ℕ) → 0 < pair_times j h L → 0 < total (taking h j) s.views)
      → ((j : ℕ) → 0 < times_in j K → mark_of s j ≡ 1)
      → Shows record { words = s.words; homes = s.homes; views = slice_set s.views k (reading v S L K) }
  looked s sh k v at live S L K seen lost known =
      let w : View T = reading v S L K in
      let o = sh.one_world in
      record {
        world = sh.world;
        goal = sh.goal;
        workers = sh.workers;
        one_world =
            record {
              words = o.words;
              world_places = o.world_places;
              goal_places = o.goal_places;
              worlds = each-set (λ j u. u.first < u.end → (u.world ≡ sh.world) × (u.goal ≡ sh.goal) × (u.all ≡ sh.workers)) s.views k w (o.worlds k v at) (λ j u bt ne. o.worlds j u bt);
              ranges = λ x. total-same (covering x) s.views k v w at refl ∙ o.ranges x;
              ended = each-set (λ j u. u.end ≤ u.first → u ≡ nobody) s.views k w (λ e. absurd (omega (arith, live, e))) (λ j u bt ne. o.ended j u bt);
            };
        locks =
            record {
              holders = λ n i. total-same (holding n i) s.views k v w at refl ∙ sh.locks.holders n i;
              taken =
                  λ j u i m bt. each-set (λ j u. (i : ℕ) (m : Bool) → u.hand ≡ Holds i m → 0 < taking u.first i u) s.views k w (λ i m e. sh.locks.taken k v i m at e) (λ j u bt ne i m e. sh.locks.taken j u i m bt e) j u bt i m;
            };
        claims = λ n i. total-same (claiming n i) s.views k v w at refl ∙ sh.claims n i;
        marks =
            record {
              marks = λ i. total-same (marking i) s.views k v w at refl ∙ sh.marks.marks i;
              once = sh.marks.once;
              free = sh.marks.free;
              hands = λ j u i m bt. each-set (λ j u. (i : ℕ) (m : Bool) → u.hand ≡ Holds i m → mark_of s i ≡ bit m) s.views k w (λ i m e. sh.marks.hands k v i m at e) (λ j u bt ne i m e. sh.marks.hands j u i m bt e) j u bt i m;
              claimed = λ j u i bt. each-set (λ j u. (i : ℕ) → 0 < marking i u → (n : ℕ) × (0 < claiming n i u)) s.views k w (λ i h. sh.marks.claimed k v i at h) (λ j u bt ne i h. sh.marks.claimed j u i bt h) j u bt i;
            };
        homes = sh.homes;
        reads =
            record {
              known = λ j u i bt. each-set (λ j u. (i : ℕ) → 0 < times_in i u.known → mark_of s i ≡ 1) s.views k w known (λ j u bt ne i h. sh.reads.known j u i bt h) j u bt i;
              seen = λ j u i by bt. each-set (λ j u. (i by : ℕ) → 0 < pair_times i by u.seen → claim_of s i ≡ by + 1) s.views k w seen (λ j u bt ne i by h. sh.reads.seen j u i by bt h) j u bt i by;
              lost =
                  λ j u i h bt. each-set (λ j u. (i h : ℕ) → 0 < pair_times i h u.lost → 0 < total (taking h i) (slice_set s.views k w)) s.views k w
                  (λ i h p. omega (arith, total-same (taking h i) s.views k v w at refl, lost i h p))
                  (λ j u bt ne i h p. omega (arith, total-same (taking h i) s.views k v w at refl, sh.reads.lost j u i h bt p)) j u bt i h;
            };
      }
