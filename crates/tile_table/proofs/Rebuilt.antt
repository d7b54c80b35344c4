-- a step of one seat that writes a word: what is left to show, and that the rule then holds again
use Rattle.std.proofs.Common.{◌≡◌, ℕ, ◌+◌, ◌*◌, ◌<◌, ◌≤◌, ◌≢◌, Bool, List, length, refl, ap, sym, ◌∙◌, arith}
use Rattle.std.specs.Prelude.{Option, Some, slice_index, slice_set}
use Rattle.std.proofs.Math.ListN.{get_elem?}
use mathlib.Core.Option.{Option as Maybe, some}
use Rattle.tile_machine.specs.At.{At}
use Rattle.tile_table.specs.declared.view.View.{View}
use Rattle.tile_table.specs.declared.view.Hand.{Hand}
use Rattle.tile_table.specs.declared.view.Hand.TheVariants.{Holds}
use Rattle.tile_table.specs.Counts.{bit, same_bit, times_in, pair_times, total}
use Rattle.tile_table.specs.Views.{tiles_by, nobody, covering, claiming, taking, marking, holding}
use Rattle.tile_table.specs.Shows.{Table, Shows, Knows, claim_of, mark_of}
use Rattle.tile_table.proofs.Sums.{total-set, total-same, each-set}

module _ {T : Type 0} where
  -- the same seat with this hand and these lists of what it did
  abbrev pub doing : View T → Hand → List (ℕ × ℕ) → List (ℕ × ℕ) → List ℕ → View T
  doing v hand claims takes marks = record v { hand = hand; claims = claims; takes = takes; marks = marks }

  -- the words become ws, the slots hs, and the view w of the seat k
  abbrev pub become : Table T → List ℕ → List (Maybe (Option T)) → ℕ → View T → Table T
  become s ws hs k w = record { words = ws; homes = hs; views = slice_set s.views k w }

  pub record Keeps (s : Table T) (world goal : List T) (k : ℕ) (v w : View T) (ws : List ℕ) (hs : List (Maybe (Option T))) : Type 0 where
    pub words : length ws ≡ length s.words
    pub slots : length hs ≡ length s.homes
    pub holders : (n i : ℕ) → total (holding n i) s.views + holding n i w ≡ same_bit (slice_index ws (3 * i + 1)) (n + 2) + holding n i v
    pub taken : (i : ℕ) (m : Bool) → w.hand ≡ Holds i m → 0 < taking v.first i w
    pub more_takes : (n i : ℕ) → taking n i v ≤ taking n i w
    pub claims : (n i : ℕ) → total (claiming n i) s.views + claiming n i w ≡ same_bit (slice_index ws (3 * i)) (n + 1) + claiming n i v
    pub claims_stay : (n i : ℕ) → claim_of s i ≡ n + 1 → slice_index ws (3 * i) ≡ n + 1
    pub marks : (i : ℕ) → total (marking i) s.views + marking i w ≡ slice_index ws (3 * i + 2) + marking i v
    pub once : (i : ℕ) → slice_index ws (3 * i + 2) ≤ 1
    pub marks_stay : (i : ℕ) → mark_of s i ≡ 1 → slice_index ws (3 * i + 2) ≡ 1
    pub free : (i : ℕ) → slice_index ws (3 * i + 1) < 2 → slice_index ws (3 * i + 1) ≡ slice_index ws (3 * i + 2)
    pub hand : (i : ℕ) (m : Bool) → w.hand ≡ Holds i m → slice_index ws (3 * i + 2) ≡ bit m
    pub hands : (j : ℕ) (u : View T) (i : ℕ) (m : Bool) → Knows s j u → j ≢ k → u.hand ≡ Holds i m → slice_index ws (3 * i + 2) ≡ bit m
    pub claimed : (i : ℕ) → 0 < marking i w → (n : ℕ) × (0 < claiming n i w)
    pub homes : (i : ℕ) (m : Bool) (t : T) → slice_index ws (3 * i + 1) ≡ bit m → At (tiles_by m world goal) i t → get_elem? hs i ≡ some (some (Some t))

  pub rebuilt : (s : Table T) → (sh : Shows s) → (k : ℕ) (v : View T) → Knows s k v → v.first < v.end
      → (ws : List ℕ) (hs : List (Maybe (Option T))) (H : Hand) (C K : List (ℕ × ℕ)) (M : List ℕ)
      → Keeps s sh.world sh.goal k v (doing v H C K M) ws hs
      → Shows (become s ws hs k (doing v H C K M))
  rebuilt s sh k v at live ws hs H C K M keep =
      let w : View T = doing v H C K M in
      let o = sh.one_world in
      record {
        world = sh.world;
        goal = sh.goal;
        workers = sh.workers;
        one_world =
            record {
              words = keep.words ∙ o.words ∙ ap (λ n. 3 * n) (sym keep.slots);
              world_places = o.world_places ∙ sym keep.slots;
              goal_places = o.goal_places ∙ sym keep.slots;
              worlds = each-set (λ j u. u.first < u.end → (u.world ≡ sh.world) × (u.goal ≡ sh.goal) × (u.all ≡ sh.workers)) s.views k w (o.worlds k v at) (λ j u bt ne. o.worlds j u bt);
              ranges = λ x. total-same (covering x) s.views k v w at refl ∙ o.ranges x;
              ended = each-set (λ j u. u.end ≤ u.first → u ≡ nobody) s.views k w (λ e. absurd (omega (arith, live, e))) (λ j u bt ne. o.ended j u bt);
            };
        locks =
            record {
              holders = λ n i. omega (arith, total-set (holding n i) s.views k v w at, keep.holders n i);
              taken = λ j u i m bt. each-set (λ j u. (i : ℕ) (m : Bool) → u.hand ≡ Holds i m → 0 < taking u.first i u) s.views k w keep.taken (λ j u bt ne i m e. sh.locks.taken j u i m bt e) j u bt i m;
            };
        claims = λ n i. omega (arith, total-set (claiming n i) s.views k v w at, keep.claims n i);
        marks =
            record {
              marks = λ i. omega (arith, total-set (marking i) s.views k v w at, keep.marks i);
              once = keep.once;
              free = keep.free;
              hands = λ j u i m bt. each-set (λ j u. (i : ℕ) (m : Bool) → u.hand ≡ Holds i m → slice_index ws (3 * i + 2) ≡ bit m) s.views k w keep.hand (λ j u bt ne i m e. keep.hands j u i m bt ne e) j u bt i m;
              claimed = λ j u i bt. each-set (λ j u. (i : ℕ) → 0 < marking i u → (n : ℕ) × (0 < claiming n i u)) s.views k w keep.claimed (λ j u bt ne i h. sh.marks.claimed j u i bt h) j u bt i;
            };
        homes = keep.homes;
        reads =
            record {
              known = λ j u i bt. each-set (λ j u. (i : ℕ) → 0 < times_in i u.known → slice_index ws (3 * i + 2) ≡ 1) s.views k w (λ i h. keep.marks_stay i (sh.reads.known k v i at h)) (λ j u bt ne i h. keep.marks_stay i (sh.reads.known j u i bt h)) j u bt i;
              seen = λ j u i by bt. each-set (λ j u. (i by : ℕ) → 0 < pair_times i by u.seen → slice_index ws (3 * i) ≡ by + 1) s.views k w (λ i by h. keep.claims_stay by i (sh.reads.seen k v i by at h)) (λ j u bt ne i by h. keep.claims_stay by i (sh.reads.seen j u i by bt h)) j u bt i by;
              lost =
                  λ j u i h bt. each-set (λ j u. (i h : ℕ) → 0 < pair_times i h u.lost → 0 < total (taking h i) (slice_set s.views k w)) s.views k w
                  (λ i h p. omega (arith, total-set (taking h i) s.views k v w at, keep.more_takes h i, sh.reads.lost k v i h at p))
                  (λ j u bt ne i h p. omega (arith, total-set (taking h i) s.views k v w at, keep.more_takes h i, sh.reads.lost j u i h bt p)) j u bt i h;
            };
      }
