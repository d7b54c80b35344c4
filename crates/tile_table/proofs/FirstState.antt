-- the rule holds of a table that was just made
use Rattle.std.proofs.Common.{◌≡◌, ℕ, zero, suc, ◌+◌, ◌*◌, ◌<◌, ◌≤◌, Bool, true, false, ◌&&◌, List, [], ◌∷◌, length, map, refl, ap, sym, ◌∙◌, subst, nat_le, nat_lt, arith}
use Rattle.std.specs.Prelude.{Some, replicate, slice_index}
use Rattle.std.proofs.lemmas.Bool.Decides.{nat_tests}
use Rattle.std.proofs.lemmas.List.{get_or-replicate, get_or_past, length-map, length-replicate}
use Rattle.std.proofs.Math.ListN.{get_elem?}
use mathlib.Core.Option.{some, some-injective, some-ne-none}
use mathlib.Core.Logic.{dite}
use native.Mathlib.Decide.{dec_lt}
use Rattle.atomic_table.specs.Table.{opening}
use Rattle.atomic_table.proofs.Lists.{at_map}
use Rattle.tile_machine.specs.At.{At}
use Rattle.tile_table.specs.declared.view.View.{View}
use Rattle.tile_table.specs.declared.view.Hand.TheVariants.{Holds}
use Rattle.tile_table.specs.Counts.{bit, same_bit, times_in, pair_times, total}
use Rattle.tile_table.specs.Views.{tiles_by, nobody, opening_view, claiming, taking, marking}
use Rattle.tile_table.specs.Shows.{Table, Shows, Knows, claim_of, mark_of}
use Rattle.tile_table.proofs.Bits.{same-ne}
use Rattle.tile_table.proofs.Hands.{not-empty}

pub zeros : (n i : ℕ) → slice_index (replicate n 0) i ≡ 0
zeros n i = dite (dec_lt i n) (λ h. get_or-replicate n i 0 0 h) (λ ne. get_or_past (replicate n 0) i 0 (omega (arith, length-replicate {A = ℕ} n 0)))

from-zero : (x b : ℕ) → bit (nat_le 0 x && nat_lt x b) ≡ bit (nat_lt x b)
from-zero x b = grind (arith, nat_tests)

free-bit : (m : Bool) → 0 ≡ bit m → m ≡ false
free-bit true e = absurd (omega arith)
free-bit false e = refl

module _ {V : Type 0} where
  only-view : (v u : V) (k : ℕ) → get_elem? (v ∷ []) k ≡ some u → v ≡ u
  only-view v u zero e = some-injective v u e
  only-view v u (suc k) e = absurd (some-ne-none u (sym e))

module _ {T : Type 0} where
  home-tile : (world goal : List T) (m : Bool) (i : ℕ) (t : T) → m ≡ false → At (tiles_by m world goal) i t → get_elem? (map some (map Some world)) i ≡ some (some (Some t))
  home-tile world goal true i t e at = absurd (grind arith)
  home-tile world goal false i t e at = at_map some (map Some world) i (Some t) (at_map Some world i t at)

  pub opens : (world goal : List T) (workers : ℕ) → 1 ≤ workers → length goal ≡ length world
      → Shows {T = T} (opening (replicate (3 * length world) 0) (map Some world) (opening_view world goal workers))
  opens world goal workers alive many =
      let v : View T = opening_view world goal workers in
      let s : Table T = opening (replicate (3 * length world) 0) (map Some world) v in
      let places : length s.homes ≡ length world = length-map (map Some world) some ∙ length-map world Some in
      let word : (i : ℕ) → slice_index s.words i ≡ 0 = zeros (3 * length world) in
      let each : (P : View T → Type 0) → P v → (j : ℕ) (u : View T) → Knows s j u → P u = λ P here j u at. subst P (only-view v u j at) here in
      record {
        world = world;
        goal = goal;
        workers = workers;
        one_world =
            record {
              words = length-replicate {A = ℕ} (3 * length world) 0 ∙ ap (λ n. 3 * n) (sym places);
              world_places = sym places;
              goal_places = many ∙ sym places;
              worlds = each (λ u. u.first < u.end → (u.world ≡ world) × (u.goal ≡ goal) × (u.all ≡ workers)) (λ h. (refl, refl, refl));
              ranges = λ x. omega (arith, from-zero x workers);
              ended = each (λ u. u.end ≤ u.first → u ≡ nobody) (λ h. absurd (omega (arith, alive, h)));
            };
        locks =
            record {
              holders = λ n i. omega (arith, ap (λ x. same_bit x (n + 2)) (word (3 * i + 1)), same-ne 0 (n + 2) (λ e. omega arith));
              taken = λ j u i m at. each (λ u. (i : ℕ) (m : Bool) → u.hand ≡ Holds i m → 0 < taking u.first i u) (λ i m e. absurd (not-empty i m e)) j u at i m;
            };
        claims = λ n i. omega (arith, ap (λ x. same_bit x (n + 1)) (word (3 * i)), same-ne 0 (n + 1) (λ e. omega arith));
        marks =
            record {
              marks = λ i. omega (arith, word (3 * i + 2));
              once = λ i. omega (arith, word (3 * i + 2));
              free = λ i low. word (3 * i + 1) ∙ sym (word (3 * i + 2));
              hands = λ j u i m at. each (λ u. (i : ℕ) (m : Bool) → u.hand ≡ Holds i m → mark_of s i ≡ bit m) (λ i m e. absurd (not-empty i m e)) j u at i m;
              claimed = λ j u i at. each (λ u. (i : ℕ) → 0 < marking i u → (n : ℕ) × (0 < claiming n i u)) (λ i h. absurd (omega (arith, h))) j u at i;
            };
        homes = λ i m t e at. home-tile world goal m i t (free-bit m (sym (word (3 * i + 1)) ∙ e)) at;
        reads =
            record {
              known = λ j u i at. each (λ u. (i : ℕ) → 0 < times_in i u.known → mark_of s i ≡ 1) (λ i h. absurd (omega (arith, h))) j u at i;
              seen = λ j u i by at. each (λ u. (i by : ℕ) → 0 < pair_times i by u.seen → claim_of s i ≡ by + 1) (λ i by h. absurd (omega (arith, h))) j u at i by;
              lost = λ j u i h at. each (λ u. (i h : ℕ) → 0 < pair_times i h u.lost → 0 < total (taking h i) s.views) (λ i h p. absurd (omega (arith, p))) j u at i h;
            };
      }
