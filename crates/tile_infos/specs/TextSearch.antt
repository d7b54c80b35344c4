-- Helps the code: which text stands where, as a map.
use Rattle.std.specs.Prelude.{◌≡◌, ◌≤◌, ◌^◌, ℕ, List, length, Some, None, if◌then◌else◌}
use Rattle.std.specs.Ordering.{nat_cmp}
use Rattle.std.specs.Borrow.{Bor}
use Rattle.std.specs.BTreeMap.{BTreeMap, get_by}
use Rattle.std.specs.Cmp.Lexicographic.{slice_cmp}
use Rattle.std.specs.List.{list_any}
use Rattle.std.specs.Str.{bytes_eq}
use Rattle.tile_infos.specs.TileTexts.{text_place}

-- the map has the place of each of these texts, and nothing else, and each place fits 32 bits
pub record KnowsPlaces (known : BTreeMap (Bor (List ℕ)) ℕ) (texts : List (List ℕ)) : Type 0 where
  pub each : (t : List ℕ) → get_by (λ k. slice_cmp nat_cmp t k.now) known ≡ (if list_any (bytes_eq t) texts then Some (text_place texts t) else None)
  pub few : length texts ≤ 2 ^ 32
