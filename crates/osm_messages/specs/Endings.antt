-- Where varints end in packed bytes: as the program goes through them; a reader of the format may skip this.
use Rattle.std.specs.Prelude.{◌≡◌, ℕ, ◌+◌, ◌*◌, ◌<◌, ◌≤◌, List, length, get_or, min}

-- the least of five bytes from this place on
abbrev pub least_at : List ℕ → ℕ → ℕ
least_at bytes i = min (min (min (min (get_or bytes i 0) (get_or bytes (i + 1) 0)) (get_or bytes (i + 2) 0)) (get_or bytes (i + 3) 0)) (get_or bytes (i + 4) 0)

-- each group of five bytes has one that ends a varint
pub record EndsOften (bytes : List ℕ) : Type 0 where
  pub each : (group : ℕ) → 5 * group + 5 ≤ length bytes → least_at bytes (5 * group) < 128

-- the last byte ends a varint
pub record EndsWhole (bytes : List ℕ) : Type 0 where
  pub last : (i : ℕ) → i + 1 ≡ length bytes → get_or bytes i 0 < 128
