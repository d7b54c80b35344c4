-- Marks of where entries start: all start at multiples of 4, and each such offset has a mark.
use Rattle.std.specs.Prelude.{◌≡◌, ℕ, ◌*◌, ◌/◌, ◌%◌, ◌==◌, ◌&&◌, nat_lt, Bool, true, false, List, length, slice_index_or, slice_set, if◌then◌else◌}
use Rattle.edge_info.specs.Entries.{starts_at}

-- an offset has a mark that is set
abbrev pub is_marked : List Bool → ℕ → Bool
is_marked marks at = at % 4 == 0 && nat_lt (at / 4) (length marks) && slice_index_or marks (at / 4) false

-- these offsets have the marks that are set, and no other
pub record MarkStarts (marks : List Bool) (starts : List ℕ) : Type 0 where
  pub each : (at : ℕ) → starts_at starts at ≡ is_marked marks at

-- the marks with that of an offset set
unfoldable pub with_mark : List Bool → ℕ → List Bool
with_mark marks at = if nat_lt (at / 4) (length marks) then slice_set marks (at / 4) true else marks
