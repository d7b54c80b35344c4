-- a graph in flat lists: the links of all junctions, those of one behind those of the other, and where those of each begin
use Rattle.std.specs.Prelude.{◌≡◌, ℕ, ◌+◌, ◌<◌, ◌≤◌, ◌==◌, nat_eq, Bool, false, List, [], ◌∷◌, length, slice_index_or, slice_range, if◌then◌else◌, All}
use Rattle.bounded_flood.specs.Flood.{is_seen}
use Rattle.bounded_flood.specs.declared.links.Link.{Link}

-- the links that begin at a junction
abbrev pub links_from : List ℕ → List Link → ℕ → List Link
links_from starts links x = slice_range links (slice_index_or starts x 0) (slice_index_or starts (x + 1) 0)

-- where these links end, with those of one piece left out
abbrev pub ends_without : ℕ → List Link → List ℕ
ends_without left [] = []
ends_without left (l ∷ ls) = if l.piece == left then ends_without left ls else l.end ∷ ends_without left ls

-- the junctions that one link leads to from this one, with the links of one piece left out
abbrev pub near_without : List ℕ → List Link → ℕ → ℕ → List ℕ
near_without starts links left x = ends_without left (links_from starts links x)

-- starts never fall, and none is above `most`
pub record StartsRise (starts : List ℕ) (most : ℕ) : Type 0 where
  pub rise : (x : ℕ) → x + 1 < length starts → slice_index_or starts x 0 ≤ slice_index_or starts (x + 1) 0
  pub within : (x : ℕ) → x < length starts → slice_index_or starts x 0 ≤ most

-- the lists are of one graph, which has a junction less than there are starts: starts rise and none lies past the links, and
-- each link ends at a junction
pub record ListsFit (starts : List ℕ) (links : List Link) : Type 0 where
  pub starts_in : StartsRise starts (length links)
  pub ends_in : All (λ l. l.end + 1 < length starts) links

-- how many junctions may lie behind a piece
abbrev pub side_limit : ℕ
side_limit = 63

-- the marks show exactly which junctions were seen, and each of these has one
pub record MarksShow (marks : List Bool) (seen : List ℕ) : Type 0 where
  pub inside : All (λ y. y < length marks) seen
  pub shows : (y : ℕ) → y < length marks → slice_index_or marks y false ≡ is_seen nat_eq y seen
