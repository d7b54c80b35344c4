-- How many objects, refs, members and tags there are, and how many there may be.
use Rattle.std.specs.Prelude.{ℕ, ◌-◌, ◌^◌, min, nat_lt, List, [], ◌∷◌, length, Option}
use Rattle.std.specs.List.{find}
use Rattle.std.specs.Option.{option_map}
use Rattle.osm_model.specs.Extract.{refs_in, members_in, tags_in}
use Rattle.osm_model.specs.declared.limits.TheConstants.{MOST_NODES, MOST_WAYS, MOST_RELATIONS, MOST_REFS, MOST_MEMBERS, MOST_TAGS}
use Rattle.osm_objects.specs.Objects.{Objects}
use Rattle.osm_blocks.specs.declared.fault.Counted.{Counted}
use Rattle.osm_blocks.specs.declared.fault.Counted.TheVariants as counted

-- so many of these were found, and there may be so many
pub record Count : Type 0 where
  pub what : Counted
  pub found : ℕ
  pub most : ℕ

-- a count as a number of 64 bits: the greatest one where there are more
abbrev pub as_u64 : ℕ → ℕ
as_u64 n = min (2 ^ 64 - 1) n

-- so many of each, with their limits, in the order in which they are looked at
abbrev pub limited_counts : ℕ → ℕ → ℕ → ℕ → ℕ → ℕ → List Count
limited_counts nodes ways relations refs members tags =
    record { what = counted.Nodes; found = nodes; most = MOST_NODES }
    ∷ record { what = counted.Ways; found = ways; most = MOST_WAYS }
    ∷ record { what = counted.Relations; found = relations; most = MOST_RELATIONS }
    ∷ record { what = counted.Refs; found = refs; most = MOST_REFS }
    ∷ record { what = counted.Members; found = members; most = MOST_MEMBERS }
    ∷ record { what = counted.Tags; found = tags; most = MOST_TAGS }
    ∷ []

-- the counts of objects
abbrev pub counts_of : Objects → List Count
counts_of objects =
    limited_counts
    (as_u64 (length objects.nodes))
    (as_u64 (length objects.ways))
    (as_u64 (length objects.relations))
    (as_u64 (refs_in objects.ways))
    (as_u64 (members_in objects.relations))
    (as_u64 (tags_in objects.nodes objects.ways objects.relations))

-- the first count that is past its limit: of what, and how many were found
abbrev pub first_past : List Count → Option (Counted × ℕ)
first_past counts = option_map (λ (count : Count). (count.what, count.found)) (find (λ (count : Count). nat_lt count.most count.found) counts)
