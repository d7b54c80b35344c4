-- The keys and values of a DenseNodes as the program goes through them, group by group.
use Rattle.std.specs.Prelude.{ℕ, zero, suc, ℤ, List, [], ◌∷◌, length, Result, Ok}
use Rattle.osm_model.specs.declared.tags.Tag.{Tag}
use Rattle.osm_model.specs.declared.nodes.OsmNode.{OsmNode}
use Rattle.osm_objects.specs.declared.fault.ObjectFault.{ObjectFault}
use Rattle.osm_objects.specs.declared.scale.Scale.{Scale}
use Rattle.osm_objects.specs.Steps.{◌>>=◌}
use Rattle.osm_objects.specs.Tags.{tags_of}
use Rattle.osm_objects.specs.Groups.{groups_of}
use Rattle.osm_objects.specs.Nodes.{grouped_nodes}

-- the pairs of the group that the numbers begin with
abbrev pub first_group : List ℕ → List (ℕ × ℕ)
first_group [] = []
first_group (zero ∷ numbers) = []
first_group (suc key ∷ []) = []
first_group (suc key ∷ value ∷ numbers) = (suc key, value) ∷ first_group numbers

-- the numbers behind it
abbrev pub behind_group : List ℕ → List ℕ
behind_group [] = []
behind_group (zero ∷ numbers) = numbers
behind_group (suc key ∷ []) = []
behind_group (suc key ∷ value ∷ numbers) = behind_group numbers

-- the kept tags of that group, and the numbers behind it
unfoldable pub group_read : List (List ℕ) → ℕ → List ℕ → Result (List Tag × List ℕ) ObjectFault
group_read table at numbers = do
  tags ← tags_of table at (first_group numbers)
  Ok (tags, behind_group numbers)

-- the nodes of these ids and places, with the tags of the groups that the numbers spell
unfoldable pub nodes_read : List (List ℕ) → Scale → ℕ → List ℤ → List ℤ → List ℤ → List ℕ → Result (List OsmNode) ObjectFault
nodes_read table scale at ids lats lons numbers = do
  groups ← groups_of at (length ids) numbers
  grouped_nodes table scale at groups ids lats lons
