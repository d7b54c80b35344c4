-- A DenseNodes, part by part.
use Rattle.std.proofs.Common.{◌≡◌, ℕ, ℤ, List, length, Result, Ok, Err, IsOk, refl, sym, ap, ◌∙◌}
use Rattle.osm_messages.specs.RawNumbers.{DenseNumbers}
use Rattle.osm_model.specs.declared.nodes.OsmNode.{OsmNode}
use Rattle.osm_objects.specs.declared.fault.ObjectFault.{ObjectFault}
use Rattle.osm_objects.specs.declared.scale.Scale.{Scale}
use Rattle.osm_objects.specs.Steps.{◌>>=◌}
use Rattle.osm_objects.specs.Parts.{as_many}
use Rattle.osm_objects.specs.Sums.{sums_of}
use Rattle.osm_objects.specs.Groups.{groups_of}
use Rattle.osm_objects.specs.Nodes.{grouped_nodes, decoded_dense_nodes}
use Rattle.osm_objects.specs.FirstGroups.{nodes_read}
use Rattle.osm_objects.proofs.KeysValues.{Groups}
use Rattle.osm_objects.proofs.Lengths.{sums-length}

-- ---- the whole, where each part is good

past_one : {A B : Type 0} (r : Result A ObjectFault) (k : Result B ObjectFault) → IsOk r → (r >>= λ x. k) ≡ k
past_one (Ok x) k good = refl
past_one (Err d) k good = absurd (cc good)

same_groups : (at m n : ℕ) (numbers : List ℕ) (k : Groups → Result (List OsmNode) ObjectFault) → m ≡ n → (groups_of at m numbers >>= k) ≡ (groups_of at n numbers >>= k)
same_groups at m n numbers k e = ap (λ c. groups_of at c numbers >>= k) e

summed : (a b c : Result (List ℤ) ObjectFault) (ids lats lons : List ℤ) (k : List ℤ → List ℤ → List ℤ → Result (List OsmNode) ObjectFault) → a ≡ Ok ids → b ≡ Ok lats → c ≡ Ok lons
    → (a >>= λ x. b >>= λ y. c >>= λ z. k x y z) ≡ k ids lats lons
summed a b c ids lats lons k e f g =
    ap (λ r. r >>= λ x. b >>= λ y. c >>= λ z. k x y z) e ∙ ap (λ r. r >>= λ y. c >>= λ z. k ids y z) f ∙ ap (λ r. r >>= λ z. k ids lats z) g

summed_each : (gr : Result Groups ObjectFault) (a b c : Result (List ℤ) ObjectFault) (ids lats lons : List ℤ) (k : Groups → List ℤ → List ℤ → List ℤ → Result (List OsmNode) ObjectFault) → a ≡ Ok ids → b ≡ Ok lats → c ≡ Ok lons
    → (gr >>= λ gs. a >>= λ x. b >>= λ y. c >>= λ z. k gs x y z) ≡ (gr >>= λ gs. k gs ids lats lons)
summed_each (Ok gs) a b c ids lats lons k e f g = summed a b c ids lats lons (k gs) e f g
summed_each (Err d) a b c ids lats lons k e f g = refl

pub dense-nodes : (table : List (List ℕ)) (scale : Scale) (at : ℕ) (raw : DenseNumbers) (ids lats lons : List ℤ) → IsOk (as_many at raw.id raw.lat) → IsOk (as_many at raw.id raw.lon)
    → sums_of at raw.id ≡ Ok ids → sums_of at raw.lat ≡ Ok lats → sums_of at raw.lon ≡ Ok lons → decoded_dense_nodes table scale at raw ≡ nodes_read table scale at ids lats lons raw.keys_vals
unfolding decoded_dense_nodes nodes_read
dense-nodes table scale at raw ids lats lons even_lats even_lons e f g =
    past_one (as_many at raw.id raw.lat) (as_many at raw.id raw.lon >>= λ x. groups_of at (length raw.id) raw.keys_vals >>= λ gs. sums_of at raw.id >>= λ x. sums_of at raw.lat >>= λ y. sums_of at raw.lon >>= λ z. grouped_nodes table scale at gs x y z) even_lats
    ∙ past_one (as_many at raw.id raw.lon) (groups_of at (length raw.id) raw.keys_vals >>= λ gs. sums_of at raw.id >>= λ x. sums_of at raw.lat >>= λ y. sums_of at raw.lon >>= λ z. grouped_nodes table scale at gs x y z) even_lons
    ∙ summed_each (groups_of at (length raw.id) raw.keys_vals) (sums_of at raw.id) (sums_of at raw.lat) (sums_of at raw.lon) ids lats lons (λ gs x y z. grouped_nodes table scale at gs x y z) e f g
    ∙ same_groups at (length raw.id) (length ids) raw.keys_vals (λ gs. grouped_nodes table scale at gs ids lats lons) (sym (sums-length at raw.id ids e))
