-- What it means that no count is past its limit.
use Rattle.std.proofs.Common.{◌≡◌, ℕ, ◌+◌, ◌-◌, ◌^◌, ◌<◌, ◌≤◌, ltb, cond, Bool, true, false, List, [], ◌∷◌, length, Option, Some, None, refl, sym, ap, ◌∙◌, arith}
use Rattle.std.specs.List.{find}
use Rattle.std.specs.Option.{option_map}
use Rattle.std.proofs.lemmas.Bool.{ltb-false}
use Rattle.std.proofs.lemmas.List.Sorted.{length_permutation, sum_by-IsPermutation}
use Rattle.osm_model.specs.Extract.{AreWithin, refs_in, members_in, tags_in, tags_of_nodes, tags_of_ways, tags_of_relations}
use Rattle.osm_model.specs.declared.nodes.OsmNode.{OsmNode}
use Rattle.osm_model.specs.declared.ways.OsmWay.{OsmWay}
use Rattle.osm_model.specs.declared.relations.OsmRelation.{OsmRelation}
use Rattle.osm_blocks.specs.Extracts.{AreDistinct, node_id, way_id, relation_id}
use Rattle.osm_blocks.specs.Steps.{AreInOrder}
use Rattle.osm_blocks.proofs.Twice.{in_order_unlike}
use Rattle.osm_objects.specs.Objects.{Objects}
use Rattle.osm_model.specs.declared.limits.TheConstants.{MOST_NODES, MOST_WAYS, MOST_RELATIONS, MOST_REFS, MOST_MEMBERS, MOST_TAGS}
use Rattle.osm_blocks.specs.Counts.{Count, as_u64, limited_counts, counts_of, first_past}

-- no count of the list is past its limit
abbrev pub AllWithin : List Count → Type 0
AllWithin [] = Unit {0}
AllWithin (count ∷ counts) = (count.found ≤ count.most) × AllWithin counts

all_within : (counts : List Count) → first_past counts ≡ None → AllWithin counts
all_within [] e = tt
all_within (count ∷ counts) e = by_test (all_within counts) (ltb count.most count.found) refl
  where
    some_none : {A : Type 0} (x : A) → ◌≡◌ {A = Option A} (Some x) None → ⊥
    some_none x h = cc

    tested : (b : Bool) → ltb count.most count.found ≡ b → first_past (count ∷ counts) ≡ option_map (λ (c : Count). (c.what, c.found)) (cond b (Some count) (find (λ (c : Count). ltb c.most c.found) counts))
    tested b h = ap (λ t. option_map (λ (c : Count). (c.what, c.found)) (cond t (Some count) (find (λ (c : Count). ltb c.most c.found) counts))) h

    by_test : (first_past counts ≡ None → AllWithin counts) → (b : Bool) → ltb count.most count.found ≡ b → AllWithin (count ∷ counts)
    by_test others true h = absurd (some_none (count.what, count.found) (sym (tested true h) ∙ e))
    by_test others false h = (ltb-false count.most count.found h, others (sym (tested false h) ∙ e))

below : (n most : ℕ) → as_u64 n ≤ most → most < 2 ^ 64 - 1 → n ≤ most
below n most h k = omega arith

pub are_within : (objects : Objects) → first_past (counts_of objects) ≡ None → AreWithin objects.nodes objects.ways objects.relations
are_within objects e =
    let all = all_within (counts_of objects) e in
    record {
      node_limit = below (length objects.nodes) MOST_NODES all.0 (omega arith);
      way_limit = below (length objects.ways) MOST_WAYS all.1.0 (omega arith);
      relation_limit = below (length objects.relations) MOST_RELATIONS all.1.1.0 (omega arith);
      ref_limit = below (refs_in objects.ways) MOST_REFS all.1.1.1.0 (omega arith);
      member_limit = below (members_in objects.relations) MOST_MEMBERS all.1.1.1.1.0 (omega arith);
      tag_limit = below (tags_in objects.nodes objects.ways objects.relations) MOST_TAGS all.1.1.1.1.1.0 (omega arith);
    }

-- ---- the same objects in another order

-- so many of each kind
abbrev six : ℕ → ℕ → ℕ → ℕ → ℕ → ℕ → List Count
six nodes ways relations refs members tags = limited_counts (as_u64 nodes) (as_u64 ways) (as_u64 relations) (as_u64 refs) (as_u64 members) (as_u64 tags)

six_same : {a b c d e f a' b' c' d' e' f' : ℕ} → a ≡ a' → b ≡ b' → c ≡ c' → d ≡ d' → e ≡ e' → f ≡ f' → six a b c d e f ≡ six a' b' c' d' e' f'
six_same p q r s t u = cc

pub counts_same : (old new : Objects) → AreInOrder old new → counts_of new ≡ counts_of old
counts_same old new order =
    let nodes = length_permutation old.nodes new.nodes order.nodes.same in
    let ways = length_permutation old.ways new.ways order.ways.same in
    let relations = length_permutation old.relations new.relations order.relations.same in
    let refs = sum_by-IsPermutation (λ (way : OsmWay). length way.refs) old.ways new.ways order.ways.same in
    let members = sum_by-IsPermutation (λ (relation : OsmRelation). length relation.members) old.relations new.relations order.relations.same in
    let node_tags : tags_of_nodes new.nodes ≡ tags_of_nodes old.nodes = sum_by-IsPermutation (λ (node : OsmNode). length node.tags) old.nodes new.nodes order.nodes.same in
    let way_tags : tags_of_ways new.ways ≡ tags_of_ways old.ways = sum_by-IsPermutation (λ (way : OsmWay). length way.tags) old.ways new.ways order.ways.same in
    let relation_tags : tags_of_relations new.relations ≡ tags_of_relations old.relations = sum_by-IsPermutation (λ (relation : OsmRelation). length relation.tags) old.relations new.relations order.relations.same in
    let tags : tags_in new.nodes new.ways new.relations ≡ tags_in old.nodes old.ways old.relations = added _ _ _ _ _ _ node_tags way_tags relation_tags in
    six_same nodes ways relations refs members tags
  where
    added : (a b c d e f : ℕ) → a ≡ d → b ≡ e → c ≡ f → a + b + c ≡ d + e + f
    added a b c d e f p q r = omega arith

pub in_order_distinct : (old new : Objects) → AreInOrder old new → AreDistinct old
in_order_distinct old new order = record {
  nodes = in_order_unlike node_id old.nodes new.nodes order.nodes;
  ways = in_order_unlike way_id old.ways new.ways order.ways;
  relations = in_order_unlike relation_id old.relations new.relations order.relations;
}
