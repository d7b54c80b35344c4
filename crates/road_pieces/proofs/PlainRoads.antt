-- The roads of a plain extract: each is open to each mode in both directions, each node may be passed, and no turn is
-- forbidden.
use Rattle.std.proofs.Common.{◌≡◌, ℕ, zero, suc, ◌<◌, ℤ, List, [], ◌∷◌, length, map, Bool, true, false, cond, refl, sym, ap, subst, ◌∙◌, arith}
use Rattle.std.specs.Prelude.{All, Some, None, codes, find, filter_map, bit_or}
use Rattle.std.specs.List.{cons_option}
use Rattle.std.specs.Option.{option_map_or}
use Rattle.std.specs.Str.{bytes_eq}
use Rattle.std.specs.Ordering.{int_eq}
use Rattle.std.proofs.lemmas.Bool.{and_parts, both_ways, cond-false}
use Rattle.std.proofs.lemmas.Slice.Eq.{bytes_eq-Decides}
use Rattle.std.proofs.lemmas.List.Elements.{All-cons, All-nil, All-head, All-tail, All-contains}
use Rattle.osm_model.specs.declared.tags.Tag.{Tag}
use Rattle.osm_model.specs.declared.nodes.OsmNode.{OsmNode}
use Rattle.osm_model.specs.declared.ways.OsmWay.{OsmWay}
use Rattle.osm_model.specs.declared.relations.OsmRelation.{OsmRelation}
use Rattle.osm_model.specs.declared.extract.Extract.{Extract}
use Rattle.osm_restrictions.specs.Keys.{is_restriction}
use Rattle.osm_restrictions.specs.Rows.{row_in, row_of, rows_of_turns}
use Rattle.osm_restrictions.specs.Turns.{turn_of}
use Rattle.road_pieces.specs.DirectedPiece.{DirectedPiece}
use Rattle.road_pieces.specs.Modes.{all_mode_bits, IsMode, ShareMode}
use Rattle.road_pieces.specs.Rules.{is_routable, way_tags, node_tags, way_access, Passes, forward_access, backward_access, node_access}
use Rattle.road_pieces.specs.Matches.{IsPatternOf, rule_of, turn_rules}
use Rattle.road_pieces.specs.Pieces.{IsPiece}
use Rattle.road_pieces.specs.Walks.{MayRide}
use Rattle.road_pieces.specs.PlainExtracts.{is_residential_tag, IsPlainExtract}
use Rattle.road_pieces.proofs.Members.{IsIn, at_in}
use Rattle.road_pieces.proofs.RowPieces.{IsOf, is_of, found_way}

-- ---- tags that are all `highway=residential`

abbrev residential : Tag
residential = record { key = codes "highway"; value = codes "residential" }

abbrev repeated : ℕ → List Tag
repeated zero = []
repeated (suc count) = residential ∷ repeated count

tag_is : (tag : Tag) → is_residential_tag tag ≡ true → tag ≡ residential
tag_is tag h =
    let (key, value) = and_parts (bytes_eq tag.key (codes "highway")) (bytes_eq tag.value (codes "residential")) h in
    let key_is : tag.key ≡ codes "highway" = (bytes_eq-Decides tag.key (codes "highway")).0 key in
    let value_is : tag.value ≡ codes "residential" = (bytes_eq-Decides tag.value (codes "residential")).0 value in
    λ i. record { key = key_is i; value = value_is i }

tags_are : (tags : List Tag) → All (λ tag. is_residential_tag tag ≡ true) tags → tags ≡ repeated (length tags)
tags_are [] all = refl
tags_are (tag ∷ tags) all =
    ap (λ t. t ∷ tags) (tag_is tag (All-head (λ t. is_residential_tag t ≡ true) tag tags all))
    ∙ ap (λ ts. residential ∷ ts) (tags_are tags (All-tail (λ t. is_residential_tag t ≡ true) tag tags all))

no_road : is_routable [] ≡ false
unfolding is_routable
no_road = refl

some_tags : (tags : List Tag) → is_routable tags ≡ true → All (λ tag. is_residential_tag tag ≡ true) tags → (count : ℕ) × (tags ≡ repeated (suc count))
some_tags [] h all = absurd (both_ways (is_routable []) no_road h)
some_tags (tag ∷ tags) h all = (length tags, tags_are (tag ∷ tags) all)

-- each mode may use a road with such tags
forward_is : (count : ℕ) → forward_access (repeated (suc count)) ≡ all_mode_bits
unfolding forward_access
forward_is zero = refl
forward_is (suc count) = forward_is count

backward_is : (count : ℕ) → backward_access (repeated (suc count)) ≡ all_mode_bits
unfolding backward_access
backward_is zero = refl
backward_is (suc count) = backward_is count

-- ---- roads

routable_by : (b : Bool) (runs : List (List ℤ)) (number : ℕ) → number < length (cond b runs []) → b ≡ true
routable_by true runs number h = refl
routable_by false runs number h = absurd (omega arith)

module _ (x : Extract) (plain : IsPlainExtract x) where
  tags_of : (w : OsmWay) → IsIn x.ways w → All (λ tag. is_residential_tag tag ≡ true) w.tags
  tags_of w there =
      let (k, (inside, is)) = at_in x.ways w there in
      subst (λ v. All (λ tag. is_residential_tag tag ≡ true) v.tags) (is w) (plain.ways k w inside)

  road_tags : (p : DirectedPiece) → IsPiece x p → (count : ℕ) × (way_tags x p.way ≡ repeated (suc count))
  road_tags p is =
      let of : IsOf x p.way p.run = is_of x p.way p.run (omega (arith, is.inside)) in
      let (count, e) = some_tags of.way.tags (routable_by (is_routable of.way.tags) _ p.run of.inside) (tags_of of.way of.there) in
      let found : way_tags x of.way.id ≡ of.way.tags = ap (λ o. option_map_or (λ way. way.tags) o []) (found_way x of.way of.there) in
      (count, ap (way_tags x) (sym of.same_id) ∙ (found ∙ e))

  access_is : (p : DirectedPiece) → IsPiece x p → (forward : Bool) → way_access x p.way forward ≡ all_mode_bits
  access_is p is true = let (count, e) = road_tags p is in ap forward_access e ∙ forward_is count
  access_is p is false = let (count, e) = road_tags p is in ap backward_access e ∙ backward_is count

all_have : (mode : ℕ) → IsMode mode → ShareMode all_mode_bits mode
all_have mode one =
    All-contains (ShareMode all_mode_bits) (1 ∷ 2 ∷ 4 ∷ 8 ∷ 64 ∷ []) mode
    (All-cons (ShareMode all_mode_bits) 1 (2 ∷ 4 ∷ 8 ∷ 64 ∷ []) (λ h. omega (arith, h))
    (All-cons (ShareMode all_mode_bits) 2 (4 ∷ 8 ∷ 64 ∷ []) (λ h. omega (arith, h))
    (All-cons (ShareMode all_mode_bits) 4 (8 ∷ 64 ∷ []) (λ h. omega (arith, h))
    (All-cons (ShareMode all_mode_bits) 8 (64 ∷ []) (λ h. omega (arith, h))
    (All-cons (ShareMode all_mode_bits) 64 [] (λ h. omega (arith, h)) (All-nil (ShareMode all_mode_bits))))))) one

all_keep : ShareMode (bit_or all_mode_bits all_mode_bits) all_mode_bits
all_keep = λ h. omega (arith, h)

pub open_to_all : (x : Extract) → IsPlainExtract x → (mode : ℕ) (p : DirectedPiece) → IsMode mode → IsPiece x p → MayRide x all_mode_bits mode p
open_to_all x plain mode p one is = record {
  exists = is;
  may = (
    subst (λ a. ShareMode (bit_or a (way_access x p.way false)) all_mode_bits) (sym (access_is x plain p is true))
        (subst (λ a. ShareMode (bit_or all_mode_bits a) all_mode_bits) (sym (access_is x plain p is false)) all_keep),
    subst (λ a. ShareMode a mode) (sym (access_is x plain p is p.forward)) (all_have mode one),
  );
}

-- ---- nodes

no_tags : (test : OsmNode → Bool) (nodes : List OsmNode) → All (λ node. node.tags ≡ []) nodes → option_map_or (λ node. node.tags) (find test nodes) [] ≡ []
no_tags test [] all = refl
no_tags test (node ∷ nodes) all = by (test node) (no_tags test nodes (All-tail (λ n. n.tags ≡ []) node nodes all))
  where
    by : (b : Bool) → option_map_or (λ n. n.tags) (find test nodes) [] ≡ [] → option_map_or (λ n. n.tags) (cond b (Some node) (find test nodes)) [] ≡ []
    by true rest = All-head (λ n. n.tags ≡ []) node nodes all
    by false rest = rest

untagged : node_access [] ≡ all_mode_bits
unfolding node_access
untagged = refl

pub none_closed : (x : Extract) → IsPlainExtract x → (mode : ℕ) (n : ℤ) → IsMode mode → Passes x mode n
none_closed x plain mode n one =
    subst (λ a. ShareMode a mode) (sym (ap node_access (no_tags (λ node. int_eq node.id n) x.nodes plain.nodes) ∙ untagged)) (all_have mode one)

-- ---- turns

no_row : (relation : OsmRelation) → relation.tags ≡ [] → row_of relation ≡ None
no_row relation untagged = cond-false _ (row_in (turn_of relation)) None (ap is_restriction untagged)

no_rows : (relations : List OsmRelation) → All (λ relation. relation.tags ≡ []) relations → filter_map row_of relations ≡ []
no_rows [] all = refl
no_rows (relation ∷ relations) all =
    ap (λ o. cons_option o (filter_map row_of relations)) (no_row relation (All-head (λ r. r.tags ≡ []) relation relations all))
    ∙ no_rows relations (All-tail (λ r. r.tags ≡ []) relation relations all)

no_rules : (x : Extract) → IsPlainExtract x → turn_rules x ≡ []
unfolding turn_rules
no_rules x plain = ap (map rule_of) (no_rows x.relations plain.relations)

pub none_forbidden : (x : Extract) → IsPlainExtract x → (mode : ℕ) (pattern : List DirectedPiece) → IsPatternOf x mode pattern → ⊥
none_forbidden x plain mode pattern (modes, is, has) =
    let (k, inside, same) = is.there in
    omega (arith, inside, ap length (no_rules x plain))
