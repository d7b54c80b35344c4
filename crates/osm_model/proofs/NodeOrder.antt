-- Nodes in another order.
use Rattle.std.proofs.Common.{◌≡◌, inl, inr, ℕ, suc, ◌+◌, ◌<◌, ◌≤◌, ◌^◌, refl, sym, ◌∙◌, ap, subst, get_or, List, [], ◌∷◌, ◌++◌, length, map, take, arith, pos}
use Rattle.std.specs.Prelude.{All, slice_range, IsPermutation}
use Rattle.std.specs.List.Sorted.{IsSortedByKey}
use Rattle.std.specs.Ordering.{int_cmp}
use Rattle.std.proofs.lemmas.List.Sorted.{IsPermutation-map, length_permutation}
use Rattle.std.proofs.lemmas.List.{map-append, length-append, length-take, take_more}
use Rattle.std.proofs.lemmas.List.Elements.{All-push}
use Rattle.osm_model.specs.declared.tags.Tag.{Tag}
use Rattle.osm_model.specs.declared.nodes.OsmNode.{OsmNode}
use Rattle.osm_model.specs.declared.nodes.Spot.{Spot}
use Rattle.osm_model.specs.declared.node_spans.TagSpan.{TagSpan}
use Rattle.osm_model.specs.declared.node_order.PlacedSpot.{PlacedSpot}
use Rattle.osm_model.specs.NodeRows.{tags_at, node_of, nodes_from, HasNone, IsSpan, AreNodes, AreSpans}
use Rattle.osm_model.specs.NodeOrder.{placed_from, placed_node, AddsSpan, IsInOrder}
use Rattle.osm_model.proofs.TextLemmas.{grew_none, grew_by}
use Rattle.osm_model.proofs.RowOrder.{objects_sorted}
use Rattle.osm_model.proofs.NodeLemmas.{none_at, some_at, bare_behind, spans_kept, nodes_push, nodes_other, tags_last, none_yet, rise_more, wider}

pub placed_more : (i : ℕ) (spots : List Spot) (spot : Spot) → placed_from i (spots ++ spot ∷ []) ≡ placed_from i spots ++ record { spot = spot; place = i + length spots } ∷ []
placed_more i [] spot = ap (λ n. record { spot = spot; place = n } ∷ []) {x = i} {y = i + 0} (omega arith)
placed_more i (s ∷ spots) spot =
    ap (λ l. record { spot = s; place = i } ∷ l) (placed_more (i + 1) spots spot ∙
    ap (λ n. placed_from (i + 1) spots ++ record { spot = spot; place = n } ∷ []) {x = i + 1 + length spots} {y = i + suc (length spots)} (omega arith))

pub placed_step : (spots : List Spot) (i n : ℕ) (d : Spot) (items new : List PlacedSpot) → i < length spots → n ≡ i → items ≡ placed_from 0 (take i spots) → new ≡ items ++ record { spot = get_or spots i d; place = n } ∷ [] → new ≡ placed_from 0 (take (i + 1) spots)
placed_step spots i n d items new h at before pushed =
    let there : n ≡ 0 + length (take i spots) = omega (arith, at, length-take i spots) in
    pushed ∙ (ap (λ l. l ++ record { spot = get_or spots i d; place = n } ∷ []) before ∙
    (ap (λ m. placed_from 0 (take i spots) ++ record { spot = get_or spots i d; place = m } ∷ []) there ∙
    (sym (placed_more 0 (take i spots) (get_or spots i d)) ∙ ap (placed_from 0) (sym (take_more spots i d h)))))

-- each spot at its place is the list
pub placed_nodes : (tags : List Tag) (spans : List TagSpan) (i : ℕ) (spots : List Spot) → map (placed_node tags spans) (placed_from i spots) ≡ nodes_from tags spans i spots
placed_nodes tags spans i [] = refl
placed_nodes tags spans i (spot ∷ spots) = ap (λ l. node_of (tags_at tags spans i) spot ∷ l) (placed_nodes tags spans (i + 1) spots)

pub length_placed : (i : ℕ) (spots : List Spot) → length (placed_from i spots) ≡ length spots
length_placed i [] = refl
length_placed i (spot ∷ spots) = ap suc (length_placed (i + 1) spots)

-- ---- one spot more

-- a node behind the others, whose tags stand anywhere
span_behind : (tags : List Tag) (spans : List TagSpan) (spots : List Spot) (s : Spot) (q : TagSpan) → AreNodes tags spans spots → q.place ≡ length spots → nodes_from tags (spans ++ q ∷ []) 0 (spots ++ s ∷ []) ≡ nodes_from tags spans 0 spots ++ node_of (slice_range tags q.from q.to) s ∷ []
span_behind tags spans spots s q kept at =
    nodes_push tags (spans ++ q ∷ []) 0 spots s ∙
    (ap (λ l. l ++ node_of (tags_at tags (spans ++ q ∷ []) (0 + length spots)) s ∷ []) (nodes_other tags spans q 0 spots (omega (arith, at))) ∙
    ap (λ t. nodes_from tags spans 0 spots ++ node_of t s ∷ [])
    (ap (tags_at tags (spans ++ q ∷ [])) {x = 0 + length spots} {y = q.place} (omega (arith, at)) ∙
    tags_last tags spans q (subst (HasNone spans) (sym at) (none_yet spans (length spots) (length tags) kept.within))))

span_kept : (tags : List Tag) (spans : List TagSpan) (spots : List Spot) (s : Spot) (q : TagSpan) → AreNodes tags spans spots → q.place ≡ length spots → q.from ≤ q.to → q.to ≤ length tags → length spots + 1 < 2 ^ 32 → AreNodes tags (spans ++ q ∷ []) (spots ++ s ∷ [])
span_kept tags spans spots s q kept at low high few =
    let one : length (spots ++ s ∷ []) ≡ length spots + 1 = omega (arith, length-append spots (s ∷ [])) in
    record {
      rise = rise_more spans q (length tags) kept.rise (subst (λ n. All (IsSpan n (length tags)) spans) (sym at) kept.within);
      within = All-push (IsSpan (length (spots ++ s ∷ [])) (length tags)) spans q
          (wider (length spots) (length (spots ++ s ∷ [])) (length tags) (length tags) spans (omega (arith, one)) (omega arith) kept.within)
          (record { placed = omega (arith, one, at); rises = low; inside = high });
      few = omega (arith, one, few);
    }

added : (old : List TagSpan) (done : List PlacedSpot) (one : PlacedSpot) (spots spots' : List Spot) (spans spans' : List TagSpan) (tags : List Tag) → IsInOrder old done spots spans → AreSpans tags old → spots' ≡ spots ++ one.spot ∷ [] → AddsSpan old one.place (length spots) spans spans' → length spots + 1 < 2 ^ 32
    → (nodes_from tags spans' 0 spots' ≡ map (placed_node tags old) done ++ placed_node tags old one ∷ []) × AreNodes tags spans' spots'
added old done one spots spots' spans spans' tags made are pushed (inl none) few =
    let kept = made.kept tags are in
    let none_here : tags_at tags old one.place ≡ [] = none_at tags old one.place none.0 in (
      ap (λ s. nodes_from tags s 0 spots') none.1 ∙ (bare_behind (nodes_from tags spans 0 spots) tags (tags_at tags old one.place) spans spots spots' one.spot refl kept none_here pushed ∙
          ap (λ l. l ++ placed_node tags old one ∷ []) (made.same tags are)),
      subst (λ s. AreNodes tags s spots') (sym none.1) (spans_kept tags tags spans spots spots' kept (grew_none tags) (grew_by spots spots' (one.spot ∷ []) pushed)
          (let is : length spots' ≡ length (spots ++ one.spot ∷ []) = ap (λ l. length l) pushed in omega (arith, is, few, length-append spots (one.spot ∷ [])))),
    )
added old done one spots spots' spans spans' tags made are pushed (inr found) few =
    let kept = made.kept tags are in
    let k : ℕ = found.0 in
    let span : TagSpan = get_or old k (record { place = 0; from = 0; to = 0 }) in
    let q : TagSpan = record { place = length spots; from = span.from; to = span.to } in
    let now : spans' ≡ spans ++ q ∷ [] = found.2 (record { place = 0; from = 0; to = 0 }) in
    let lies = are.inside k (record { place = 0; from = 0; to = 0 }) found.1.inside in
    let here : tags_at tags old one.place ≡ slice_range tags span.from span.to =
    some_at tags old one.place k (record { place = 0; from = 0; to = 0 }) are.rise found.1.inside (found.1.is (record { place = 0; from = 0; to = 0 })) in (
      ap (λ s. nodes_from tags s 0 spots') now ∙ (ap (nodes_from tags (spans ++ q ∷ []) 0) pushed ∙
          (span_behind tags spans spots one.spot q kept refl ∙
          (ap (λ t. nodes_from tags spans 0 spots ++ node_of t one.spot ∷ []) (sym here) ∙
          ap (λ l. l ++ placed_node tags old one ∷ []) (made.same tags are)))),
      subst (λ s. AreNodes tags s spots') (sym now) (subst (AreNodes tags (spans ++ q ∷ [])) (sym pushed) (span_kept tags spans spots one.spot q kept refl lies.0 lies.1 few)),
    )

pub one_added : (old : List TagSpan) (placed : List PlacedSpot) (i : ℕ) (d : PlacedSpot) (spots spots' : List Spot) (spans spans' : List TagSpan) → i < length placed → IsInOrder old (take i placed) spots spans → spots' ≡ spots ++ (get_or placed i d).spot ∷ [] → AddsSpan old (get_or placed i d).place (length spots) spans spans' → length spots + 1 < 2 ^ 32 → IsInOrder old (take (i + 1) placed) spots' spans'
one_added old placed i d spots spots' spans spans' h made pushed adds few =
    let one : PlacedSpot = get_or placed i d in
    let more : take (i + 1) placed ≡ take i placed ++ one ∷ [] = take_more placed i d h in
    record {
      same = λ tags are. (added old (take i placed) one spots spots' spans spans' tags made are pushed adds few).0 ∙
          (sym (map-append (placed_node tags old) (take i placed) (one ∷ [])) ∙ ap (map (placed_node tags old)) (sym more));
      kept = λ tags are. (added old (take i placed) one spots spots' spans spans' tags made are pushed adds few).1;
    }

pub none_placed : (old : List TagSpan) → IsInOrder old [] [] []
none_placed old = record {
  same = λ tags are. refl;
  kept = λ tags are. record { rise = λ i j d l m. absurd (omega arith); within = λ k d l. absurd (omega arith); few = omega arith };
}

pub one_longer : {X : Type 0} (xs ys : List X) (x : X) (n : ℕ) → ys ≡ xs ++ x ∷ [] → length xs ≡ n → length ys ≡ n + 1
one_longer xs ys x n e many =
    let is : length ys ≡ length (xs ++ x ∷ []) = ap (λ l. length l) e in omega (arith, is, many, length-append xs (x ∷ []))

-- ---- the whole list

pub moved_nodes : (old : List OsmNode) (tags : List Tag) (spans : List TagSpan) (spots spots' : List Spot) (spans' : List TagSpan) (placed : List PlacedSpot) → nodes_from tags spans 0 spots ≡ old → AreSpans tags spans → IsPermutation (placed_from 0 spots) placed → IsInOrder spans placed spots' spans' → IsPermutation old (nodes_from tags spans' 0 spots')
moved_nodes old tags spans spots spots' spans' placed e are same made =
    subst (λ ns. IsPermutation ns (nodes_from tags spans' 0 spots')) (placed_nodes tags spans 0 spots ∙ e)
    (subst (IsPermutation (map (placed_node tags spans) (placed_from 0 spots))) (sym (made.same tags are))
    (IsPermutation-map (placed_node tags spans) (placed_from 0 spots) placed same))

placed_sorted : (tags : List Tag) (spans : List TagSpan) (placed : List PlacedSpot) → IsSortedByKey (λ one. one.spot.id) int_cmp placed → IsSortedByKey (λ node. node.id) int_cmp (map (placed_node tags spans) placed)
placed_sorted tags spans placed sorted =
    let none : PlacedSpot = record { spot = record { id = pos 0; lat = pos 0; lon = pos 0 }; place = 0 } in
    objects_sorted (placed_node tags spans) (λ one. one.spot.id) (λ node. node.id) none (λ one. refl) placed sorted

pub sorted_nodes : (tags : List Tag) (spans : List TagSpan) (spots' : List Spot) (spans' : List TagSpan) (placed : List PlacedSpot) → AreSpans tags spans → IsSortedByKey (λ one. one.spot.id) int_cmp placed → IsInOrder spans placed spots' spans' → IsSortedByKey (λ node. node.id) int_cmp (nodes_from tags spans' 0 spots')
sorted_nodes tags spans spots' spans' placed are sorted made =
    subst (IsSortedByKey (λ node. node.id) int_cmp) (sym (made.same tags are)) (placed_sorted tags spans placed sorted)

pub few_placed : (spots : List Spot) (placed : List PlacedSpot) → IsPermutation (placed_from 0 spots) placed → length spots < 2 ^ 32 → length placed < 2 ^ 32
few_placed spots placed same few = omega (arith, length_permutation (placed_from 0 spots) placed same, length_placed 0 spots, few)
