-- The tags of all nodes are those of all spans.
use Rattle.std.proofs.Common.{◌≡◌, ◌⊎◌, inl, inr, ℕ, suc, ◌+◌, ◌-◌, ◌<◌, ◌≤◌, ◌^◌, min, refl, sym, ◌∙◌, ap, get_or, List, [], ◌∷◌, length, drop, arith}
use Rattle.std.specs.Prelude.{All, slice_range}
use Rattle.std.proofs.lemmas.Bool.{cond-true, cond-false, eq-eqb, ne_eqb, cases_lt}
use Rattle.std.proofs.lemmas.List.{length-take, length-drop}
use Rattle.std.proofs.lemmas.List.Elements.{All-head, All-tail}
use Rattle.std.proofs.lemmas.List.Sums.{sum_by-cons}
use Rattle.osm_model.specs.declared.tags.Tag.{Tag}
use Rattle.osm_model.specs.declared.nodes.OsmNode.{OsmNode}
use Rattle.osm_model.specs.declared.nodes.Spot.{Spot}
use Rattle.osm_model.specs.declared.node_spans.TagSpan.{TagSpan}
use Rattle.osm_model.specs.Extract.{tags_of_nodes}
use Rattle.osm_model.specs.NodeRows.{tags_at, node_of, nodes_from, SpansRise, IsSpan, AreNodes, tags_in_spans}

-- the places of the spans rise, from this one on and before that one
abbrev RiseWithin : ℕ → ℕ → List TagSpan → Type 0
RiseWithin i n [] = Unit {0}
RiseWithin i n (span ∷ spans) = (i ≤ span.place) × (span.place < n) × RiseWithin (span.place + 1) n spans

rise_within : (i n tags : ℕ) (spans : List TagSpan) → SpansRise spans → All (IsSpan n tags) spans → ((k : ℕ) (d : TagSpan) → k < length spans → i ≤ (get_or spans k d).place) → RiseWithin i n spans
rise_within i n tags [] rise within from = tt
rise_within i n tags (span ∷ spans) rise within from = (
  from 0 span (omega arith),
  (All-head (IsSpan n tags) span spans within).placed,
  rise_within (span.place + 1) n tags spans (λ a b d l m. rise (suc a) (suc b) d (omega arith) (omega arith)) (All-tail (IsSpan n tags) span spans within)
      (λ k d l. let above : span.place < (get_or spans k d).place = rise 0 (suc k) d (omega arith) (omega arith) in omega arith),
)

-- a span before these spots is of none of them
span_passed : (tags : List Tag) (span : TagSpan) (spans : List TagSpan) (i : ℕ) (spots : List Spot) → span.place < i → nodes_from tags (span ∷ spans) i spots ≡ nodes_from tags spans i spots
span_passed tags span spans i [] h = refl
span_passed tags span spans i (spot ∷ spots) h =
    ap (λ t. node_of t spot ∷ nodes_from tags (span ∷ spans) (i + 1) spots) (cond-false _ _ _ (ne_eqb span.place i (λ e. omega (arith, e, h)))) ∙
    ap (λ l. node_of (tags_at tags spans i) spot ∷ l) (span_passed tags span spans (i + 1) spots (omega arith))

none_before : (tags : List Tag) (i j n : ℕ) (spans : List TagSpan) → RiseWithin j n spans → i < j → tags_at tags spans i ≡ []
none_before tags i j n [] rise h = refl
none_before tags i j n (span ∷ spans) rise h =
    cond-false _ _ _ (ne_eqb span.place i (λ e. omega (arith, e, h, rise.0))) ∙ none_before tags i (span.place + 1) n spans rise.2 (omega (arith, rise.0, h))

many_in : (tags : List Tag) (from to : ℕ) → from ≤ to → to ≤ length tags → length (slice_range tags from to) ≡ to - from
many_in tags from to h l = omega (arith, length-take (to - from) (drop from tags), length-drop from tags)

zero_plus : (n : ℕ) → 0 + n ≡ n
zero_plus n = omega arith

first_counted : (tags : List Tag) (spans : List TagSpan) (i : ℕ) (spot : Spot) (spots : List Spot) → tags_of_nodes (nodes_from tags spans i (spot ∷ spots)) ≡ length (tags_at tags spans i) + tags_of_nodes (nodes_from tags spans (i + 1) spots)
first_counted tags spans i spot spots = sum_by-cons (λ (node : OsmNode). length node.tags) (node_of (tags_at tags spans i) spot) (nodes_from tags spans (i + 1) spots)

counted : (tags : List Tag) (spans : List TagSpan) (i n : ℕ) (spots : List Spot) → i + length spots ≡ n → RiseWithin i n spans → All (IsSpan n (length tags)) spans → tags_of_nodes (nodes_from tags spans i spots) ≡ tags_in_spans spans
counted tags [] i n [] e rise within = refl
counted tags (span ∷ spans) i n [] e rise within = absurd (omega (arith, rise.0, rise.1))
counted tags [] i n (spot ∷ spots) e rise within = first_counted tags [] i spot spots ∙ (zero_plus _ ∙ counted tags [] (i + 1) n spots (omega arith) tt within)
counted tags (span ∷ spans) i n (spot ∷ spots) e rise within = by_order (λ h rise' e'. counted tags (span ∷ spans) (i + 1) n spots e' rise' within) (λ rise' e'. counted tags spans (i + 1) n spots e' rise' (All-tail (IsSpan n (length tags)) span spans within)) (cases_lt i span.place)
  where
    here : IsSpan n (length tags) span
    here = All-head (IsSpan n (length tags)) span spans within

    by_order : (i < span.place → RiseWithin (i + 1) n (span ∷ spans) → i + 1 + length spots ≡ n → tags_of_nodes (nodes_from tags (span ∷ spans) (i + 1) spots) ≡ tags_in_spans (span ∷ spans)) → (RiseWithin (i + 1) n spans → i + 1 + length spots ≡ n → tags_of_nodes (nodes_from tags spans (i + 1) spots) ≡ tags_in_spans spans)
        → (i < span.place) ⊎ (span.place ≤ i) → tags_of_nodes (nodes_from tags (span ∷ spans) i (spot ∷ spots)) ≡ tags_in_spans (span ∷ spans)
    by_order with_it without_it (inl above) =
        let none : tags_at tags (span ∷ spans) i ≡ [] = none_before tags i (i + 1) n (span ∷ spans) (omega arith, rise.1, rise.2) (omega arith) in
        first_counted tags (span ∷ spans) i spot spots ∙ (ap (λ t. length t + tags_of_nodes (nodes_from tags (span ∷ spans) (i + 1) spots)) none ∙
        (zero_plus _ ∙ with_it above (omega arith, rise.1, rise.2) (omega arith)))
    by_order with_it without_it (inr not_above) =
        let same : span.place ≡ i = omega (arith, rise.0) in
        let tags_here : tags_at tags (span ∷ spans) i ≡ slice_range tags span.from span.to = cond-true _ _ _ (eq-eqb span.place i same) in
        let many : length (tags_at tags (span ∷ spans) i) ≡ span.to - span.from = ap (λ t. length t) tags_here ∙ many_in tags span.from span.to here.rises here.inside in
        let others : tags_of_nodes (nodes_from tags (span ∷ spans) (i + 1) spots) ≡ tags_in_spans spans =
        ap tags_of_nodes (span_passed tags span spans (i + 1) spots (omega (arith, same))) ∙
        without_it (ap_rise spans (span.place + 1) (i + 1) (omega (arith, same)) rise.2) (omega arith) in
        first_counted tags (span ∷ spans) i spot spots ∙ (ap (λ m. m + tags_of_nodes (nodes_from tags (span ∷ spans) (i + 1) spots)) many ∙
        (ap (λ m. (span.to - span.from) + m) others ∙ sym (sum_by-cons (λ (s : TagSpan). s.to - s.from) span spans)))
      where
        ap_rise : (spans : List TagSpan) (a b : ℕ) → a ≡ b → RiseWithin a n spans → RiseWithin b n spans
        ap_rise [] a b e rise = tt
        ap_rise (s ∷ ss) a b e rise = (omega (arith, e, rise.0), rise.1, rise.2)

pub tags_counted : (old : List OsmNode) (tags : List Tag) (spans spans' : List TagSpan) (spots : List Spot) (count : ℕ) → nodes_from tags spans 0 spots ≡ old → AreNodes tags spans spots → spans' ≡ spans → count ≡ min (2 ^ 64 - 1) (tags_in_spans spans') → count ≡ min (2 ^ 64 - 1) (tags_of_nodes old)
tags_counted old tags spans spans' spots count e kept same is =
    is ∙ (ap (λ s. min (2 ^ 64 - 1) (tags_in_spans s)) same ∙
    (ap (min (2 ^ 64 - 1)) (sym (counted tags spans 0 (length spots) spots (omega arith) (rise_within 0 (length spots) (length tags) spans kept.rise kept.within (λ k d l. omega arith)) kept.within)) ∙
    ap (λ ns. min (2 ^ 64 - 1) (tags_of_nodes ns)) e))
