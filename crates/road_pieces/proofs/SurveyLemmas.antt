-- The pass over the refs of a way: what is found, and what the rest gives.
use Rattle.std.proofs.Common.{◌≡◌, ℕ, ◌+◌, ◌<◌, ◌≤◌, sym, ◌∙◌, ap, List, [], ◌∷◌, ◌++◌, length, get_or, take, drop, ℤ, true, false, arith, append_assoc}
use Rattle.std.specs.Prelude.{count_by, sum_by, not, if◌then◌else◌, ◌*◌}
use Rattle.std.proofs.lemmas.Bool.{cond-true, cond-false}
use Rattle.std.proofs.lemmas.List.{drop_more}
use Rattle.std.proofs.lemmas.List.Sums.{count_by_more_yes, count_by_more_no, count_by-le-length, sum_by_more, sum_by_more_le}
use Rattle.osm_model.specs.declared.nodes.OsmNode.{OsmNode}
use Rattle.osm_model.specs.declared.ways.OsmWay.{OsmWay}
use Rattle.osm_model.specs.declared.extract.Extract.{Extract}
use Rattle.road_pieces.specs.Rules.{is_routable}
use Rattle.road_pieces.specs.Runs.{has_node}
use Rattle.road_pieces.specs.Lines.{Line, Draft, lines_from, lines_after}

-- after i refs
pub record IsSurveyed (nodes : List OsmNode) (way : ℕ) (refs : List ℤ) (before : List Line) (draft : Draft) (number missing i : ℕ) : Type 0 where
  pub done : draft.done ++ lines_from nodes way number draft.begun (drop i refs) ≡ before ++ lines_from nodes way 0 [] refs
  pub few : number ≤ i
  pub counted : missing ≡ count_by (λ id. not (has_node nodes id)) (take i refs)
  pub bounded : missing ≤ i

-- the refs of a way that count as missing
abbrev pub missing_of : List OsmNode → OsmWay → ℕ
missing_of nodes way = if is_routable way.tags then count_by (λ id. not (has_node nodes id)) way.refs else 0

-- after so many ways
pub record AreSurveyed (x : Extract) (draft : Draft) (routable missing place : ℕ) : Type 0 where
  pub done : draft.done ++ lines_after x.nodes place (drop place x.ways) ≡ lines_after x.nodes 0 x.ways
  pub whole : draft.begun ≡ []
  pub ways : routable ≡ count_by (λ way. is_routable way.tags) (take place x.ways)
  pub few : routable ≤ place
  pub counted : missing ≡ sum_by (missing_of x.nodes) (take place x.ways)
  pub bounded : missing ≤ 20_000_000 * place

-- one way more
more_lines : (x : Extract) (place : ℕ) (way : OsmWay) → place < length x.ways → way ≡ get_or x.ways place way → lines_after x.nodes place (drop place x.ways) ≡ (if is_routable way.tags then lines_from x.nodes place 0 [] way.refs else []) ++ lines_after x.nodes (place + 1) (drop (place + 1) x.ways)
more_lines x place way h e =
    ap (lines_after x.nodes place) (drop_more x.ways place way h ∙ ap (λ w. w ∷ drop (place + 1) x.ways) (sym e))

pub with_way : (x : Extract) (draft new : Draft) (routable missing more place : ℕ) (way : OsmWay) → place < length x.ways → way ≡ get_or x.ways place way → AreSurveyed x draft routable missing place → is_routable way.tags ≡ true → new.done ≡ draft.done ++ lines_from x.nodes place 0 [] way.refs → new.begun ≡ [] → more ≡ count_by (λ id. not (has_node x.nodes id)) way.refs → more ≤ 20_000_000 → AreSurveyed x new (routable + 1) (missing + more) (place + 1)
with_way x draft new routable missing more place way h e s is done whole counted bounded = record {
  done = ap (λ l. l ++ lines_after x.nodes (place + 1) (drop (place + 1) x.ways)) done ∙ (append_assoc draft.done (lines_from x.nodes place 0 [] way.refs) (lines_after x.nodes (place + 1) (drop (place + 1) x.ways)) ∙ (ap (λ l. draft.done ++ (l ++ lines_after x.nodes (place + 1) (drop (place + 1) x.ways))) (sym (cond-true _ _ _ is)) ∙ (ap (λ l. draft.done ++ l) (sym (more_lines x place way h e)) ∙ s.done)));
  whole = whole;
  ways = ap (λ n. n + 1) s.ways ∙ sym (count_by_more_yes (λ w. is_routable w.tags) x.ways place way h (ap (λ w. is_routable w.tags) (sym e) ∙ is));
  few = omega (arith, s.few);
  counted = ap (λ n. n + more) s.counted ∙ (ap (λ n. sum_by (missing_of x.nodes) (take place x.ways) + n) (counted ∙ (sym (cond-true _ _ _ is) ∙ ap (missing_of x.nodes) e)) ∙ sym (sum_by_more (missing_of x.nodes) x.ways place way h));
  bounded = omega (arith, s.bounded);
}

pub without_way : (x : Extract) (draft : Draft) (routable missing place : ℕ) (way : OsmWay) → place < length x.ways → way ≡ get_or x.ways place way → AreSurveyed x draft routable missing place → is_routable way.tags ≡ false → AreSurveyed x draft routable missing (place + 1)
without_way x draft routable missing place way h e s is = record {
  done = ap (λ l. draft.done ++ l) (ap (λ l. l ++ lines_after x.nodes (place + 1) (drop (place + 1) x.ways)) (sym (cond-false _ (lines_from x.nodes place 0 [] way.refs) [] is)) ∙ sym (more_lines x place way h e)) ∙ s.done;
  whole = s.whole;
  ways = s.ways ∙ sym (count_by_more_no (λ w. is_routable w.tags) x.ways place way h (ap (λ w. is_routable w.tags) (sym e) ∙ is));
  few = omega (arith, s.few);
  counted = s.counted ∙ (omega (arith, sum_by_more (missing_of x.nodes) x.ways place way h, ap (missing_of x.nodes) (sym e) ∙ cond-false _ (count_by (λ id. not (has_node x.nodes id)) way.refs) 0 is));
  bounded = omega (arith, s.bounded);
}

few_refs : (x : Extract) (place : ℕ) (d : OsmWay) → place < length x.ways → length (get_or x.ways place d).refs ≤ 20_000_000
few_refs x place d h = omega (arith, x.ref_limit, sum_by_more_le (λ way. length way.refs) x.ways place d h)

pub few_missing : (x : Extract) (place more : ℕ) (way : OsmWay) → place < length x.ways → way ≡ get_or x.ways place way → more ≡ count_by (λ id. not (has_node x.nodes id)) way.refs → more ≤ 20_000_000
few_missing x place more way h e counted =
    omega (arith, counted, count_by-le-length (λ id. not (has_node x.nodes id)) way.refs, few_refs x place way h, ap (λ w. length w.refs) e)
