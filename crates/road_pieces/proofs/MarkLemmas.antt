-- Counting the places of lines decides which nodes are junctions.
use Rattle.std.proofs.Common.{◌≡◌, ℕ, ◌+◌, ◌<◌, ◌≤◌, ◌==◌, refl, sym, ◌∙◌, ap, List, [], ◌∷◌, ◌++◌, length, map, take, get_or, ℤ, Bool, true, false, cond, inl, inr, min, arith}
use Rattle.std.specs.Prelude.{nat_le, sum_by, count_by, ◌||◌, ◌&&◌, ◌⊎◌}
use Rattle.std.specs.List.{list_any}
use Rattle.std.specs.Ordering.{int_eq}
use Rattle.std.specs.Cmp.{signed_Decides}
use Rattle.std.proofs.lemmas.Bool.{cond-true, cond-false, cases_Bool, both_ways, or_parts, or_cases, le-leb, lt-leb, and_left, and_right, and_from, cases_lt}
use Rattle.std.proofs.lemmas.List.{get_or_default, map-append, take_more}
use Rattle.std.proofs.lemmas.List.Elements.{All-head, All-tail}
use Rattle.std.proofs.lemmas.List.Sums.{sum_by-cons}
use Rattle.std.proofs.lemmas.List.Folds.{list_any_at, list_any_none}
use Rattle.osm_model.specs.declared.nodes.OsmNode.{OsmNode}
use Rattle.osm_model.specs.declared.extract.Extract.{Extract}
use Rattle.osm_model.specs.Extract.{NodesRise}
use Rattle.road_pieces.specs.Rules.{is_barrier}
use Rattle.road_pieces.specs.Runs.{has_node, all_runs, is_first, is_last, is_end, times, has_barrier, is_junction}
use Rattle.road_pieces.specs.Lines.{Line, place_of, id_at, no_node, begins_with, ends_with, marks_at, all_lines}
use Rattle.road_pieces.proofs.NodePlaces.{place_is, node_there}
use Rattle.road_pieces.proofs.RunLemmas.{AreThere, place_eq}
use Rattle.road_pieces.proofs.LineLemmas.{sum_of_lines}

-- how often a node counts in a run: once for each place, and once more for each end
abbrev marks_in : ℤ → List ℤ → ℕ
marks_in n run = times n run + cond (is_first n run) 1 0 + cond (is_last n run) 1 0

-- counted by places and by ids
module _ (nodes : List OsmNode) (rise : NodesRise nodes) (p : ℕ) (inside : p < length nodes) where
  abbrev the_id : ℤ
  the_id = id_at nodes p

  is_there : has_node nodes the_id ≡ true
  is_there = node_there nodes p no_node the_id inside refl

  eq_is : (q : ℤ) → has_node nodes q ≡ true → (place_of nodes q == p) ≡ int_eq q the_id
  eq_is q h =
      ap (λ r. place_of nodes q == r) (sym (place_is nodes p no_node the_id rise inside refl)) ∙ place_eq nodes q the_id h is_there

  abbrev Is : ℤ → Type 0
  Is id = has_node nodes id ≡ true

  times_is : (run : List ℤ) → AreThere nodes run → count_by (λ q. q == p) (map (place_of nodes) run) ≡ times the_id run
  times_is [] there = refl
  times_is (q ∷ run) there =
      sum_by-cons (λ r. cond (r == p) 1 0) (place_of nodes q) (map (place_of nodes) run) ∙ (ap (λ b. cond b 1 0 + count_by (λ r. r == p) (map (place_of nodes) run)) (eq_is q (All-head Is q run there)) ∙ (ap (λ n. cond (int_eq q the_id) 1 0 + n) (times_is run (All-tail Is q run there)) ∙ sym (sum_by-cons (λ m. cond (int_eq m the_id) 1 0) q run)))

  first_alike : (run : List ℤ) → AreThere nodes run → begins_with p (map (place_of nodes) run) ≡ is_first the_id run
  first_alike [] there = refl
  first_alike (q ∷ run) there = eq_is q (All-head Is q run there)

  last_alike : (run : List ℤ) → AreThere nodes run → ends_with p (map (place_of nodes) run) ≡ is_last the_id run
  last_alike [] there = refl
  last_alike (q ∷ []) there = eq_is q (All-head Is q [] there)
  last_alike (q ∷ (r ∷ run)) there = last_alike (r ∷ run) (All-tail Is q (r ∷ run) there)

  marks_alike : (run : List ℤ) → AreThere nodes run → marks_at p (map (place_of nodes) run) ≡ marks_in the_id run
  marks_alike run there =
      ap (λ n. n + cond (begins_with p (map (place_of nodes) run)) 1 0 + cond (ends_with p (map (place_of nodes) run)) 1 0) (times_is run there) ∙ (ap (λ b. times the_id run + cond b 1 0 + cond (ends_with p (map (place_of nodes) run)) 1 0) (first_alike run there) ∙ ap (λ b. times the_id run + cond (is_first the_id run) 1 0 + cond b 1 0) (last_alike run there))

  -- the node has a barrier where the node of its id has
  barrier_is : has_barrier nodes the_id ≡ is_barrier (get_or nodes p no_node).tags
  barrier_is =
      elim (cases_Bool (is_barrier (get_or nodes p no_node).tags)) [
        | inl is ↦ list_any_at (λ node. int_eq node.id the_id && is_barrier node.tags) nodes p no_node inside (and_from _ _ ((signed_Decides the_id the_id).1 refl) is) ∙ sym is
        | inr without ↦ list_any_none (λ node. int_eq node.id the_id && is_barrier node.tags) nodes (λ k d h. none k d h without) ∙ sym without
      ]
    where
      none : (k : ℕ) (d : OsmNode) → k < length nodes → is_barrier (get_or nodes p no_node).tags ≡ false → (int_eq (get_or nodes k d).id the_id && is_barrier (get_or nodes k d).tags) ≡ false
      none k d h without =
          elim (cases_Bool (int_eq (get_or nodes k d).id the_id)) [
            | inl same ↦ and_right _ _ (ap (λ n. is_barrier n.tags) (get_or_default nodes k d no_node h ∙ ap (λ j. get_or nodes j no_node)
                (sym (place_is nodes k d the_id rise h ((signed_Decides _ _).0 same)) ∙ place_is nodes p no_node the_id rise inside refl)) ∙ without)
            | inr other ↦ and_left _ _ other
          ]

-- a node that is an end of a run counts twice in it
pub times-cons : (n m : ℤ) (run : List ℤ) → times n (m ∷ run) ≡ cond (int_eq m n) 1 0 + times n run
times-cons n m run = sum_by-cons (λ k. cond (int_eq k n) 1 0) m run

pub first_once : (n : ℤ) (run : List ℤ) → is_first n run ≡ true → 1 ≤ times n run
first_once n [] h = absurd (both_ways _ refl h)
first_once n (m ∷ run) h = omega (arith, times-cons n m run, cond-true {A = ℕ} (int_eq m n) 1 0 h)

pub last_once : (n : ℤ) (run : List ℤ) → is_last n run ≡ true → 1 ≤ times n run
last_once n [] h = absurd (both_ways _ refl h)
last_once n (m ∷ []) h = omega (arith, times-cons n m [], cond-true {A = ℕ} (int_eq m n) 1 0 h)
last_once n (m ∷ (k ∷ run)) h = omega (arith, times-cons n m (k ∷ run), last_once n (k ∷ run) h)

end_twice : (n : ℤ) (run : List ℤ) → is_end n run ≡ true → 2 ≤ marks_in n run
end_twice n run h =
    elim (or_cases (is_first n run) (is_last n run) h) [
      | inl first ↦ omega (arith, first_once n run first, cond-true {A = ℕ} (is_first n run) 1 0 first)
      | inr last ↦ omega (arith, last_once n run last, cond-true {A = ℕ} (is_last n run) 1 0 last)
    ]

no_end : (n : ℤ) (run : List ℤ) → is_end n run ≡ false → marks_in n run ≡ times n run
no_end n run h =
    let parts = or_parts (is_first n run) (is_last n run) h in
    omega (arith, cond-false {A = ℕ} (is_first n run) 1 0 parts.0, cond-false {A = ℕ} (is_last n run) 1 0 parts.1)

-- over all runs
abbrev all_marks : ℤ → List (List ℤ) → ℕ
all_marks n runs = sum_by (marks_in n) runs

abbrev all_times : ℤ → List (List ℤ) → ℕ
all_times n runs = sum_by (times n) runs

ends_twice : (n : ℤ) (runs : List (List ℤ)) → list_any (is_end n) runs ≡ true → 2 ≤ all_marks n runs
ends_twice n [] h = absurd (both_ways _ refl h)
ends_twice n (r ∷ runs) h =
    elim (or_cases (is_end n r) (list_any (is_end n) runs) h) [
      | inl here ↦ omega (arith, sum_by-cons (marks_in n) r runs, end_twice n r here)
      | inr later ↦ omega (arith, sum_by-cons (marks_in n) r runs, ends_twice n runs later)
    ]

no_ends : (n : ℤ) (runs : List (List ℤ)) → list_any (is_end n) runs ≡ false → all_marks n runs ≡ all_times n runs
no_ends n [] h = refl
no_ends n (r ∷ runs) h =
    let parts = or_parts (is_end n r) (list_any (is_end n) runs) h in
    sum_by-cons (marks_in n) r runs ∙ (ap (λ k. k + all_marks n runs) (no_end n r parts.0) ∙ (ap (λ k. times n r + k) (no_ends n runs parts.1) ∙ sym (sum_by-cons (times n) r runs)))

-- counts up to two decide
capped_two : (s : ℕ) → nat_le 2 (min 2 s) ≡ nat_le 2 s
capped_two s =
    elim (cases_lt s 2) [
      | inl h ↦ lt-leb 2 (min 2 s) (omega arith) ∙ sym (lt-leb 2 s h)
      | inr h ↦ le-leb 2 (min 2 s) (omega arith) ∙ sym (le-leb 2 s h)
    ]

capped_one : (s : ℕ) → nat_le 1 (min 2 s) ≡ nat_le 1 s
capped_one s =
    elim (cases_lt s 1) [
      | inl h ↦ lt-leb 1 (min 2 s) (omega arith) ∙ sym (lt-leb 1 s h)
      | inr h ↦ le-leb 1 (min 2 s) (omega arith) ∙ sym (le-leb 1 s h)
    ]

decided : (n : ℤ) (runs : List (List ℤ)) (b : Bool) → (nat_le 2 (min 2 (all_marks n runs)) || (b && nat_le 1 (min 2 (all_marks n runs)))) ≡ (list_any (is_end n) runs || nat_le 2 (all_times n runs) || (b && nat_le 1 (all_times n runs)))
decided n runs b =
    ap (λ c. c || (b && nat_le 1 (min 2 (all_marks n runs)))) (capped_two (all_marks n runs)) ∙ (ap (λ c. nat_le 2 (all_marks n runs) || (b && c)) (capped_one (all_marks n runs)) ∙ by (cases_Bool (list_any (is_end n) runs)))
  where
    by : (list_any (is_end n) runs ≡ true) ⊎ (list_any (is_end n) runs ≡ false) → (nat_le 2 (all_marks n runs) || (b && nat_le 1 (all_marks n runs))) ≡ (list_any (is_end n) runs || nat_le 2 (all_times n runs) || (b && nat_le 1 (all_times n runs)))
    by (inl is) =
        ap (λ c. c || (b && nat_le 1 (all_marks n runs))) (le-leb 2 (all_marks n runs) (ends_twice n runs is)) ∙ ap (λ c. c || nat_le 2 (all_times n runs) || (b && nat_le 1 (all_times n runs))) (sym is)
    by (inr none) =
        ap (λ s. nat_le 2 s || (b && nat_le 1 s)) (no_ends n runs none) ∙ ap (λ c. c || nat_le 2 (all_times n runs) || (b && nat_le 1 (all_times n runs))) (sym none)

-- what a place counts in all lines
abbrev pub line_marks : ℕ → List Line → ℕ
line_marks p ls = sum_by (λ l. marks_at p l.places) ls

-- a node is a junction where its place counts twice, or once where it has a barrier
pub crossing_is : (x : Extract) (p m : ℕ) → p < length x.nodes → min 2 m ≡ min 2 (line_marks p (all_lines x)) → (nat_le 2 m || (is_barrier (get_or x.nodes p no_node).tags && nat_le 1 m)) ≡ is_junction x (id_at x.nodes p)
crossing_is x p m inside e =
    let n : ℤ = id_at x.nodes p in
    let b : Bool = is_barrier (get_or x.nodes p no_node).tags in
    let same : line_marks p (all_lines x) ≡ all_marks n (all_runs x) =
    sum_of_lines x.nodes (λ l. marks_at p l.places) (marks_in n) (λ way number run there. marks_alike x.nodes x.nodes_rise p inside run there) 0 x.ways in
    ap (λ c. c || (b && nat_le 1 m)) (sym (capped_two m)) ∙ (ap (λ c. nat_le 2 (min 2 m) || (b && c)) (sym (capped_one m)) ∙ (ap (λ k. nat_le 2 k || (b && nat_le 1 k)) (e ∙ ap (min 2) same) ∙ (decided n (all_runs x) b ∙ ap (λ c. list_any (is_end n) (all_runs x) || nat_le 2 (all_times n (all_runs x)) || (c && nat_le 1 (all_times n (all_runs x)))) (sym (barrier_is x.nodes x.nodes_rise p inside)))))

-- one node more is flagged
pub flag_more : (x : Extract) (place m : ℕ) (node : OsmNode) (flags : List Bool) (flag : Bool) → place < length x.nodes → node ≡ get_or x.nodes place node → min 2 m ≡ min 2 (line_marks place (all_lines x)) → flag ≡ (nat_le 2 m || (is_barrier node.tags && nat_le 1 m)) → flags ≡ map (λ n. is_junction x n.id) (take place x.nodes) → flags ++ flag ∷ [] ≡ map (λ n. is_junction x n.id) (take (place + 1) x.nodes)
flag_more x place m node flags flag h e counted is before =
    let there : node ≡ get_or x.nodes place no_node = e ∙ get_or_default x.nodes place node no_node h in
    let decided : flag ≡ is_junction x (get_or x.nodes place no_node).id =
    is ∙ (ap (λ n. nat_le 2 m || (is_barrier n.tags && nat_le 1 m)) there ∙ crossing_is x place m h counted) in
    ap (λ l. l ++ flag ∷ []) before ∙ (ap (λ f. map (λ n. is_junction x n.id) (take place x.nodes) ++ f ∷ []) decided ∙ (sym (map-append (λ n. is_junction x n.id) (take place x.nodes) (get_or x.nodes place no_node ∷ [])) ∙ ap (map (λ n. is_junction x n.id)) (sym (take_more x.nodes place no_node h))))
