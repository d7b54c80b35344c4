-- The lines of an extract and its runs: sums over them, and what each line is.
use Rattle.std.proofs.Common.{◌≡◌, ℕ, ◌+◌, ◌<◌, ◌≤◌, refl, sym, ◌∙◌, ap, subst, List, [], ◌∷◌, ◌++◌, length, map, get_or, drop, ℤ, pos, Bool, true, false, cond, arith}
use Rattle.std.specs.Prelude.{All, sum_by}
use Rattle.std.specs.List.{enumerate_from, flat_map}
use Rattle.std.proofs.lemmas.List.{length-map, length-drop, get_or-drop, drop-drop}
use Rattle.std.proofs.lemmas.List.Elements.{All-head, All-tail, All-cons, All-nil, All-append}
use Rattle.std.proofs.lemmas.List.Sums.{sum_by-append, sum_by-cons, sum_by_more_le}
use Rattle.std.proofs.lemmas.Grind.{flat_map-append}
use Rattle.std.proofs.lemmas.Bool.{or_left}
use Rattle.std.proofs.lemmas.List.Folds.{list_any_at}
use Rattle.osm_model.specs.declared.nodes.OsmNode.{OsmNode}
use Rattle.osm_model.specs.declared.ways.OsmWay.{OsmWay}
use Rattle.osm_model.specs.declared.extract.Extract.{Extract}
use Rattle.road_pieces.specs.Rules.{is_routable}
use Rattle.road_pieces.specs.Runs.{has_node, runs, way_runs, all_runs, is_first, is_end, is_junction}
use Rattle.road_pieces.specs.Lines.{Line, place_of, id_at, lines_from, lines_after, all_lines, IsSound}
use Rattle.road_pieces.proofs.RunLemmas.{line_at, way_lines, AreThere, IsRunOf, runs_sound, place_inside, id_there}
use Rattle.road_pieces.proofs.Ends.{same_id}

-- the lines of a way
abbrev pub lines_of : List OsmNode → ℕ → OsmWay → List Line
lines_of nodes place way = cond (is_routable way.tags) (lines_from nodes place 0 [] way.refs) []

lines_of_is : (nodes : List OsmNode) (place : ℕ) (way : OsmWay) → lines_of nodes place way ≡ map (line_at nodes place) (enumerate_from 0 (way_runs nodes way))
lines_of_is nodes place way = is_by (is_routable way.tags)
  where
    is_by : (b : Bool) → cond b (lines_from nodes place 0 [] way.refs) [] ≡ map (line_at nodes place) (enumerate_from 0 (cond b (runs nodes way.refs) []))
    is_by true = way_lines nodes place way.refs
    is_by false = refl

way_runs_sound : (nodes : List OsmNode) (way : OsmWay) → All (IsRunOf nodes (length way.refs)) (way_runs nodes way)
way_runs_sound nodes way = sound_by (is_routable way.tags)
  where
    sound_by : (b : Bool) → All (IsRunOf nodes (length way.refs)) (cond b (runs nodes way.refs) [])
    sound_by true = runs_sound nodes way.refs
    sound_by false = All-nil (IsRunOf nodes (length way.refs))

-- a sum over lines, and over runs
sum_of_way : (nodes : List OsmNode) (f : Line → ℕ) (g : List ℤ → ℕ) → ((way number : ℕ) (run : List ℤ) → AreThere nodes run → f (line_at nodes way (number, run)) ≡ g run) → (way limit number : ℕ) (rs : List (List ℤ)) → All (IsRunOf nodes limit) rs → sum_by f (map (line_at nodes way) (enumerate_from number rs)) ≡ sum_by g rs
sum_of_way nodes f g same way limit number [] sound = refl
sum_of_way nodes f g same way limit number (r ∷ rs) sound =
    let here : IsRunOf nodes limit r = All-head (IsRunOf nodes limit) r rs sound in
    let rest : sum_by f (map (line_at nodes way) (enumerate_from (number + 1) rs)) ≡ sum_by g rs =
    sum_of_way nodes f g same way limit (number + 1) rs (All-tail (IsRunOf nodes limit) r rs sound) in
    sum_by-cons f (line_at nodes way (number, r)) (map (line_at nodes way) (enumerate_from (number + 1) rs)) ∙ (ap (λ n. n + sum_by f (map (line_at nodes way) (enumerate_from (number + 1) rs))) (same way number r here.there) ∙ (ap (λ n. g r + n) rest ∙ sym (sum_by-cons g r rs)))

pub sum_of_lines : (nodes : List OsmNode) (f : Line → ℕ) (g : List ℤ → ℕ) → ((way number : ℕ) (run : List ℤ) → AreThere nodes run → f (line_at nodes way (number, run)) ≡ g run) → (place : ℕ) (ways : List OsmWay) → sum_by f (lines_after nodes place ways) ≡ sum_by g (flat_map (way_runs nodes) ways)
sum_of_lines nodes f g same place [] = refl
sum_of_lines nodes f g same place (way ∷ ways) =
    let here : sum_by f (lines_of nodes place way) ≡ sum_by g (way_runs nodes way) =
    ap (sum_by f) (lines_of_is nodes place way) ∙ sum_of_way nodes f g same place (length way.refs) 0 (way_runs nodes way) (way_runs_sound nodes way) in
    let rest : sum_by f (lines_after nodes (place + 1) ways) ≡ sum_by g (flat_map (way_runs nodes) ways) =
    sum_of_lines nodes f g same (place + 1) ways in
    sum_by-append f (lines_of nodes place way) (lines_after nodes (place + 1) ways) ∙ (ap (λ n. n + sum_by f (lines_after nodes (place + 1) ways)) here ∙ (ap (λ n. sum_by g (way_runs nodes way) + n) rest ∙ sym (sum_by-append g (way_runs nodes way) (flat_map (way_runs nodes) ways))))

-- what a list of each line gives, and of each run with its way and number
flat_of_way : {B : Type 0} (nodes : List OsmNode) (f : Line → List B) (g : ℕ × List ℤ → List B) (way limit : ℕ) → ((number : ℕ) (run : List ℤ) → AreThere nodes run → f (line_at nodes way (number, run)) ≡ g (number, run)) → (number : ℕ) (rs : List (List ℤ)) → All (IsRunOf nodes limit) rs → flat_map f (map (line_at nodes way) (enumerate_from number rs)) ≡ flat_map g (enumerate_from number rs)
flat_of_way nodes f g way limit same number [] sound = refl
flat_of_way nodes f g way limit same number (r ∷ rs) sound =
    let here : IsRunOf nodes limit r = All-head (IsRunOf nodes limit) r rs sound in
    ap (λ l. l ++ flat_map f (map (line_at nodes way) (enumerate_from (number + 1) rs))) (same number r here.there) ∙ ap (λ l. g (number, r) ++ l) (flat_of_way nodes f g way limit same (number + 1) rs (All-tail (IsRunOf nodes limit) r rs sound))

-- what a list that is left says of the whole list
here_of : {E : Type 0} (all : List E) (place : ℕ) (e : E) (es : List E) (d : E) → drop place all ≡ e ∷ es → get_or all place d ≡ e
here_of all place e es d h =
    sym (get_or-drop place all 0 d ∙ ap (λ k. get_or all k d) {x = place + 0} {y = place} (omega arith)) ∙ ap (λ l. get_or l 0 d) h

inside_of : {E : Type 0} (all : List E) (place : ℕ) (e : E) (es : List E) → drop place all ≡ e ∷ es → place < length all
inside_of all place e es h = omega (arith, length-drop place all, ap length h)

rest_of : {E : Type 0} (all : List E) (place : ℕ) (e : E) (es : List E) → drop place all ≡ e ∷ es → drop (place + 1) all ≡ es
rest_of all place e es h = sym (drop-drop 1 place all) ∙ ap (drop 1) h

pub flat_of_lines : {B : Type 0} (nodes : List OsmNode) (all : List OsmWay) (f : Line → List B) (g : OsmWay → ℕ × List ℤ → List B) → ((place number : ℕ) (d : OsmWay) (run : List ℤ) → place < length all → AreThere nodes run → f (line_at nodes place (number, run)) ≡ g (get_or all place d) (number, run)) → (place : ℕ) (ways : List OsmWay) → drop place all ≡ ways → flat_map f (lines_after nodes place ways) ≡ flat_map (λ way. flat_map (g way) (enumerate_from 0 (way_runs nodes way))) ways
flat_of_lines nodes all f g same place [] e = refl
flat_of_lines nodes all f g same place (way ∷ ways) e =
    let h : place < length all = inside_of all place way ways e in
    let same_here : (number : ℕ) (run : List ℤ) → AreThere nodes run → f (line_at nodes place (number, run)) ≡ g way (number, run) =
    λ number run there. same place number way run h there ∙ ap (λ w. g w (number, run)) (here_of all place way ways way e) in
    let here : flat_map f (lines_of nodes place way) ≡ flat_map (g way) (enumerate_from 0 (way_runs nodes way)) =
    ap (flat_map f) (lines_of_is nodes place way) ∙ flat_of_way nodes f (g way) place (length way.refs) same_here 0 (way_runs nodes way) (way_runs_sound nodes way) in
    let rest = flat_of_lines nodes all f g same (place + 1) ways (rest_of all place way ways e) in
    flat_map-append f (lines_of nodes place way) (lines_after nodes (place + 1) ways) ∙ (ap (λ l. l ++ flat_map f (lines_after nodes (place + 1) ways)) here ∙ ap (λ l. flat_map (g way) (enumerate_from 0 (way_runs nodes way)) ++ l) rest)

-- what every line is
places_inside : (nodes : List OsmNode) (run : List ℤ) → AreThere nodes run → All (λ p. p < length nodes) (map (place_of nodes) run)
places_inside nodes [] there = All-nil (λ p. p < length nodes)
places_inside nodes (id ∷ run) there =
    All-cons (λ p. p < length nodes) (place_of nodes id) (map (place_of nodes) run)
    (place_inside nodes id (All-head (λ i. has_node nodes i ≡ true) id run there))
    (places_inside nodes run (All-tail (λ i. has_node nodes i ≡ true) id run there))

-- a run begins at a junction
pub record Begins (x : Extract) (run : List ℤ) : Type 0 where
  pub first : 0 < length run → is_junction x (get_or run 0 (pos 0)) ≡ true

begins_first : (r : List ℤ) → 0 < length r → is_first (get_or r 0 (pos 0)) r ≡ true
begins_first [] h = absurd (omega arith)
begins_first (m ∷ r) h = same_id m

all_begin : (x : Extract) → All (Begins x) (all_runs x)
all_begin x k d h = record {
  first = λ some. or_left _ _ (or_left _ _ (list_any_at (is_end (get_or (get_or (all_runs x) k d) 0 (pos 0))) (all_runs x) k d h (or_left _ _ (begins_first (get_or (all_runs x) k d) some))));
}

front_of : {E : Type 0} (Is : E → Type 0) (xs ys : List E) → All Is (xs ++ ys) → All Is xs
front_of Is [] ys all = All-nil Is
front_of Is (x ∷ xs) ys all =
    All-cons Is x xs (All-head Is x (xs ++ ys) all) (front_of Is xs ys (All-tail Is x (xs ++ ys) all))

back_of : {E : Type 0} (Is : E → Type 0) (xs ys : List E) → All Is (xs ++ ys) → All Is ys
back_of Is [] ys all = all
back_of Is (x ∷ xs) ys all = back_of Is xs ys (All-tail Is x (xs ++ ys) all)

line_begins : (x : Extract) (run : List ℤ) → AreThere x.nodes run → Begins x run → 0 < length (map (place_of x.nodes) run) → is_junction x (id_at x.nodes (get_or (map (place_of x.nodes) run) 0 0)) ≡ true
line_begins x [] there begins h = absurd (omega arith)
line_begins x (id ∷ run) there begins h =
    ap (is_junction x) (id_there x.nodes id (All-head (λ i. has_node x.nodes i ≡ true) id run there)) ∙ begins.first (omega arith)

sound_way : (x : Extract) (place limit number : ℕ) (rs : List (List ℤ)) → place < length x.ways → limit ≤ 20_000_000 → All (IsRunOf x.nodes limit) rs → All (Begins x) rs → All (IsSound x) (map (line_at x.nodes place) (enumerate_from number rs))
sound_way x place limit number [] h l sound begin = All-nil (IsSound x)
sound_way x place limit number (r ∷ rs) h l sound begin =
    let here : IsRunOf x.nodes limit r = All-head (IsRunOf x.nodes limit) r rs sound in
    All-cons (IsSound x) (line_at x.nodes place (number, r)) (map (line_at x.nodes place) (enumerate_from (number + 1) rs))
    (record { way = h; places = places_inside x.nodes r here.there; short = omega (arith, here.short, length-map r (place_of x.nodes)); begins = line_begins x r here.there (All-head (Begins x) r rs begin) })
    (sound_way x place limit (number + 1) rs h l (All-tail (IsRunOf x.nodes limit) r rs sound) (All-tail (Begins x) r rs begin))

sound_after : (x : Extract) (place : ℕ) (ways : List OsmWay) → drop place x.ways ≡ ways → All (Begins x) (flat_map (way_runs x.nodes) ways) → All (IsSound x) (lines_after x.nodes place ways)
sound_after x place [] e begin = All-nil (IsSound x)
sound_after x place (way ∷ ways) e begin =
    let h : place < length x.ways = inside_of x.ways place way ways e in
    let few : length way.refs ≤ 20_000_000 =
    omega (arith, x.ref_limit, sum_by_more_le (λ w. length w.refs) x.ways place way h, ap (λ w. length w.refs) (here_of x.ways place way ways way e)) in
    All-append (IsSound x) (lines_of x.nodes place way) (lines_after x.nodes (place + 1) ways)
    (subst (All (IsSound x)) (sym (lines_of_is x.nodes place way)) (sound_way x place (length way.refs) 0 (way_runs x.nodes way) h few (way_runs_sound x.nodes way) (front_of (Begins x) (way_runs x.nodes way) (flat_map (way_runs x.nodes) ways) begin)))
    (sound_after x (place + 1) ways (rest_of x.ways place way ways e) (back_of (Begins x) (way_runs x.nodes way) (flat_map (way_runs x.nodes) ways) begin))

pub lines_sound : (x : Extract) → All (IsSound x) (all_lines x)
lines_sound x = sound_after x 0 x.ways refl (all_begin x)
