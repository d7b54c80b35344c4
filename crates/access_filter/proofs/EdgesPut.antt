-- Edges put behind those of the last node.
use Rattle.std.proofs.Common.{◌≡◌, ℕ, ◌+◌, ◌<◌, ◌≤◌, true, false, List, [], ◌∷◌, ◌++◌, length, take, get_or, Result, refl, sym, ap, subst, ◌∙◌, arith, cond}
use Rattle.std.specs.Prelude.{OnOk}
use Rattle.std.specs.List.{filter}
use Rattle.std.proofs.lemmas.List.{append-nil, append_assoc, length-append}
use Rattle.std.proofs.lemmas.List.Elements.{filter_more}
use Rattle.work_tile.specs.declared.edge_rows.WorkEdge.{WorkEdge}
use Rattle.work_tile.specs.WorkRows.{WorkNode, WorkRows}
use Rattle.access_filter.specs.Kept.{is_kept_edge}

-- the tile with more edges behind those of its last node
abbrev pub rows_put : WorkRows → List WorkNode → WorkNode → List WorkEdge → WorkRows
rows_put rows front last more = record rows { nodes = front ++ record last { edges = last.edges ++ more } ∷ [] }

-- whatever the last node was, these edges stand behind its own
abbrev pub ArePut : WorkRows → WorkRows → List WorkEdge → Type 0
ArePut before after more = (front : List WorkNode) (last : WorkNode) → before.nodes ≡ front ++ last ∷ [] → after ≡ rows_put before front last more

pub none_put : (before : WorkRows) → ArePut before before []
none_put before = λ front last e.
    ap (λ ns. record before { nodes = ns }) e
    ∙ ap (λ es. rows_put before front (record last { edges = [] }) es) (sym (append-nil last.edges))

pub edge_put : {A B : Type 0} (r : Result A B) (modes : ℕ) (edge : WorkEdge) (before after : WorkRows) → is_kept_edge modes edge ≡ true
    → OnOk r (ArePut before after (edge ∷ [])) → OnOk r (ArePut before after (filter (is_kept_edge modes) (edge ∷ [])))
edge_put r modes edge before after is ok = subst (λ b. OnOk r (ArePut before after (cond b (edge ∷ []) []))) (sym is) ok

pub edge_left : (modes : ℕ) (edge : WorkEdge) (before : WorkRows) → is_kept_edge modes edge ≡ false → ArePut before before (filter (is_kept_edge modes) (edge ∷ []))
edge_left modes edge before left = subst (λ b. ArePut before before (cond b (edge ∷ []) [])) (sym left) (none_put before)

pub both_put : (before between after : WorkRows) (es fs : List WorkEdge) → ArePut before between es → ArePut between after fs → ArePut before after (es ++ fs)
both_put before between after es fs first second = λ front last e.
    let mid : between ≡ rows_put before front last es = first front last e in
    let between_last : WorkNode = record last { edges = last.edges ++ es } in
    let step : after ≡ rows_put between front between_last fs = second front between_last (ap (λ b. b.nodes) mid) in
    let moved : rows_put between front between_last fs ≡ rows_put before front between_last fs = ap (λ (b : WorkRows). rows_put b front between_last fs) mid in
    let joined : rows_put before front between_last fs ≡ rows_put before front last (es ++ fs) =
    ap (λ ks. rows_put before front (record last { edges = [] }) ks) (append_assoc last.edges es fs) in
    step ∙ moved ∙ joined

pub edges_more : (modes i : ℕ) (edges : List WorkEdge) (edge : WorkEdge) (before between after : WorkRows) → i < length edges → edge ≡ get_or edges i edge
    → ArePut before between (filter (is_kept_edge modes) (take i edges)) → ArePut between after (filter (is_kept_edge modes) (edge ∷ []))
    → ArePut before after (filter (is_kept_edge modes) (take (i + 1) edges))
edges_more modes i edges edge before between after inside here first second =
    let more : filter (is_kept_edge modes) (take (i + 1) edges) ≡ filter (is_kept_edge modes) (take i edges) ++ filter (is_kept_edge modes) (edge ∷ []) =
    filter_more (is_kept_edge modes) edges i edge inside
    ∙ ap (λ e. filter (is_kept_edge modes) (take i edges) ++ cond (is_kept_edge modes e) (e ∷ []) []) (sym here) in
    subst (ArePut before after) (sym more) (both_put before between after (filter (is_kept_edge modes) (take i edges)) (filter (is_kept_edge modes) (edge ∷ [])) first second)

-- a list that isn't empty has a last element
pub last_of : (ns : List WorkNode) → 1 ≤ length ns → (front : List WorkNode) × ((last : WorkNode) × (ns ≡ front ++ last ∷ []))
last_of [] some = absurd (omega (arith, some))
last_of (n ∷ []) some = ([], (n, refl))
last_of (n ∷ m ∷ ns) some = by (last_of (m ∷ ns) (omega arith))
  where
    by : (front : List WorkNode) × ((last : WorkNode) × (m ∷ ns ≡ front ++ last ∷ [])) → (front : List WorkNode) × ((last : WorkNode) × (n ∷ m ∷ ns ≡ front ++ last ∷ []))
    by (front, (last, e)) = (n ∷ front, (last, ap (λ ks. n ∷ ks) e))

pub some_stay : (before after : WorkRows) (more : List WorkEdge) → 1 ≤ length before.nodes → ArePut before after more → 1 ≤ length after.nodes
some_stay before after more some put = by (last_of before.nodes some)
  where
    by : (front : List WorkNode) × ((last : WorkNode) × (before.nodes ≡ front ++ last ∷ [])) → 1 ≤ length after.nodes
    by (front, (last, e)) =
        let k : length after.nodes ≡ length (front ++ record last { edges = last.edges ++ more } ∷ []) = ap (λ b. length b.nodes) (put front last e) in
        omega (arith, k, length-append front (record last { edges = last.edges ++ more } ∷ []))
