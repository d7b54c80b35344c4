-- The ends of a junction's edges are seen one after the other.
use Rattle.std.proofs.Common.{◌≡◌, ℕ, ◌+◌, ◌<◌, ◌≤◌, ◌==◌, Bool, true, false, cond, List, [], ◌∷◌, ◌++◌, length, drop, get_or, refl, sym, ap, ◌∙◌, arith}
use Rattle.std.proofs.lemmas.List.{at_drop_more, length-append, drop_all}
use Rattle.bounded_flood.specs.Flood.{seen_all, seen_too}
use Rattle.bounded_flood.proofs.Spreads.{seen_all-front}
use Rattle.work_tile.specs.declared.edge_rows.WorkEdge.{WorkEdge}
use Rattle.enhancer.specs.declared.names.NodeName.{NodeName}
use Rattle.enhancer.specs.Graph.{same_node, ends_but, end_of}

-- those of one list, and then those of another
seen-append : (seen xs ys : List NodeName) → seen_all same_node seen (xs ++ ys) ≡ seen_all same_node (seen_all same_node seen xs) ys
seen-append seen [] ys = refl
seen-append seen (x ∷ xs) ys = seen-append (seen_too same_node seen x) xs ys

by_test : (b : Bool) (x : NodeName) (xs : List NodeName) → cond b xs (x ∷ xs) ≡ cond b [] (x ∷ []) ++ xs
by_test true x xs = refl
by_test false x xs = refl

ends-first : (left : ℕ) (e : WorkEdge) (es : List WorkEdge) → ends_but left (e ∷ es) ≡ ends_but left (e ∷ []) ++ ends_but left es
ends-first left e es = by_test (e.place == left) (end_of e) (ends_but left es)

-- the edge at an index, and then the rest
pub one_step : (seen : List NodeName) (es : List WorkEdge) (k left : ℕ) (e : WorkEdge) → k < length es → e ≡ get_or es k e
    → seen_all same_node seen (ends_but left (drop k es)) ≡ seen_all same_node (seen_all same_node seen (ends_but left (e ∷ []))) (ends_but left (drop (k + 1) es))
one_step seen es k left e inside here =
    ap (seen_all same_node seen) (at_drop_more (ends_but left) es k e inside ∙ ap (λ x. ends_but left (x ∷ drop (k + 1) es)) (sym here) ∙ ends-first left e (drop (k + 1) es))
    ∙ seen-append seen (ends_but left (e ∷ [])) (ends_but left (drop (k + 1) es))

-- where the edge gives too many, all do
pub too_many : (seen target : List NodeName) (es : List WorkEdge) (k left : ℕ) (e : WorkEdge) → k < length es → e ≡ get_or es k e
    → 63 < length (seen_all same_node seen (ends_but left (e ∷ [])))
    → seen_all same_node seen (ends_but left (drop k es)) ≡ target → 63 < length target
too_many seen target es k left e inside here full is =
    let front = seen_all-front same_node (seen_all same_node seen (ends_but left (e ∷ []))) (ends_but left (drop (k + 1) es)) in
    let whole = sym is ∙ one_step seen es k left e inside here ∙ front.1 in
    omega (arith, ap length whole, length-append (seen_all same_node seen (ends_but left (e ∷ []))) front.0, full)

pub all_seen : (seen : List NodeName) (es : List WorkEdge) (k left : ℕ) → length es ≤ k → seen_all same_node seen (ends_but left (drop k es)) ≡ seen
all_seen seen es k left past = ap (λ xs. seen_all same_node seen (ends_but left xs)) (drop_all k es past)
