-- Lists that are made edge by edge and node by node.
use Rattle.std.proofs.Common.{◌≡◌, ◌∙◌, ℕ, ◌+◌, ◌<◌, ◌≤◌, sym, ap, List, [], ◌∷◌, ◌++◌, length, get_or, take, map}
use Rattle.std.specs.List.{flat_map}
use Rattle.std.proofs.lemmas.List.{append-nil, append_assoc, map-append, take_all, take_more}
use Rattle.std.proofs.lemmas.List.Concat.{flat_map-cons}
use Rattle.std.proofs.lemmas.Grind.{flat_map-append}
use Rattle.work_tile.specs.declared.edge_rows.WorkEdge.{WorkEdge}
use Rattle.work_tile.specs.WorkRows.{WorkNode}

module _ (f : WorkEdge → ℕ) where
  -- one edge more of a node
  pub edge_next : (old before after : List ℕ) (es : List WorkEdge) (k : ℕ) (e : WorkEdge) (n : ℕ) → k < length es → e ≡ get_or es k e → n ≡ f e
      → before ≡ old ++ map f (take k es) → after ≡ before ++ n ∷ [] → after ≡ old ++ map f (take (k + 1) es)
  edge_next old before after es k e n inside here value is step =
      let more : take (k + 1) es ≡ take k es ++ e ∷ [] = take_more es k e inside ∙ ap (λ g. take k es ++ g ∷ []) (sym here) in
      step ∙ (λ i. is i ++ value i ∷ []) ∙ append_assoc old (map f (take k es)) (f e ∷ [])
      ∙ ap (λ l. old ++ l) (sym (ap (map f) more ∙ map-append f (take k es) (e ∷ [])))

  pub edges_whole : (old made : List ℕ) (es : List WorkEdge) (k : ℕ) → length es ≤ k → made ≡ old ++ map f (take k es) → made ≡ old ++ map f es
  edges_whole old made es k past is = is ∙ ap (λ l. old ++ map f l) (take_all k es past)

  -- one node more
  pub node_next : (before after : List ℕ) (nodes : List WorkNode) (k : ℕ) (n : WorkNode) → k < length nodes → n ≡ get_or nodes k n
      → before ≡ map f (flat_map (λ m. m.edges) (take k nodes)) → after ≡ before ++ map f n.edges → after ≡ map f (flat_map (λ m. m.edges) (take (k + 1) nodes))
  node_next before after nodes k n inside here is step =
      let edges = λ (m : WorkNode). m.edges in
      let more : flat_map edges (take (k + 1) nodes) ≡ flat_map edges (take k nodes) ++ n.edges =
      ap (flat_map edges) (take_more nodes k n inside ∙ ap (λ m. take k nodes ++ m ∷ []) (sym here))
      ∙ flat_map-append edges (take k nodes) (n ∷ [])
      ∙ ap (λ l. flat_map edges (take k nodes) ++ l) (flat_map-cons edges n [] ∙ append-nil n.edges) in
      step ∙ ap (λ b. b ++ map f n.edges) is ∙ sym (ap (map f) more ∙ map-append f (flat_map edges (take k nodes)) n.edges)

  pub nodes_whole : (made : List ℕ) (nodes : List WorkNode) (k : ℕ) → length nodes ≤ k → made ≡ map f (flat_map (λ m. m.edges) (take k nodes)) → made ≡ map f (flat_map (λ m. m.edges) nodes)
  nodes_whole made nodes k past is = is ∙ ap (λ l. map f (flat_map (λ m. m.edges) l)) (take_all k nodes past)
