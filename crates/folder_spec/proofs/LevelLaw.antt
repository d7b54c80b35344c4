-- A walk that may change the level at a junction is a walk over its edges alone. Nothing here is about roads.
use Rattle.std.proofs.Common.{◌≡◌, ℕ, refl, sym, ap, subst, List, [], ◌∷◌, inl, inr}
use Rattle.std.specs.Prelude.{⊤}
use Rattle.std.proofs.lemmas.Bool.Decides.{eqb_tells}
use Rattle.road_pieces.specs.Paths.{Leads}
use Rattle.folder_spec.specs.Levels.{LevelNode, level_node, LevelItem, along, change, edges_in, IsItem, item_start, item_end}
use Rattle.road_pieces.proofs.Lists.{any_follows}

module _
    {N E : Type 0}
    (Is : E → Type 0) (start finish : E → N) (level : E → ℕ)
    (HasNode : N → ℕ → Type 0) where
  abbrev ItemsLead : LevelNode N → List (LevelItem N E) → LevelNode N → Type 0
  ItemsLead a items b = Leads (IsItem Is HasNode) (item_start start level) (item_end finish level) (λ i j. ⊤) a items b

  abbrev EdgesLead : N → List E → N → Type 0
  EdgesLead a es b = Leads Is start finish (λ e f. ⊤) a es b

  pub to_edges : (items : List (LevelItem N E)) (a b : LevelNode N) → ItemsLead a items b → EdgesLead a.junction (edges_in items) b.junction
  to_edges [] a b lead = ap (λ p. p.junction) lead
  to_edges (along e ∷ items) a b (is, begins, any, lead) =
      (is, ap (λ p. p.junction) begins, any_follows e (edges_in items), to_edges items (level_node (finish e) (level e)) b lead)
  to_edges (change n k l ∷ items) a b (is, begins, any, lead) =
      subst (λ m. EdgesLead m (edges_in items) b.junction) (ap (λ p. p.junction) begins) (to_edges items (level_node n l) b lead)

  pub record Items (a : LevelNode N) (es : List E) (b : N) : Type 0 where
    pub items : List (LevelItem N E)
    pub at : ℕ
    pub ends : HasNode b at
    pub leads : ItemsLead a items (level_node b at)
    pub same : edges_in items ≡ es

  module _
      (at_start : (e : E) → Is e → HasNode (start e) (level e))
      (at_end : (e : E) → Is e → HasNode (finish e) (level e)) where
    after : (e : E) (es : List E) (a b : N) (k : ℕ) → Is e → start e ≡ a → HasNode a k → Items (level_node (finish e) (level e)) es b → Items (level_node a k) (e ∷ es) b
    after e es a b k is begins node rest =
        elim (eqb_tells k (level e)) [
          | inl here ↦ record {
            items = along e ∷ rest.items;
            at = rest.at;
            ends = rest.ends;
            leads = (is, (λ i. level_node (begins i) (sym here.1 i)), any_follows (along e) rest.items, rest.leads);
            same = ap (λ l. e ∷ l) rest.same;
          }
          | inr apart ↦ record {
            items = change a k (level e) ∷ (along e ∷ rest.items);
            at = rest.at;
            ends = rest.ends;
            leads = ((node, subst (λ n. HasNode n (level e)) begins (at_start e is), apart.1), refl, tt, (is, ap (λ n. level_node n (level e)) begins, any_follows (along e) rest.items, rest.leads));
            same = ap (λ l. e ∷ l) rest.same;
          }
        ]

    pub to_items : (es : List E) (a b : N) (k : ℕ) → EdgesLead a es b → HasNode a k → Items (level_node a k) es b
    to_items [] a b k lead node = record {
      items = [];
      at = k;
      ends = subst (λ n. HasNode n k) lead node;
      leads = ap (λ n. level_node n k) lead;
      same = refl;
    }
    to_items (e ∷ es) a b k (is, begins, any, lead) node =
        after e es a b k is begins node (to_items es (finish e) b (level e) lead (at_end e is))
