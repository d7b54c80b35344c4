-- Items that follow each other are those of a walk, and those of a walk follow each other.
use Rattle.std.proofs.Common.{◌≡◌, ℕ, List, [], ◌∷◌, map, Option, Some, None, refl, sym, ◌∙◌, ap, subst}
use Rattle.std.specs.Prelude.{⊤, All, slice_get}
use Rattle.std.specs.List.{Contains, AllZip}
use Rattle.road_pieces.specs.Paths.{Leads, Follows, Stands}
use Rattle.road_pieces.specs.Following.{AllFollow}
use Rattle.road_pieces.specs.Modes.{ShareMode}
use Rattle.road_pieces.proofs.Members.{contains_from_in}
use Rattle.tile_records.specs.Edges.{EdgeFields}
use Rattle.tile_bytes.specs.declared.tile.Tile.{Tile}
use Rattle.tile_bytes.specs.Tiles.{PassesChecks}
use Rattle.tile_graph.specs.Graphs.{GraphNode, GraphEdge, GraphItem, edge_item, transition_item, IsGraphItem, graph_start, graph_end, edges_taken, MayTakeNext}
use Rattle.tile_graph.specs.Tiles.{edge_under}
use Rattle.tile_walks.specs.declared.items.WalkItem.{WalkItem}
use Rattle.tile_walks.specs.declared.items.WalkItem.TheVariants as items
use Rattle.tile_walks.specs.declared.items.Stand.{Stand}
use Rattle.tile_walks.specs.FileTiles.{file_graph}
use Rattle.tile_walks.specs.Keys.{keys_of, Rise}
use Rattle.tile_walks.specs.Records.{IsNodeOf, IsEdgeOf}
use Rattle.tile_walks.specs.Steps.{StartsAt, MayCome, IsAt, IsTransitionOf, Steps, Ends, Follow, start}
use Rattle.tile_walks.specs.WalkItems.{Names, IsWalkOf, edges_named, IsPermitted}
use Rattle.tile_walks.proofs.GraphRecords.{get_in}
use Rattle.tile_walks.proofs.GraphLinks.{edge_from, edge_somewhere, edge_back, EdgeBack, node_back, node_to, open_to, open_back}
use Rattle.tile_walks.proofs.GraphTransitions.{Crosses, crosses, crosses_back}

follows_any : (i : GraphItem) (is : List GraphItem) → Follows (λ i j. ⊤) i is
follows_any i [] = tt
follows_any i (j ∷ is) = tt

pub same_edges : (named : List WalkItem) (taken : List GraphItem) → AllZip Names named taken → edges_named named ≡ map (λ e. e.id) (edges_taken taken)
same_edges [] [] h = refl
same_edges [] (i ∷ taken) h = absurd h
same_edges (i ∷ named) [] h = absurd h
same_edges (items.Edge id ∷ named) (edge_item n e ∷ taken) h = ap (λ i. i ∷ edges_named named) (sym h.0) ∙ ap (λ l. e.id ∷ l) (same_edges named taken h.1)
same_edges (items.Edge id ∷ named) (transition_item n m ∷ taken) h = absurd h.0
same_edges (items.Transition from place ∷ named) (edge_item n e ∷ taken) h = absurd h.0
same_edges (items.Transition from place ∷ named) (transition_item n m ∷ taken) h = same_edges named taken h.1

module _ (tiles : List Tile) (all : All PassesChecks tiles) (rises : Rise (keys_of tiles)) (vehicles mode : ℕ) where
  -- what may come behind the last edge
  abbrev After : Option EdgeFields → List GraphEdge → Type 0
  After None es = ⊤
  After (Some l) es = Follows (MayTakeNext (file_graph tiles) vehicles mode) (edge_under 0 l) es

  after_none : (last : Option EdgeFields) → After last []
  after_none None = tt
  after_none (Some l) = tt

  may_to : (last : Option EdgeFields) (id : ℕ) (e : EdgeFields) (es : List GraphEdge) → MayCome tiles vehicles mode last e → After last (edge_under id e ∷ es)
  may_to None id e es may = tt
  may_to (Some l) id e es may = (open_to tiles mode l.end may.0, may.1)

  may_back : (last : Option EdgeFields) (id : ℕ) (e : EdgeFields) (es : List GraphEdge) → After last (edge_under id e ∷ es) → MayCome tiles vehicles mode last e
  may_back None id e es may = tt
  may_back (Some l) id e es may = (open_back tiles mode l.end may.0, may.1)

  after_id : (id k : ℕ) (e : EdgeFields) (es : List GraphEdge) → Follows (MayTakeNext (file_graph tiles) vehicles mode) (edge_under id e) es → Follows (MayTakeNext (file_graph tiles) vehicles mode) (edge_under k e) es
  after_id id k e [] h = tt
  after_id id k e (f ∷ es) h = h

  record Walked (s : Stand) (a : ℕ) (named : List WalkItem) (end : Stand) : Type 0 where
    pub taken : List GraphItem
    pub names : AllZip Names named taken
    pub b : ℕ
    pub at : end.at ≡ Some b
    pub leads : Leads (IsGraphItem (file_graph tiles) mode) graph_start graph_end (λ i j. ⊤) a taken b
    pub follow : AllFollow (MayTakeNext (file_graph tiles) vehicles mode) (edges_taken taken)
    pub after : After s.last (edges_taken taken)

  walked : (s : Stand) (a : ℕ) (named : List WalkItem) (end : Stand) → s.at ≡ Some a → Steps tiles vehicles mode s named end → Walked s a named end
  walked s a [] end is steps =
      record { taken = []; names = tt; b = a; at = sym (ap (λ s. s.at) steps) ∙ is; leads = refl; follow = tt; after = after_none s.last }
  walked s a (items.Edge id ∷ rest) end is (next, step, steps) =
      let (e, one, starts, modes, may, moved) = step in
      let (n, same, own) = edge_from tiles all rises id a e one (subst (λ at. StartsAt tiles at id) is starts) in
      let w : Walked next e.end rest end = walked next e.end rest end (ap (λ s. s.at) moved) steps in
      let behind : Follows (MayTakeNext (file_graph tiles) vehicles mode) (edge_under 0 e) (edges_taken w.taken) = subst (λ s. After s.last (edges_taken w.taken)) moved w.after in
      record {
        taken = edge_item n (edge_under id e) ∷ w.taken;
        names = (refl, w.names);
        b = w.b;
        at = w.at;
        leads = ((own.there, own.own, modes), same, follows_any (edge_item n (edge_under id e)) w.taken, w.leads);
        follow = (after_id 0 id e (edges_taken w.taken) behind, w.follow);
        after = may_to s.last id e (edges_taken w.taken) may;
      }
  walked s a (items.Transition from place ∷ rest) end is (next, step, steps) =
      let (to, at, one, node, moved) = step in
      let same : a ≡ from = subst (λ at. IsAt at from) is at in
      let c : Crosses tiles from place to = crosses tiles from place to one in
      let (m, there, to_is, access) = node_to tiles to node.0 node.1 in
      let w : Walked next to rest end = walked next to rest end (ap (λ s. s.at) moved) steps in
      let at_m : slice_get c.node.transitions place ≡ Some m.id = c.at ∙ ap Some (sym to_is) in
      record {
        taken = transition_item c.node m ∷ w.taken;
        names = ((c.is, at_m), w.names);
        b = w.b;
        at = w.at;
        leads = (
          (c.there, there, contains_from_in c.node.transitions m.id (get_in c.node.transitions place m.id at_m)),
          c.is ∙ sym same,
          follows_any (transition_item c.node m) w.taken,
          subst (λ x. Leads (IsGraphItem (file_graph tiles) mode) graph_start graph_end (λ i j. ⊤) x w.taken w.b) (sym to_is) w.leads,
        );
        follow = w.follow;
        after = subst (λ s. After s.last (edges_taken w.taken)) moved w.after;
      }

  walk_from : (first : GraphNode) → Contains (file_graph tiles).nodes first → (named : List WalkItem) (end : Stand) → Steps tiles vehicles mode (record { at = Some first.id; last = None }) named end → Ends tiles end.at → IsPermitted (file_graph tiles) mode named → IsWalkOf (file_graph tiles) vehicles mode named
  walk_from first there named end steps ends permitted =
      let w : Walked (record { at = Some first.id; last = None }) first.id named end = walked (record { at = Some first.id; last = None }) first.id named end refl steps in
      let (r, one) = subst (Ends tiles) w.at ends in
      let (m, last_there, is, access) = node_to tiles w.b r one in
      record {
        a = first.osm;
        b = m.osm;
        total = _;
        walk = record {
          start = first;
          start_there = there;
          starts = refl;
          end = m;
          end_there = last_there;
          ends = refl;
          items = w.taken;
          leads = subst (λ x. Leads (IsGraphItem (file_graph tiles) mode) graph_start graph_end (λ i j. ⊤) first.id w.taken x) (sym is) w.leads;
          follow = w.follow;
          permitted = λ s among modes stands. permitted s among modes (subst (Stands s.edges) (sym (same_edges named w.taken w.names)) stands);
          length_is = refl;
        };
        names = w.names;
      }

  pub to_walk : (named : List WalkItem) → Follow tiles vehicles mode named → IsPermitted (file_graph tiles) mode named → IsWalkOf (file_graph tiles) vehicles mode named
  to_walk [] (end, steps, ends) permitted =
      let (id, (r, one)) = subst (λ s. Ends tiles s.at) (sym steps) ends in
      let (n, there, is, access) = node_to tiles id r one in
      walk_from n there [] (record { at = Some n.id; last = None }) refl (r, subst (λ i. IsNodeOf tiles i r) (sym is) one) permitted
  to_walk (items.Edge id ∷ rest) (end, steps, ends) permitted =
      let (next, step, more) = steps in
      let (e, one, starts, modes, may, moved) = step in
      let (n, own) = edge_somewhere tiles all id e one in
      let back : EdgeBack tiles n (edge_under id e) = edge_back tiles all n (edge_under id e) own.there own.own in
      walk_from n own.there (items.Edge id ∷ rest) end (next, (e, one, back.starts, modes, may, moved), more) ends permitted
  to_walk (items.Transition from place ∷ rest) (end, steps, ends) permitted =
      let (next, step, more) = steps in
      let (to, at, one, node, moved) = step in
      let c : Crosses tiles from place to = crosses tiles from place to one in
      walk_from c.node c.there (items.Transition from place ∷ rest) end (next, (to, c.is, one, node, moved), more) ends permitted

  -- ---- back

  abbrev From : Option ℕ → ℕ → Type 0
  From None a = ⊤
  From (Some n) a = n ≡ a

  starts_from : (at : Option ℕ) (a id : ℕ) → From at a → StartsAt tiles (Some a) id → StartsAt tiles at id
  starts_from None a id from h = tt
  starts_from (Some n) a id from h = subst (λ x. StartsAt tiles (Some x) id) (sym from) h

  at_from : (at : Option ℕ) (a from : ℕ) → From at a → a ≡ from → IsAt at from
  at_from None a from h e = tt
  at_from (Some n) a from h e = h ∙ e

  after_same : (e : EdgeFields) (f : GraphEdge) (es : List GraphEdge) → edge_under f.id e ≡ f → Follows (MayTakeNext (file_graph tiles) vehicles mode) f es → After (Some e) es
  after_same e f es is h = after_id f.id 0 e es (subst (λ f. Follows (MayTakeNext (file_graph tiles) vehicles mode) f es) (sym is) h)

  steps_of : (s : Stand) (a : ℕ) (named : List WalkItem) (taken : List GraphItem) (b : ℕ) → AllZip Names named taken → From s.at a → Leads (IsGraphItem (file_graph tiles) mode) graph_start graph_end (λ i j. ⊤) a taken b → AllFollow (MayTakeNext (file_graph tiles) vehicles mode) (edges_taken taken) → After s.last (edges_taken taken) → (end : Stand) × Steps tiles vehicles mode s named end × From end.at b
  steps_of s a [] [] b names from leads follow after = (s, refl, subst (From s.at) leads from)
  steps_of s a [] (i ∷ taken) b names from leads follow after = absurd names
  steps_of s a (i ∷ named) [] b names from leads follow after = absurd names
  steps_of s a (items.Edge id ∷ named) (transition_item n m ∷ taken) b names from leads follow after = absurd names.0
  steps_of s a (items.Transition f place ∷ named) (edge_item n e ∷ taken) b names from leads follow after = absurd names.0
  steps_of s a (items.Edge id ∷ named) (edge_item n e ∷ taken) b names from (item, begins, any, leads) follow after =
      let back : EdgeBack tiles n e = edge_back tiles all n e item.0 item.1 in
      let next : Stand = record { at = Some back.edge.end; last = Some back.edge } in
      let end_is : back.edge.end ≡ e.end = ap (λ e. e.end) back.is in
      let (end, steps, at) = steps_of next e.end named taken b names.1 end_is leads follow.1 (after_same back.edge e (edges_taken taken) back.is follow.0) in
      let starts : StartsAt tiles (Some a) id = subst (StartsAt tiles (Some a)) names.0 (subst (λ x. StartsAt tiles (Some x) e.id) begins back.starts) in
      let may : MayCome tiles vehicles mode s.last back.edge = may_back s.last e.id back.edge (edges_taken taken) (subst (λ f. After s.last (f ∷ edges_taken taken)) (sym back.is) after) in
      (end, (next, (back.edge, subst (λ i. IsEdgeOf tiles i back.edge) names.0 back.one, starts_from s.at a id from starts, subst (λ m. ShareMode m mode) (sym (ap (λ e. e.access) back.is)) item.2, may, refl), steps), at)
  steps_of s a (items.Transition f place ∷ named) (transition_item n m ∷ taken) b names from (item, begins, any, leads) follow after =
      let next : Stand = record { at = Some m.id; last = s.last } in
      let (end, steps, at) = steps_of next m.id named taken b names.1 refl leads follow after in
      let (r, one, access) = node_back tiles m item.1 in
      let crossing : IsTransitionOf tiles f place m.id = subst (λ x. IsTransitionOf tiles x place m.id) names.0.0 (crosses_back tiles n place m.id item.0 names.0.1) in
      (end, (next, (m.id, at_from s.at a f from (sym begins ∙ names.0.0), crossing, (r, one), refl), steps), at)

  ends_at : (at : Option ℕ) (b : GraphNode) → Contains (file_graph tiles).nodes b → From at b.id → Ends tiles at
  ends_at None b there h = let (r, one, access) = node_back tiles b there in (b.id, (r, one))
  ends_at (Some n) b there h = let (r, one, access) = node_back tiles b there in (r, subst (λ i. IsNodeOf tiles i r) (sym h) one)

  pub of_walk : (named : List WalkItem) → IsWalkOf (file_graph tiles) vehicles mode named → Follow tiles vehicles mode named × IsPermitted (file_graph tiles) mode named
  of_walk named w =
      let walk = w.walk in
      let (end, steps, at) = steps_of start walk.start.id named walk.items walk.end.id w.names tt walk.leads walk.follow tt in
      ((end, steps, ends_at end.at walk.end walk.end_there at), λ s among modes stands. walk.permitted s among modes (subst (Stands s.edges) (same_edges named walk.items w.names) stands))
