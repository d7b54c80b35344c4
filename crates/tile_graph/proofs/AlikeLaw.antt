-- The walks of graphs that differ in the order of their sequences alone.
use Rattle.std.proofs.Common.{ℕ, ℤ, sym, subst, List}
use Rattle.std.specs.List.{Contains}
use Rattle.road_pieces.proofs.Members.{in_from_contains, contains_from_in, in_from_among, among_from_in}
use Rattle.tile_graph.specs.Graphs.{Graph, GraphNode, GraphSequence, TileWalk}
use Rattle.tile_graph.specs.Alike.{AreAlike, AlikeWalks}

-- a walk of a graph is one of a graph with the same nodes and no more sequences
fewer : (nodes : List GraphNode) (s r : List GraphSequence) → ((e : GraphSequence) → Contains r e → Contains s e) → (vehicles mode : ℕ) (a b : ℤ) (total : ℕ) → TileWalk (record { nodes = nodes; sequences = s }) vehicles mode a b total → TileWalk (record { nodes = nodes; sequences = r }) vehicles mode a b total
fewer nodes s r within vehicles mode a b total w = record {
  start = w.start;
  start_there = w.start_there;
  starts = w.starts;
  end = w.end;
  end_there = w.end_there;
  ends = w.ends;
  items = w.items;
  leads = w.leads;
  follow = w.follow;
  permitted = λ e there. w.permitted e (within e there);
  length_is = w.length_is;
}

pub walks_alike : (g h : Graph) → AreAlike g h → (vehicles mode : ℕ) (a b : ℤ) (total : ℕ) → TileWalk g vehicles mode a b total → TileWalk h vehicles mode a b total
walks_alike g h alike vehicles mode a b total w =
    fewer h.nodes g.sequences h.sequences (λ e there. contains_from_in g.sequences e (in_from_among g.sequences e ((alike.sequences e).1 (among_from_in h.sequences e (in_from_contains h.sequences e there))))) vehicles mode a b total
    (subst (λ nodes. TileWalk (record { nodes = nodes; sequences = g.sequences }) vehicles mode a b total) alike.nodes w)

pub turned : (g h : Graph) → AreAlike g h → AreAlike h g
turned g h alike = record { nodes = sym alike.nodes; sequences = λ s. ((alike.sequences s).1, (alike.sequences s).0) }

pub alike_walks : AlikeWalks
alike_walks g h alike vehicles mode a b total =
    (walks_alike g h alike vehicles mode a b total, walks_alike h g (turned g h alike) vehicles mode a b total)
