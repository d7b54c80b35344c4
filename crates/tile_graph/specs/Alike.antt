-- Graphs that differ in the order of their sequences alone.
use Rattle.std.specs.Prelude.{◌≡◌, ◌↔◌, ℕ, ℤ}
use Rattle.road_pieces.specs.Among.{Among}
use Rattle.tile_graph.specs.Graphs.{Graph, GraphSequence, TileWalk}

-- two graphs with the same nodes, and the same sequences in some order
pub record AreAlike (g h : Graph) : Type 0 where
  pub nodes : g.nodes ≡ h.nodes
  pub sequences : (s : GraphSequence) → Among g.sequences s ↔ Among h.sequences s

-- The law: such graphs have the same walks.
abbrev pub AlikeWalks : Type 0
AlikeWalks = (g h : Graph) → AreAlike g h → (vehicles mode : ℕ) (a b : ℤ) (total : ℕ) → TileWalk g vehicles mode a b total ↔ TileWalk h vehicles mode a b total
