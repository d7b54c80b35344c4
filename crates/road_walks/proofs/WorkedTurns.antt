-- Local indexes, a match and its pattern, worked out by hand on a small extract: refs 1, 2, 3, 4, 2, where a stem
-- leads to node 2, and a loop from node 2 to itself.
use Rattle.std.proofs.Common.{Bool, ℕ, ◌≡◌, pos, [], ◌∷◌, map, refl, arith, lit≤, true, false, inr}
use Rattle.std.proofs.lemmas.List.Elements.{All-nil}
use Rattle.road_pieces.specs.declared.steps.Step.{Step}
use Rattle.road_pieces.specs.DirectedPiece.{DirectedPiece}
use Rattle.road_pieces.specs.Rules.{is_routable, is_barrier}
use Rattle.road_pieces.specs.Pieces.{IsPiece}
use Rattle.road_pieces.specs.Turns.{Written}
use Rattle.road_pieces.specs.Matches.{TurnRule, via_node, IsMatch, reversed}
use Rattle.road_pieces.proofs.WorkedRows.{lasso, loops}
use Rattle.road_walks.specs.BaseEdges.{base_edges, local_index}

abbrev pub stem_on : DirectedPiece
stem_on = record { way = pos 7; run = 0; from = 0; to = 1; forward = true }

abbrev pub stem_back : DirectedPiece
stem_back = record { way = pos 7; run = 0; from = 0; to = 1; forward = false }

abbrev pub loop_on : DirectedPiece
loop_on = record { way = pos 7; run = 0; from = 1; to = 4; forward = true }

abbrev pub loop_back : DirectedPiece
loop_back = record { way = pos 7; run = 0; from = 1; to = 4; forward = false }

edges_at_2 : base_edges lasso (pos 2) ≡ stem_back ∷ (loop_on ∷ (loop_back ∷ []))
unfolding is_routable is_barrier
edges_at_2 = refl

locals : map (local_index lasso) (stem_on ∷ (stem_back ∷ (loop_on ∷ (loop_back ∷ [])))) ≡ 0 ∷ (0 ∷ (1 ∷ (2 ∷ [])))
unfolding is_routable is_barrier
locals = refl

-- no u-turn at node 2, from way 7 to way 7
abbrev no_u_turn : TurnRule
no_u_turn = record { only = false; u_turn = true; from = pos 7 ∷ []; via = via_node (pos 2); to = pos 7 ∷ []; modes = 77 }

abbrev there : Step
there = record { way = pos 7; run = 0; segment = 0; forward = true }

u_turn : IsMatch lasso no_u_turn (there ∷ (reversed there ∷ []))
unfolding is_routable is_barrier
u_turn = record {
  first = there;
  parts = [];
  last = reversed there;
  is = refl;
  from = (0, lit≤ tt, refl);
  via = (refl, refl, λ same. refl);
  to = (0, lit≤ tt, refl);
  leads = (record { inside = lit≤ tt }, refl, inr refl, (record { inside = lit≤ tt }, refl, tt, refl));
  turns = refl;
  changes = All-nil _;
}

-- its pattern: the stem to node 2 and back
its_pattern : Written lasso (there ∷ (reversed there ∷ [])) (stem_on ∷ (stem_back ∷ []))
unfolding is_routable is_barrier
its_pattern = record {
  first = there;
  last = reversed there;
  from = stem_on;
  between = [];
  to = stem_back;
  turn_is = refl;
  pattern_is = refl;
  from_exists = record { rises = lit≤ tt; inside = lit≤ tt; begins = refl; ends = refl; plain = λ k h l. absurd (omega arith) };
  between_exist = All-nil (IsPiece lasso);
  to_exists = record { rises = lit≤ tt; inside = lit≤ tt; begins = refl; ends = refl; plain = λ k h l. absurd (omega arith) };
  ends_with_first = ([], refl);
  begins_with_last = ([], refl);
}

-- refs 1, 2, 3, 1, 4, 5, 1: two loops at one junction, each of which is two base edges there
at_the_loops : map {B = ℕ × Bool} (λ p. (p.from, p.forward)) (base_edges loops (pos 1)) ≡ (0, true) ∷ (0, false) ∷ (3, true) ∷ (3, false) ∷ []
unfolding is_routable is_barrier
at_the_loops = refl
