-- The junctions where a directed edge starts and ends.
use Rattle.std.proofs.Common.{ℕ, ◌+◌, ◌<◌, ap, subst, List, [], ◌∷◌, length, inl, inr}
use Rattle.std.specs.Prelude.{All}
use Rattle.std.specs.List.{enumerate_from}
use Rattle.road_pieces.specs.declared.rows.Junction.{Junction}
use Rattle.road_pieces.specs.declared.rows.Piece.{Piece}
use Rattle.road_pieces.proofs.Members.{IsIn, at_in, of_flat}
use Rattle.edge_builder.specs.BaseRows.{DirectedRow, both_rows, directed_rows, row_start, row_end, junction_place, IsJoined}

-- what is numbered stands in the list
pub numbered_in : {A : Type 0} (n : ℕ) (ps : List A) (e : ℕ × A) → IsIn (enumerate_from n ps) e → IsIn ps e.1
numbered_in n [] e h = absurd h
numbered_in n (p ∷ ps) e (inl is) = inl (ap (λ f. f.1) is)
numbered_in n (p ∷ ps) e (inr later) = inr (numbered_in (n + 1) ps e later)

all_joined : (js : List Junction) (ps : List Piece) (p : Piece) → All (IsJoined js) ps → IsIn ps p → IsJoined js p
all_joined js ps p joined h =
    let (k, (low, is)) = at_in ps p h in
    subst (IsJoined js) (is p) (joined k p low)

starts_by : (js : List Junction) (e : ℕ × Piece) (r : DirectedRow) → IsJoined js e.1 → IsIn (both_rows e) r → junction_place js (row_start r) < length js
starts_by js (place, p) r joined (inl is) = subst (λ r. junction_place js (row_start r) < length js) is joined.start
starts_by js (place, p) r joined (inr (inl is)) = subst (λ r. junction_place js (row_start r) < length js) is joined.end
starts_by js (place, p) r joined (inr (inr h)) = absurd h

ends_by : (js : List Junction) (e : ℕ × Piece) (r : DirectedRow) → IsJoined js e.1 → IsIn (both_rows e) r → junction_place js (row_end r) < length js
ends_by js (place, p) r joined (inl is) = subst (λ r. junction_place js (row_end r) < length js) is joined.end
ends_by js (place, p) r joined (inr (inl is)) = subst (λ r. junction_place js (row_end r) < length js) is joined.start
ends_by js (place, p) r joined (inr (inr h)) = absurd h

-- an edge starts at a junction, and ends at one
pub start_inside : (js : List Junction) (ps : List Piece) (r : DirectedRow) → All (IsJoined js) ps → IsIn (directed_rows ps) r → junction_place js (row_start r) < length js
start_inside js ps r joined h =
    let (e, (there, its)) = of_flat both_rows (enumerate_from 0 ps) r h in
    starts_by js e r (all_joined js ps e.1 joined (numbered_in 0 ps e there)) its

pub end_inside : (js : List Junction) (ps : List Piece) (r : DirectedRow) → All (IsJoined js) ps → IsIn (directed_rows ps) r → junction_place js (row_end r) < length js
end_inside js ps r joined h =
    let (e, (there, its)) = of_flat both_rows (enumerate_from 0 ps) r h in
    ends_by js e r (all_joined js ps e.1 joined (numbered_in 0 ps e there)) its
