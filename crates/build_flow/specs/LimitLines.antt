-- What is said of a limit that roads pass: its name, and what it names.
use Rattle.std.specs.Prelude.{ℕ, List, ◌++◌, codes}
use Rattle.std.specs.Fmt.{decimal, signed_decimal}
use Rattle.tile_numbers.specs.declared.room.What.{What}
use Rattle.tile_numbers.specs.declared.room.What.TheVariants as kinds
use Rattle.build_flow.specs.declared.faults.LimitFault.{LimitFault}
use Rattle.build_flow.specs.declared.faults.LimitFault.TheVariants.{Pieces, EdgeTooLong, TooManyEdges, TileFull, Section}

abbrev pub what_name : What → List ℕ
what_name kinds.Nodes = codes "nodes"
what_name kinds.Edges = codes "edges"

abbrev pub limit_line : LimitFault → List ℕ
limit_line (Pieces count) = codes "Pieces count=" ++ decimal count
limit_line (EdgeTooLong way run piece cm) =
    codes "EdgeTooLong way=" ++ (signed_decimal way ++ (codes " run=" ++ (decimal run ++ (codes " piece=" ++ (decimal piece ++ (codes " cm=" ++ decimal cm))))))
limit_line (TooManyEdges node count) = codes "TooManyEdges node=" ++ (signed_decimal node ++ (codes " count=" ++ decimal count))
limit_line (TileFull level tile what count) =
    codes "TileFull level=" ++ (decimal level ++ (codes " tile=" ++ (decimal tile ++ (codes " what=" ++ (what_name what ++ (codes " count=" ++ decimal count))))))
limit_line (Section level tile count) = codes "Section level=" ++ (decimal level ++ (codes " tile=" ++ (decimal tile ++ (codes " count=" ++ decimal count))))
