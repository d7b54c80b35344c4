-- What is said of roads that are refused: the name of the limit, and what it names.
use Rattle.std.specs.Prelude.{ℕ, List, ◌++◌, codes}
use Rattle.std.specs.Fmt.{decimal, signed_decimal}
use Rattle.road_pieces.specs.declared.faults.CutFault.{CutFault}
use Rattle.road_pieces.specs.declared.faults.CutFault.TheVariants as faults

abbrev pub cut_fault_line : CutFault → List ℕ
cut_fault_line (faults.TooManyPieces count) = codes "Pieces count=" ++ decimal count
cut_fault_line (faults.EdgeTooLong way run piece cm) =
    codes "EdgeTooLong way=" ++ (signed_decimal way ++ (codes " run=" ++ (decimal run ++ (codes " piece=" ++ (decimal piece ++ (codes " cm=" ++ decimal cm))))))
cut_fault_line faults.OutOfMemory = codes "OutOfMemory"
