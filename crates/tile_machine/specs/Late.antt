-- Facts about an answer that may be late.
use Rattle.std.specs.Prelude.{Result, Ok, Err}
use Rattle.tile_machine.specs.declared.parts.PartFault.{PartFault}
use Rattle.tile_machine.specs.declared.parts.PartFault.TheVariants.{Late, OutOfMemory}

-- P, if the answer is Late
abbrev pub IfLate : {A : Type 0} → Result A PartFault → Type 0 → Type 0
IfLate (Ok a) P = Unit {0}
IfLate (Err OutOfMemory) P = Unit {0}
IfLate (Err (Late place holder)) P = P
