-- The result of a function of this crate, against what the definition gives. Only out of memory is free.
use Rattle.std.specs.Prelude.{◌≡◌, List, ◌++◌, Result, Ok, Err, IsOk}
use Rattle.osm_objects.specs.declared.fault.ObjectFault.{ObjectFault}
use Rattle.osm_objects.specs.declared.fault.ObjectFault.TheVariants as faults
use Rattle.osm_objects.specs.Steps.{◌>>=◌}

-- the fault is the definition's; only out of memory is free
abbrev pub AnswersFault : {B : Type 0} → ObjectFault → Result B ObjectFault → Type 0
AnswersFault (faults.MissingField at number) given = given ≡ Err (faults.MissingField at number)
AnswersFault (faults.Uneven at) given = given ≡ Err (faults.Uneven at)
AnswersFault (faults.BadNumber at) given = given ≡ Err (faults.BadNumber at)
AnswersFault (faults.BadString at index) given = given ≡ Err (faults.BadString at index)
AnswersFault (faults.BadCoordinate id) given = given ≡ Err (faults.BadCoordinate id)
AnswersFault faults.OutOfMemory given = Unit {0}

-- the result, viewed by `view`, equals the definition's; only out of memory is free
abbrev pub Answers : {A B : Type 0} → (A → B) → Result A ObjectFault → Result B ObjectFault → Type 0
Answers view (Ok value) given = given ≡ Ok (view value)
Answers view (Err fault) given = AnswersFault fault given

-- where the result is `Ok`, the new value equals the definition's; only out of memory is free
abbrev pub Becomes : {A B : Type 0} → Result A ObjectFault → B → Result B ObjectFault → Type 0
Becomes (Ok value) new given = given ≡ Ok new
Becomes (Err fault) new given = AnswersFault fault given

-- the result is `Ok` where the definition is; only out of memory is free
abbrev pub Admits : {B : Type 0} → Result (Unit {0}) ObjectFault → Result B ObjectFault → Type 0
Admits (Ok nothing) given = IsOk given
Admits (Err fault) given = AnswersFault fault given

-- a list that is given, behind another
abbrev pub after : {A : Type 0} → List A → Result (List A) ObjectFault → Result (List A) ObjectFault
after before given = given >>= λ more. Ok (before ++ more)
