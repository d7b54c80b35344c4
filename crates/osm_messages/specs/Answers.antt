-- The result of a function of this crate, against what the definition gives. Only out of memory is free.
use Rattle.std.specs.Prelude.{◌≡◌, Result, Ok, Err}
use Rattle.osm_messages.specs.declared.fault.MessageFault.{MessageFault}
use Rattle.osm_messages.specs.declared.fault.MessageFault.TheVariants as faults

-- the fault is the definition's; only out of memory is free
abbrev pub AnswersFault : {B : Type 0} → MessageFault → Result B MessageFault → Type 0
AnswersFault (faults.Wire fault) given = given ≡ Err (faults.Wire fault)
AnswersFault (faults.Repeated at number) given = given ≡ Err (faults.Repeated at number)
AnswersFault faults.OutOfMemory given = Unit {0}

-- the result, viewed by `view`, equals the definition's; only out of memory is free
abbrev pub Answers : {A B : Type 0} → (A → B) → Result A MessageFault → Result B MessageFault → Type 0
Answers view (Ok value) given = given ≡ Ok (view value)
Answers view (Err fault) given = AnswersFault fault given

-- where the result is `Ok`, the new value equals the definition's; only out of memory is free
abbrev pub Becomes : {A B : Type 0} → Result A MessageFault → B → Result B MessageFault → Type 0
Becomes (Ok value) new given = given ≡ Ok new
Becomes (Err fault) new given = AnswersFault fault given
