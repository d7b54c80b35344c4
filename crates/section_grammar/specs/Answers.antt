-- What functions answer that read a file by checks.
use Rattle.std.specs.Prelude.{◌≡◌, ℕ, ◌-◌, ◌==◌, List, length, Result, Ok, Err, if◌then◌else◌}
use Rattle.section_grammar.specs.declared.fault.SectionFault.{SectionFault}
use Rattle.section_grammar.specs.declared.fault.SectionFault.TheVariants as faults

-- the number of a check that fails, and the offset at which it does
pub data FailedCheck : Type 0 where
  Check : ℕ → ℕ → FailedCheck

-- the offset of what is left, in a file that ends at `end`
abbrev pub place_of : ℕ → List ℕ → ℕ
place_of end rest = end - length rest

-- what was read, where nothing is left
abbrev pub ended : {A : Type 0} → ℕ → ℕ → A → List ℕ → Result A FailedCheck
ended check end x rest = if length rest == 0 then Ok x else Err (Check check (place_of end rest))

-- a function's fault is this reading's failure; want of memory says nothing of the bytes
abbrev pub Fails : {Y : Type 0} → SectionFault → Result Y FailedCheck → Type 0
Fails faults.OutOfMemory read = Unit {0}
Fails (faults.Bad check at) read = read ≡ Err (Check check at)

-- what a function returned, seen by `view`, is what reading gives, unless memory ran out
abbrev pub Gives : {X Y : Type 0} → (X → Y) → Result X SectionFault → Result Y FailedCheck → Type 0
Gives view (Ok x) read = read ≡ Ok (view x)
Gives view (Err fault) read = Fails fault read
