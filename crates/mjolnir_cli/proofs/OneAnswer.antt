-- An input is answered or refused, and never both; and it is refused with one status.
use Rattle.std.proofs.Common.{◌≡◌, ◌⊎◌, inl, inr, ℕ, List, ◌++◌, Option, Some, Result, Ok, Err, refl, sym, ap, subst, ◌∙◌}
use Rattle.std.specs.Option.{option_map}
use Rattle.std.proofs.lemmas.Option.{same_Some}
use Rattle.host_port.specs.Told.{Told, named}
use Rattle.host_port.specs.Faults.{Rose}
use Rattle.mjolnir_cli.specs.declared.answer.Answer.{Answer}
use Rattle.mjolnir_cli.specs.declared.failure.Failure.{Failure}
use Rattle.mjolnir_cli.specs.declared.failure.Failure.TheVariants as failures
use Rattle.mjolnir_cli.specs.declared.failure.Failure.TheVariants.{Words, Read, Put, NotBuilt, Limit, OutOfMemory}
use Rattle.mjolnir_cli.specs.declared.words.Command.{Command}
use Rattle.mjolnir_cli.specs.Commands.{input_of, IsAnswer, IsRefused, EndsSo, Asks}
use Rattle.mjolnir_cli.specs.Failures.{Cause, OfWords, OfReading, OfPutting, OfBytes, OfLimits, OfMemory, cause_of, status_for, status_of}
use Rattle.mjolnir_cli.specs.Listing.{IfOfInput, IsMet, ReadCount}
use Rattle.mjolnir_cli.specs.Said.{SaysLine}

-- ---- each command

-- each command has one end for an input of these bytes
abbrev pub EndsOneWay : Type 0
EndsOneWay = (command : Command) (bytes : List ℕ) (one other : Result Answer Failure) → EndsSo command bytes one → EndsSo command bytes other → one ≡ other

ok_err : (answer : Answer) (failure : Failure) → ◌≡◌ {A = Result Answer Failure} (Ok answer) (Err failure) → ⊥
ok_err answer failure e = cc

failure_is : (f g : Failure) → ◌≡◌ {A = Result Answer Failure} (Err f) (Err g) → f ≡ g
failure_is f g e = cc

-- an input that is answered isn't refused
not_both : EndsOneWay → (command : Command) (bytes : List ℕ) (answer : Answer) (failure : Failure) → IsAnswer command bytes answer → IsRefused command bytes failure → ⊥
not_both way command bytes answer failure answered refused = ok_err answer failure (way command bytes (Ok answer) (Err failure) answered refused)

-- an input is refused with one status
same_status : EndsOneWay → (command : Command) (bytes : List ℕ) (f g : Failure) → IsRefused command bytes f → IsRefused command bytes g → status_of f ≡ status_of g
same_status way command bytes f g one two = ap status_of (failure_is f g (way command bytes (Err f) (Err g) one two))

-- ---- the command that is run

-- the command that is run is the one that the words ask for
pub same_command : (asked : Option Command) (told : Told) (mine command : Command) (bytes : List ℕ) → asked ≡ Some mine → Asks asked told command bytes → command ≡ mine
same_command asked told mine command bytes is asks = same_Some command mine (sym asks.command_is ∙ is)

-- what holds of the command that is run holds of the one that is asked for
pub of_asked : (P : Command → List ℕ → Type 0) (asked : Option Command) (told : Told) (mine command : Command) (bytes : List ℕ) → asked ≡ Some mine
    → ((bytes : List ℕ) → named (input_of mine) told ≡ Some bytes → P mine bytes) → Asks asked told command bytes → P command bytes
of_asked P asked told mine command bytes is holds asks =
    let same = same_command asked told mine command bytes is asks in
    subst (λ (r : Command). P r bytes) (sym same) (holds bytes (subst (λ (r : Command). named (input_of r) told ≡ Some bytes) same asks.bytes_are))

-- a command that has an answer isn't refused
pub answered : EndsOneWay → (asked : Option Command) (told : Told) (mine command : Command) (bytes : List ℕ) (answer : Answer) (failure : Failure) → asked ≡ Some mine
    → ((bytes : List ℕ) → named (input_of mine) told ≡ Some bytes → IsAnswer mine bytes answer) → Asks asked told command bytes → IsRefused command bytes failure → ⊥
answered way asked told mine command bytes answer failure is answers asks refused =
    not_both way command bytes answer failure (of_asked (λ r bs. IsAnswer r bs answer) asked told mine command bytes is answers asks) refused

-- ---- by the cause of a failure

if_of_input : (cause : Cause) {A B : Type 0} → (A → B) → IfOfInput cause A → IfOfInput cause B
if_of_input OfWords f given = tt
if_of_input OfReading f given = tt
if_of_input OfPutting f given = tt
if_of_input OfBytes f given = f given
if_of_input OfLimits f given = f given
if_of_input OfMemory f given = tt

-- A failure that is none of the input's is a fault of reading or want of memory.
only_memory : (cause : Cause) (before now status : ℕ) → IsMet cause → IfOfInput cause ⊥ → ReadCount before now cause → (Rose before now → ⊥) → (status ≡ status_for cause) ⊎ (status ≡ 7) → status ≡ 7
only_memory OfWords before now status met never counted unread ends = absurd met
only_memory OfReading before now status met never counted unread ends = absurd (unread counted)
only_memory OfPutting before now status met never counted unread ends = absurd met
only_memory OfBytes before now status met never counted unread ends = absurd never
only_memory OfLimits before now status met never counted unread ends = absurd never
only_memory OfMemory before now status met never counted unread (inl is) = is
only_memory OfMemory before now status met never counted unread (inr is) = is

-- Where the input is refused with a status, it is the one that is answered, or there was no memory.
this_status : (cause other : Cause) (before now status : ℕ) → IsMet cause → IfOfInput cause (status_for cause ≡ status_for other) → ReadCount before now cause → (Rose before now → ⊥) → (status ≡ status_for cause) ⊎ (status ≡ 7) → (status ≡ status_for other) ⊎ (status ≡ 7)
this_status OfWords other before now status met same counted unread ends = absurd met
this_status OfReading other before now status met same counted unread ends = absurd (unread counted)
this_status OfPutting other before now status met same counted unread ends = absurd met
this_status OfBytes other before now status met same counted unread (inl is) = inl (is ∙ same)
this_status OfBytes other before now status met same counted unread (inr is) = inr is
this_status OfLimits other before now status met same counted unread (inl is) = inl (is ∙ same)
this_status OfLimits other before now status met same counted unread (inr is) = inr is
this_status OfMemory other before now status met same counted unread (inl is) = inr is
this_status OfMemory other before now status met same counted unread (inr is) = inr is

-- there is one failure of reading
pub is_read : (failure : Failure) → cause_of failure ≡ OfReading → failure ≡ Read
is_read Read is = refl
is_read Words is = absurd cc
is_read Put is = absurd cc
is_read (failures.Extract fault) is = absurd cc
is_read (NotBuilt id) is = absurd cc
is_read (Limit limit) is = absurd cc
is_read OutOfMemory is = absurd cc

-- ---- at the end of a command that isn't done

-- a command that has an answer is done, or there was no memory, where no fault of reading was counted
pub complete : EndsOneWay → (asked : Option Command) (told : Told) (mine command : Command) (bytes : List ℕ) (answer : Answer) (failure : Failure) (before now later status : ℕ) → asked ≡ Some mine → IsMet (cause_of failure)
    → ((bytes : List ℕ) → named (input_of mine) told ≡ Some bytes → IfOfInput (cause_of failure) (IsRefused mine bytes failure)) → ReadCount before now (cause_of failure) → later ≡ now → (Rose before later → ⊥)
    → Asks asked told command bytes → IsAnswer command bytes answer → (status ≡ status_of failure) ⊎ (status ≡ 7) → status ≡ 7
complete way asked told mine command bytes answer failure before now later status is met refused counted stays unread asks answer_is ends =
    only_memory (cause_of failure) before now status met
    (if_of_input (cause_of failure) (not_both way command bytes answer failure answer_is) (of_asked (λ r bs. IfOfInput (cause_of failure) (IsRefused r bs failure)) asked told mine command bytes is refused asks))
    counted (λ rose. unread (subst (λ (n : ℕ). Rose before n) (sym stays) rose)) ends

-- a command whose input is refused is refused with that status, or there was no memory
pub refused_so : EndsOneWay → (asked : Option Command) (told : Told) (mine command : Command) (bytes : List ℕ) (failure other : Failure) (before now later status : ℕ) → asked ≡ Some mine → IsMet (cause_of failure)
    → ((bytes : List ℕ) → named (input_of mine) told ≡ Some bytes → IfOfInput (cause_of failure) (IsRefused mine bytes failure)) → ReadCount before now (cause_of failure) → later ≡ now → (Rose before later → ⊥)
    → Asks asked told command bytes → IsRefused command bytes other → (status ≡ status_of failure) ⊎ (status ≡ 7) → (status ≡ status_of other) ⊎ (status ≡ 7)
refused_so way asked told mine command bytes failure other before now later status is met refused counted stays unread asks other_is ends =
    this_status (cause_of failure) (cause_of other) before now status met
    (if_of_input (cause_of failure) (λ mine_is. same_status way command bytes failure other mine_is other_is) (of_asked (λ r bs. IfOfInput (cause_of failure) (IsRefused r bs failure)) asked told mine command bytes is refused asks))
    counted (λ rose. unread (subst (λ (n : ℕ). Rose before n) (sym stays) rose)) ends

-- a line that is said after a call which says nothing is said from the start
pub says_from : (line : List ℕ) (start old new : Told) (first before now : ℕ) → old.said ≡ start.said → before ≡ first → SaysLine line old new before now → SaysLine line start new first now
says_from line start old new first before now same counted (inl adds) = inl (adds ∙ ap (option_map (λ said. said ++ line)) same)
says_from line start old new first before now same counted (inr lost) = inr (lost.0 ∙ same, subst (λ (n : ℕ). Rose n now) counted lost.1)
