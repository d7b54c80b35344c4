-- How a call of the program ends: by the status that it answers, what the words ask for, and the state of the host
-- before the call and after it.
use Rattle.std.specs.Prelude.{◌≡◌, ◌≢◌, ◌⊎◌, ℕ, List, [], Option, Some, None, length}
use Rattle.host_port.specs.Told.{named}
use Rattle.host_port.specs.Faults.{Rose}
use Rattle.host_port.specs.HostState.{HostState}
use Rattle.mjolnir_cli.specs.declared.answer.Answer.{Answer}
use Rattle.mjolnir_cli.specs.declared.failure.Failure.{Failure}
use Rattle.mjolnir_cli.specs.declared.failure.Failure.TheVariants.{Words, Read, Put, OutOfMemory}
use Rattle.mjolnir_cli.specs.declared.words.Command.{Command}
use Rattle.mjolnir_cli.specs.Commands.{input_of, ArePathsOf, PutsNothing, IsAnswer, IsRefused, Headline, Asks, HasItsInput}
use Rattle.mjolnir_cli.specs.Failures.{Cause, OfBytes, OfLimits, cause_of, status_of, line_of}
use Rattle.mjolnir_cli.specs.Puts.{PutsAll, BeginsWith, IsFront, Unput, paths}
use Rattle.mjolnir_cli.specs.Said.{Adds, SaysLine}

-- the statuses that the program ends with
abbrev pub IsStatus : ℕ → Type 0
IsStatus status =
    (status ≡ 0) ⊎ (status ≡ 2) ⊎ (status ≡ 3) ⊎ (status ≡ 4) ⊎ (status ≡ 5) ⊎ (status ≡ 6) ⊎ (status ≡ 7) ⊎ (status ≡ 9)

-- The line of this failure was said; or, only where a fault of saying was counted, nothing was.
abbrev pub SaysItsLine : Failure → HostState → HostState → Type 0
SaysItsLine failure before after = SaysLine (line_of failure) before.told after.told before.say_faults after.say_faults

-- The words ask for a command, and this is its answer for the bytes of its input.
pub record HasAnswer (asked : Option Command) (before : HostState) (answer : Answer) : Type 0 where
  pub command : Command
  pub command_is : asked ≡ Some command
  pub is : (bytes : List ℕ) → named (input_of command) before.told ≡ Some bytes → IsAnswer command bytes answer
  pub paths_are : ArePathsOf command (paths answer.files)

-- ---- each status

-- 0: the command is done. Its files were put and its text was said, and its input was read to the end.
pub record IsDone (asked : Option Command) (before after : HostState) : Type 0 where
  pub answer : Answer
  pub answers : HasAnswer asked before answer
  pub puts : PutsAll answer.files before.told after.told
  pub says : Adds answer.text before.told after.told
  pub whole : (bytes : List ℕ) → named (input_of answers.command) before.told ≡ Some bytes → after.told.place ≡ Some (length bytes)

-- 2: the words ask for nothing.
pub record IsRefusedWords (asked : Option Command) (before after : HostState) : Type 0 where
  pub nothing : asked ≡ None
  pub unput : Unput before.told after.told
  pub line : SaysItsLine Words before after

-- 3: a fault of reading was counted.
pub record IsUnread (before after : HostState) : Type 0 where
  pub counted : Rose before.read_faults after.read_faults
  pub unput : Unput before.told after.told
  pub line : SaysItsLine Read before after

-- 4: a fault of putting was counted. The files that were put are the first of the answer's, and not all.
pub record IsUnput (asked : Option Command) (before after : HostState) : Type 0 where
  pub counted : Rose before.put_faults after.put_faults
  pub answer : Answer
  pub answers : HasAnswer asked before answer
  pub front : List (List ℕ × List ℕ)
  pub is_front : IsFront front answer.files
  pub puts : PutsAll front before.told after.told
  pub line : SaysItsLine Put before after

-- 5 and 6: the bytes of the command's input are refused, with a failure of this cause.
pub record IsRefusedFor (cause : Cause) (asked : Option Command) (before after : HostState) : Type 0 where
  pub failure : Failure
  pub cause_is : cause_of failure ≡ cause
  pub command : Command
  pub command_is : asked ≡ Some command
  pub is : (bytes : List ℕ) → named (input_of command) before.told ≡ Some bytes → IsRefused command bytes failure
  pub unput : Unput before.told after.told
  pub line : SaysItsLine failure before after

-- 7: there was no memory. Its own line was said, or nothing; no file was put, or the first of the answer's, perhaps all.
pub record HasNoMemory (asked : Option Command) (before after : HostState) : Type 0 where
  pub line : Adds (line_of OutOfMemory) before.told after.told ⊎ (after.told.said ≡ before.told.said)
  pub front : List (List ℕ × List ℕ)
  pub puts : PutsAll front before.told after.told
  pub is_front : (front ≡ []) ⊎ ((answer : Answer) × HasAnswer asked before answer × BeginsWith front answer.files)

-- 9: a fault of saying was counted while the text of a command that is done was said, so that it is lost. An empty
-- text isn't said.
pub record IsUnsaid (asked : Option Command) (before after : HostState) : Type 0 where
  pub counted : Rose before.say_faults after.say_faults
  pub answer : Answer
  pub answers : HasAnswer asked before answer
  pub puts : PutsAll answer.files before.told after.told
  pub has_text : answer.text ≢ []
  pub lost : after.told.said ≡ before.told.said

-- what each status says
pub record EndsBy (status : ℕ) (asked : Option Command) (before after : HostState) : Type 0 where
  pub done : status ≡ 0 → IsDone asked before after
  pub refused_words : status ≡ 2 → IsRefusedWords asked before after
  pub unread : status ≡ 3 → IsUnread before after
  pub unput : status ≡ 4 → IsUnput asked before after
  pub refused : status ≡ 5 → IsRefusedFor OfBytes asked before after
  pub past_limit : status ≡ 6 → IsRefusedFor OfLimits asked before after
  pub no_memory : status ≡ 7 → HasNoMemory asked before after
  pub unsaid : status ≡ 9 → IsUnsaid asked before after

-- ---- the other way round: what the status is where a cause stands; want of memory may come in place of each

-- no fault of any kind was counted
pub record CountsNone (before after : HostState) : Type 0 where
  pub reads : Rose before.read_faults after.read_faults → ⊥
  pub puts : Rose before.put_faults after.put_faults → ⊥
  pub says : Rose before.say_faults after.say_faults → ⊥

-- the counts stayed
pub record SameCounts (before after : HostState) : Type 0 where
  pub reads : after.read_faults ≡ before.read_faults
  pub puts : after.put_faults ≡ before.put_faults
  pub says : after.say_faults ≡ before.say_faults

pub record HasCauses (status : ℕ) (asked : Option Command) (before after : HostState) : Type 0 where
  -- nothing is asked: 2
  pub words : asked ≡ None → (status ≡ 2) ⊎ (status ≡ 7)
  -- a fault of reading is counted only with 3
  pub reading : status ≢ 3 → status ≢ 7 → after.read_faults ≡ before.read_faults
  -- a fault of putting is counted only with 4, and where the command has files
  pub putting : status ≢ 4 → status ≢ 7 → after.put_faults ≡ before.put_faults
  pub fileless : (command : Command) → asked ≡ Some command → PutsNothing command → Unput before.told after.told × (after.put_faults ≡ before.put_faults)
  -- the input is refused, and was read: 5 or 6
  pub refusing : (command : Command) (bytes : List ℕ) (failure : Failure) → Asks asked before.told command bytes → IsRefused command bytes failure
      → (Rose before.read_faults after.read_faults → ⊥) → (status ≡ status_of failure) ⊎ (status ≡ 7)
  -- a fault of saying is never counted where the command is done
  pub saying : status ≡ 0 → after.say_faults ≡ before.say_faults

-- A command that has an answer is done, where no fault was counted.
abbrev pub IsComplete : ℕ → Option Command → HostState → HostState → Type 0
IsComplete status asked before after =
    (command : Command) (bytes : List ℕ) (answer : Answer) → Asks asked before.told command bytes → IsAnswer command bytes answer → CountsNone before after
    → (status ≡ 0) ⊎ (status ≡ 7)

-- The command's own theorem holds of what was put, where it is done.
abbrev pub KeepsHeadline : ℕ → Option Command → HostState → HostState → Type 0
KeepsHeadline status asked before after =
    status ≡ 0 → (command : Command) (bytes : List ℕ) → Asks asked before.told command bytes → Headline command bytes before.told after.told

-- A willing host that has the file which the command opens counts no fault.
abbrev pub IsHeardBy : Option Command → HostState → HostState → Type 0
IsHeardBy asked before after = before.willing → HasItsInput asked before.told → SameCounts before after

-- all of it
pub record IsEnd (status : ℕ) (asked : Option Command) (before after : HostState) : Type 0 where
  pub ends : EndsBy status asked before after
  pub causes : HasCauses status asked before after
  pub complete : IsComplete status asked before after
  pub willing : IsHeardBy asked before after
  pub headline : KeepsHeadline status asked before after
