-- The commands of the program: a line for each in every table below, and a file for each beside this one.
pub mod BlobsCommand
pub mod BuildCommand
use Rattle.std.specs.Prelude.{◌≡◌, ℕ, ⊤, true, List, [], All, Option, Some, None, IsSome, Result, Ok, Err, option_and_then}
use Rattle.host_port.specs.Told.{Told, named}
use Rattle.command_words.specs.declared.command.Request.{Request}
use Rattle.command_words.specs.declared.command.Request.TheVariants as request
use Rattle.command_words.specs.Asks.{asked_by}
use Rattle.osm_blocks.specs.Faults.{is_of_bytes}
use Rattle.tile_bytes.specs.Header.{are_modes}
use Rattle.mjolnir_cli.specs.declared.answer.Answer.{Answer}
use Rattle.mjolnir_cli.specs.declared.failure.Failure.{Failure}
use Rattle.mjolnir_cli.specs.declared.failure.Failure.TheVariants.{Extract, NotBuilt, Limit}
use Rattle.mjolnir_cli.specs.declared.words.Command.{Command}
use Rattle.mjolnir_cli.specs.declared.words.Command.TheVariants.{Blobs, Build}
use Rattle.mjolnir_cli.specs.Commands.BlobsCommand.{IsListed, StopsAt}
use Rattle.mjolnir_cli.specs.Commands.BuildCommand.{IsBuilt, IsBuildRefused, RoutesRoads, path_in}

-- ---- what the words ask for

-- the command of the program that is asked for; `demo` isn't one yet
abbrev pub command_of : Request → Option Command
command_of (request.Blobs path) = Some (Blobs path)
command_of (request.Build options) = Some (Build options)
command_of (request.Demo side seed workers) = None

-- the command that the words ask for, if they ask for one
unfoldable pub command_asked : List (List ℕ) → Option Command
command_asked words = option_and_then command_of (asked_by words)

-- ---- the tables

-- the path of the command's input
abbrev pub input_of : Command → List ℕ
input_of (Blobs path) = path
input_of (Build options) = options.input

-- a path lies in a folder
abbrev pub IsIn : List ℕ → List ℕ → Type 0
IsIn folder path = (rest : List ℕ) × (path ≡ path_in folder rest)

-- where the files of a command lie: `blobs` has none, those of `build` lie in its folder
abbrev pub ArePathsOf : Command → List (List ℕ) → Type 0
ArePathsOf (Blobs path) paths = paths ≡ []
ArePathsOf (Build options) paths = All (IsIn options.output) paths

-- the command never puts a file
abbrev pub PutsNothing : Command → Type 0
PutsNothing (Blobs path) = ⊤
PutsNothing (Build options) = ⊥

-- what holds of the values of each command that words ask for
abbrev pub HasGoodValues : Command → Type 0
HasGoodValues (Blobs path) = ⊤
HasGoodValues (Build options) = are_modes options.modes ≡ true

-- An input of these bytes is answered by this answer.
abbrev pub IsAnswer : Command → List ℕ → Answer → Type 0
IsAnswer (Blobs path) bytes answer = IsListed bytes answer
IsAnswer (Build options) bytes answer = IsBuilt options.output options.modes bytes answer

-- An input of these bytes is refused with this failure.
abbrev pub IsRefused : Command → List ℕ → Failure → Type 0
IsRefused (Blobs path) bytes failure = StopsAt bytes failure
IsRefused (Build options) bytes failure = IsBuildRefused options.modes bytes failure

-- The command's own theorem, of what a host tells before it and when it is done. That of `blobs` is its answer.
abbrev pub Headline : Command → List ℕ → Told → Told → Type 0
Headline (Blobs path) bytes before after = ⊤
Headline (Build options) bytes before after = RoutesRoads options.output options.modes bytes before after

-- ---- over all commands

-- A command ends so for an input of these bytes: with this answer, or refused with this failure.
abbrev pub EndsSo : Command → List ℕ → Result Answer Failure → Type 0
EndsSo command bytes (Ok answer) = IsAnswer command bytes answer
EndsSo command bytes (Err failure) = IsRefused command bytes failure

-- The words ask for this command, and the host tells that the file of its input has these bytes.
pub record Asks (asked : Option Command) (told : Told) (command : Command) (bytes : List ℕ) : Type 0 where
  pub command_is : asked ≡ Some command
  pub bytes_are : named (input_of command) told ≡ Some bytes

-- the file that the command opens is there; where nothing is asked, none is opened
abbrev pub HasItsInput : Option Command → Told → Type 0
HasItsInput None told = ⊤
HasItsInput (Some command) told = IsSome (named (input_of command) told)

-- The failure is a fault of the bytes that is neither one of reading nor want of memory, or an object that isn't built
-- yet, or a limit that is passed.
abbrev pub NamesInput : Failure → Type 0
NamesInput (Extract fault) = is_of_bytes fault ≡ true
NamesInput (NotBuilt id) = ⊤
NamesInput (Limit limit) = ⊤
NamesInput other = ⊥
