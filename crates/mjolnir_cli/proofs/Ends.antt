-- How a command that is done ends.
use Rattle.std.proofs.Common.{◌≡◌, ℕ, refl, sym, subst, ◌∙◌, List, [], ◌∷◌, Option, Some}
use Rattle.std.specs.Prelude.{All, Result, Ok, Err, IfOk}
use Rattle.host_port.specs.Told.{Told, named}
use Rattle.command_words.specs.declared.command.BuildOptions.{BuildOptions}
use Rattle.build_flow.specs.BuildLaws.{BuiltWalks}
use Rattle.mjolnir_cli.specs.declared.answer.Answer.{Answer}
use Rattle.mjolnir_cli.specs.declared.failure.Failure.{Failure}
use Rattle.mjolnir_cli.specs.declared.words.Command.{Command}
use Rattle.mjolnir_cli.specs.declared.words.Command.TheVariants.{Blobs, Build}
use Rattle.mjolnir_cli.specs.Commands.{input_of, IsIn, ArePathsOf, PutsNothing, IsAnswer, Asks}
use Rattle.mjolnir_cli.specs.Commands.BuildCommand.{IsBuilt, RoutesRoads}
use Rattle.mjolnir_cli.specs.Puts.{paths, PutsAll}
use Rattle.mjolnir_cli.proofs.Stored.{puts_after}
use Rattle.mjolnir_cli.proofs.OneAnswer.{of_asked}

none_without : (files : List (List ℕ × List ℕ)) → paths files ≡ [] → files ≡ []
none_without [] none = refl
none_without (file ∷ files) none = absurd cc

some_is : (a b : Command) → ◌≡◌ {A = Option Command} (Some a) (Some b) → a ≡ b
some_is a b e = cc

none_of : (command : Command) (files : List (List ℕ × List ℕ)) → ArePathsOf command (paths files) → PutsNothing command → files ≡ []
none_of (Blobs path) files these none = none_without files these
none_of (Build options) files these none = absurd none

-- the files of an answer to `build` lie in its folder
pub if_paths : (command : Command) (options : BuildOptions) (result : Result Answer Failure) → command ≡ Build options → IfOk result (λ answer. All (IsIn options.output) (paths answer.files)) → IfOk result (λ answer. ArePathsOf command (paths answer.files))
if_paths command options (Ok answer) is these = subst (λ (c : Command). ArePathsOf c (paths answer.files)) (sym is) these
if_paths command options (Err failure) is these = tt

-- a command without files has none in its answer
pub no_files : (asked : Option Command) (mine command : Command) (files : List (List ℕ × List ℕ)) → asked ≡ Some mine → asked ≡ Some command → ArePathsOf mine (paths files) → PutsNothing command → files ≡ []
no_files asked mine command files is also these none = none_of mine files these (subst PutsNothing (some_is command mine (sym also ∙ is)) none)

-- the files of an answer are those of the folder, and its tiles have the walks of the roads
routes : (options : BuildOptions) (bytes : List ℕ) (answer : Answer) (old new : Told) → BuiltWalks → IsBuilt options.output options.modes bytes answer → PutsAll answer.files old new → RoutesRoads options.output options.modes bytes old new
routes options bytes answer old new law is puts = record {
  extract = is.extract;
  spelled = is.spelled;
  puts = subst (λ files. PutsAll files old new) is.files puts;
  walks = law is.extract options.modes is.built;
}

-- what is put for a command to build
pub routes_roads : (asked : Option Command) (mine : Command) (options : BuildOptions) (bytes : List ℕ) (answer : Answer) (old mid new : Told) → BuiltWalks → asked ≡ Some mine
    → ((bytes : List ℕ) → named (input_of mine) old ≡ Some bytes → IsAnswer mine bytes answer) → mid.files ≡ old.files → mid.puts ≡ old.puts → PutsAll answer.files mid new
    → Asks asked old (Build options) bytes → RoutesRoads options.output options.modes bytes old new
routes_roads asked mine options bytes answer old mid new law is answers same_files same_puts puts asks =
    routes options bytes answer old new law (of_asked (λ r bs. IsAnswer r bs answer) asked old mine (Build options) bytes is answers asks)
    (puts_after answer.files old mid new same_files same_puts puts)
