-- The values of a command that words ask for.
use Rattle.std.proofs.Common.{◌≡◌, ℕ, ◌<◌, List, Option, Some, None, true, refl, subst}
use Rattle.std.specs.Prelude.{bit_and, nat_lt, ◌==◌, option_and_then}
use Rattle.std.proofs.lemmas.Bool.{and_from, eq-eqb, lt-ltb}
use Rattle.std.proofs.lemmas.Option.{same_Some}
use Rattle.command_words.specs.declared.command.BuildOptions.{BuildOptions}
use Rattle.command_words.specs.declared.command.Request.{Request}
use Rattle.command_words.specs.declared.command.Request.TheVariants as request
use Rattle.command_words.specs.Asks.{asked_by}
use Rattle.tile_bytes.specs.Header.{are_modes}
use Rattle.mjolnir_cli.specs.declared.words.Command.{Command}
use Rattle.mjolnir_cli.specs.declared.words.Command.TheVariants.{Blobs, Build}
use Rattle.mjolnir_cli.specs.Commands.{command_of, command_asked, HasGoodValues}

-- known modes, of which there is one, are modes
modes_are : (modes : ℕ) → 0 < modes → bit_and modes 79 ≡ modes → are_modes modes ≡ true
modes_are modes some known = and_from (nat_lt 0 modes) (bit_and modes 79 == modes) (lt-ltb 0 modes some) (eq-eqb (bit_and modes 79) modes known)

good_of : (asked : Option Request) → ((options : BuildOptions) → asked ≡ Some (request.Build options) → 0 < options.modes) → ((options : BuildOptions) → asked ≡ Some (request.Build options) → bit_and options.modes 79 ≡ options.modes)
    → (command : Command) → option_and_then command_of asked ≡ Some command → HasGoodValues command
good_of None some known command is = absurd cc
good_of (Some (request.Blobs path)) some known command is = subst HasGoodValues (same_Some (Blobs path) command is) tt
good_of (Some (request.Build options)) some known command is = subst HasGoodValues (same_Some (Build options) command is) (modes_are options.modes (some options refl) (known options refl))
good_of (Some (request.Demo side seed workers)) some known command is = absurd cc

-- by the law of the words
pub good_values : ((words : List (List ℕ)) (options : BuildOptions) → asked_by words ≡ Some (request.Build options) → 0 < options.modes)
    → ((words : List (List ℕ)) (options : BuildOptions) → asked_by words ≡ Some (request.Build options) → bit_and options.modes 79 ≡ options.modes)
    → (words : List (List ℕ)) (command : Command) → command_asked words ≡ Some command → HasGoodValues command
unfolding command_asked
good_values some known words command is = good_of (asked_by words) (some words) (known words) command is
