-- The simple command of each row of the table of commands.
use Rattle.std.specs.Prelude.{Bool, true, false, List, [], ◌∷◌, Option, Some, None, codes, if◌then◌else◌}
use Rattle.clap.specs.Walk.{Row, Rule, Text}
use Rattle.clap.specs.Simple.{App, new_rule, new_app, with_rule, on_top, matches_of}
use Rattle.clap.specs.Kinds.{Kinds}
use Rattle.clap.specs.Faults.{fault_of}

-- a command whose words don't begin with its name
abbrev pub nameless : Text → App
nameless name = on_top (λ s. record s { no_binary_name = true }) (new_app name)

-- the option `--NAME VALUE`, which has to be there
abbrev pub required_option : Text → Rule
required_option name = record (new_rule name) { long = Some name; required = true }

-- the same with a value where it isn't there
abbrev pub option_or : Text → Text → Rule
option_or name value = record (new_rule name) { long = Some name; defaults = value ∷ [] }

-- a word by its place, which has to be there
abbrev pub required_place : Text → Rule
required_place name = record (new_rule name) { required = true }

-- `blobs PATH`
abbrev pub blobs_app : App
blobs_app = with_rule (nameless (codes "blobs")) (required_place (codes "path"))

-- `build --input PATH --output DIR --workers W --modes LIST`
abbrev pub build_app : App
build_app =
    with_rule
    (with_rule (with_rule (with_rule (nameless (codes "build")) (required_option (codes "input"))) (required_option (codes "output")))
    (option_or (codes "workers") (codes "1")))
    (option_or (codes "modes") (codes "auto,pedestrian,bicycle,truck,bus"))

-- `demo N SEED --workers W`
abbrev pub demo_app : App
demo_app =
    with_rule
    (with_rule (with_rule (nameless (codes "demo")) (required_place (codes "n"))) (required_place (codes "seed")))
    (option_or (codes "workers") (codes "1"))

-- no kind of fault stands
abbrev pub is_without : Kinds → Bool
is_without [] = true
is_without (kind ∷ kinds) = false

-- what the command's parse gives of the words, unless it refuses them
unfoldable pub parsed_by : App → List Text → Option (List Row)
parsed_by app words = if is_without (fault_of app words) then Some (matches_of app words) else None
