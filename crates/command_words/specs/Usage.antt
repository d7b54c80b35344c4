-- Which usage is told.
use Rattle.std.specs.Prelude.{ℕ, List, [], ◌∷◌, if◌then◌else◌, codes}
use Rattle.std.specs.Str.{bytes_eq}
use Rattle.command_words.specs.declared.usages.TheConstants.{BLOBS_USAGE, BUILD_USAGE, DEMO_USAGE, COMMANDS_USAGE}

-- that of the command of this name, or of all commands
unfoldable pub usage_named : List ℕ → List ℕ
usage_named name =
    if bytes_eq name (codes "blobs") then BLOBS_USAGE.now
    else (if bytes_eq name (codes "build") then BUILD_USAGE.now else (if bytes_eq name (codes "demo") then DEMO_USAGE.now else COMMANDS_USAGE.now))

-- that of the command which the first word names, or of all commands
abbrev pub usage_of : List (List ℕ) → List ℕ
usage_of [] = COMMANDS_USAGE.now
usage_of (name ∷ words) = usage_named name
