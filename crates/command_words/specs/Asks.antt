-- What the words ask for.
use Rattle.std.specs.Prelude.{ℕ, Bool, List, [], ◌∷◌, Option, Some, None, if◌then◌else◌, codes, option_and_then}
use Rattle.std.specs.Str.{bytes_eq}
use Rattle.clap.specs.Walk.{Row, first_of}
use Rattle.command_words.specs.declared.command.BuildOptions.{BuildOptions}
use Rattle.command_words.specs.declared.command.Request.{Request}
use Rattle.command_words.specs.declared.command.Request.TheVariants as request
use Rattle.command_words.specs.Rows.{parsed_by, blobs_app, build_app, demo_app}
use Rattle.command_words.specs.Values.{not_empty, number_within, modes_of}

-- the value of that name, where it isn't empty
abbrev pub text_of : List ℕ → List Row → Option (List ℕ)
text_of name rows = option_and_then not_empty (first_of name rows)

-- the number of that name, from `low` to `high`
abbrev pub number_of : List ℕ → ℕ → ℕ → List Row → Option ℕ
number_of name low high rows = option_and_then (number_within low high) (first_of name rows)

-- the number of workers, from 1 to 64
abbrev pub workers_of : List Row → Option ℕ
workers_of rows = number_of (codes "workers") 1 64 rows

-- the asked modes, a bit each
abbrev pub modes_in : List Row → Option ℕ
modes_in rows = option_and_then modes_of (first_of (codes "modes") rows)

abbrev pub blobs_of : List Row → Option Request
blobs_of rows = option_and_then (λ path. Some (request.Blobs path)) (text_of (codes "path") rows)

abbrev pub options_of : List Row → Option BuildOptions
options_of rows =
    option_and_then (λ input. option_and_then (λ output. option_and_then (λ workers. option_and_then (λ modes. Some (record {
      input = input;
      output = output;
      workers = workers;
      modes = modes;
    })) (modes_in rows)) (workers_of rows)) (text_of (codes "output") rows)) (text_of (codes "input") rows)

abbrev pub build_of : List Row → Option Request
build_of rows = option_and_then (λ options. Some (request.Build options)) (options_of rows)

abbrev pub demo_of : List Row → Option Request
demo_of rows =
    option_and_then (λ side. option_and_then (λ seed. option_and_then (λ workers. Some (request.Demo side seed workers)) (workers_of rows))
    (number_of (codes "seed") 0 2147483647 rows)) (number_of (codes "n") 2 500 rows)

-- The first word names the row, and the row's command parses the words after it; then come the rules on values.
abbrev pub asked_by : List (List ℕ) → Option Request
asked_by [] = None
asked_by (name ∷ words) =
    if bytes_eq name (codes "blobs") then option_and_then blobs_of (parsed_by blobs_app words)
    else (if bytes_eq name (codes "build") then option_and_then build_of (parsed_by build_app words)
    else (if bytes_eq name (codes "demo") then option_and_then demo_of (parsed_by demo_app words) else None))
