-- What the getters of the matches read, by the rows.
use Rattle.std.proofs.Common.{◌≡◌, ◌∙◌, ◌&&◌, ℕ, Bool, true, false, List, [], ◌∷◌, Option, Some, None, refl, sym, ap, cond, codes}
use Rattle.std.specs.Prelude.{option_and_then}
use Rattle.clap.specs.Walk.{Row, Text, rows_of}
use Rattle.clap.specs.Matches.{first_value}
use Rattle.clap.specs.Kinds.{Kinds, HasKind, IsAmong}
use Rattle.clap.specs.declared.parser.matches.Found.{Found}
use Rattle.clap.proofs.WalkLemmas.{first_value-rows}
use Rattle.clap.specs.Faults.{is_simple_and_free}
use Rattle.command_words.specs.Rows.{is_without, blobs_app, build_app, demo_app}
use Rattle.command_words.specs.Values.{not_empty, number_within, modes_of}
use Rattle.command_words.specs.Asks.{text_of, number_of, modes_in}

pub first_of_both : (a b : Bool) → (a && b) ≡ true → a ≡ true
first_of_both true b e = refl
first_of_both false b e = e

-- where no step fails, the parse gives the rows
pub parsed_gives : (kinds : Kinds) (rows : List Row) → kinds ≡ [] → Some rows ≡ cond (is_without kinds) (Some rows) None
parsed_gives kinds rows e = ap (λ (k : Kinds). cond (is_without k) (Some rows) None) (sym e)

-- where a step fails, it gives none
pub refused_gives : (kinds : Kinds) (rows : List Row) (kind : _) → IsAmong kind kinds → None ≡ cond (is_without kinds) (Some rows) None
refused_gives [] rows kind among = absurd among
refused_gives (k ∷ ks) rows kind among = refl

pub text_read : (f : Found) (id : Text) (o : Option Text) → o ≡ first_value f id → option_and_then not_empty o ≡ text_of id (rows_of f)
text_read f id o e = ap (option_and_then not_empty) (e ∙ first_value-rows f id)

pub number_read : (f : Found) (id : Text) (low high : ℕ) (o : Option Text) → o ≡ first_value f id → option_and_then (number_within low high) o ≡ number_of id low high (rows_of f)
number_read f id low high o e = ap (option_and_then (number_within low high)) (e ∙ first_value-rows f id)

pub modes_read : (f : Found) (o : Option Text) → o ≡ first_value f (codes "modes") → option_and_then modes_of o ≡ modes_in (rows_of f)
modes_read f o e = ap (option_and_then modes_of) (e ∙ first_value-rows f (codes "modes"))

pub blobs_is_simple : is_simple_and_free blobs_app ≡ true
blobs_is_simple = refl

pub build_is_simple : is_simple_and_free build_app ≡ true
build_is_simple = refl

pub demo_is_simple : is_simple_and_free demo_app ≡ true
demo_is_simple = refl
