use Rattle.std.proofs.Common.{refl}
use Rattle.clap.proofs.OnLiterals.{clap_on_literals}
use Rattle.command_words.specs.Rows.{parsed_by}
use Rattle.command_words.proofs.law.options_asked.Goals as goal

pub returns : goal.returns
unfolding clap_on_literals parsed_by
returns c = record {
  short = refl;
  all_four = refl;
  equals_inside = refl;
  space_inside = refl;
  input_twice = refl;
  modes_twice = refl;
  no_output = refl;
  no_input = refl;
  value_cut_off = refl;
  option_for_value = refl;
  dash_for_value = refl;
  dash_by_equals = refl;
  name_cut_short = refl;
  name_misspelt = refl;
  unknown_option = refl;
  one_more_word = refl;
  dashes_last = refl;
  dashes_first = refl;
  empty_input = refl;
  empty_output = refl;
}
