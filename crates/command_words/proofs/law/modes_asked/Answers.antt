use Rattle.std.proofs.Common.{refl}
use Rattle.clap.proofs.OnLiterals.{clap_on_literals}
use Rattle.command_words.specs.Rows.{parsed_by}
use Rattle.command_words.proofs.law.modes_asked.Goals as goal

pub returns : goal.returns
unfolding clap_on_literals parsed_by
returns c = record {
  one_mode = refl;
  all_modes = refl;
  mode_twice = refl;
  mode_unknown = refl;
  mode_upper = refl;
  modes_empty = refl;
  comma_last = refl;
  comma_first = refl;
}
