use Rattle.std.proofs.Common.{refl}
use Rattle.clap.proofs.OnLiterals.{clap_on_literals}
use Rattle.command_words.specs.Rows.{parsed_by}
use Rattle.command_words.proofs.law.demo_rows.Goals as goal

pub returns : goal.returns
unfolding clap_on_literals parsed_by
returns c = record {
  demo_least = refl;
  demo_most = refl;
  demo_option_first = refl;
  demo_1 = refl;
  demo_501 = refl;
  demo_seed_past = refl;
  demo_needless_zero = refl;
  demo_one_word = refl;
  demo_three_words = refl;
  demo_sign = refl;
}
