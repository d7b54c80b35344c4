use Rattle.std.proofs.Common.{refl}
use Rattle.clap.proofs.OnLiterals.{clap_on_literals}
use Rattle.command_words.specs.Rows.{parsed_by}
use Rattle.command_words.proofs.law.nothing_asked.Goals as goal

pub returns : goal.returns
unfolding clap_on_literals parsed_by
returns c = record {
  nothing = refl;
  empty_word = refl;
  upper = refl;
  help_word = refl;
  help_option = refl;
  version = refl;
  build_help = refl;
  build_h = refl;
  blobs_help = refl;
}
