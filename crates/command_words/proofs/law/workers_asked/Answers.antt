use Rattle.std.proofs.Common.{refl}
use Rattle.clap.proofs.OnLiterals.{clap_on_literals}
use Rattle.command_words.specs.Rows.{parsed_by}
use Rattle.command_words.proofs.law.workers_asked.Goals as goal

pub returns : goal.returns
unfolding clap_on_literals parsed_by
returns c = record {
  workers_0 = refl;
  workers_1 = refl;
  workers_64 = refl;
  workers_65 = refl;
  workers_01 = refl;
  workers_plus = refl;
  workers_minus = refl;
  workers_past_64_bits = refl;
  workers_empty = refl;
  workers_spaced = refl;
}
