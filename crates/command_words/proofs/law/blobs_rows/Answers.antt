use Rattle.std.proofs.Common.{refl}
use Rattle.clap.proofs.OnLiterals.{clap_on_literals}
use Rattle.command_words.specs.Rows.{parsed_by}
use Rattle.command_words.proofs.law.blobs_rows.Goals as goal

pub returns : goal.returns
unfolding clap_on_literals parsed_by
returns c = record {
  blobs_path = refl;
  blobs_hyphen = refl;
  blobs_behind_dashes = refl;
  blobs_alone = refl;
  blobs_two = refl;
  blobs_empty = refl;
  blobs_option = refl;
}
