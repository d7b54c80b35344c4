use Rattle.std.proofs.Common.{length}
use Rattle.command_words.proofs.values.+with_modes.Given as goal

abbrev pub decreases-with_modes : goal.decreases-with_modes
decreases-with_modes l = length l.text.now
