use Rattle.std.proofs.Common.{rules}
use Rattle.std.specs.Prelude.{bit_and, bit_xor, ◌==◌}
use Rattle.std.proofs.lemmas.Iterator.Consumers.{fold_from_yields_List}
use Rattle.std.proofs.lemmas.Iterator.Splits.{YieldsList-from_slice_split}
use Rattle.osm_restrictions.specs.Exceptions.{taken_modes}
use Rattle.osm_restrictions.proofs.exceptions.left_by.Goals as goal

pub returns : goal.returns
returns c =
    fold_from_yields_List _ (λ left part. bit_and left (bit_xor 79 (taken_modes part))) c.args.modes c.fold.result c.fold.ensures.ran
    (YieldsList-from_slice_split _ (λ byte. byte == 59) c.args.value.now c.split.ensures.rest c.split.ensures.done c.split.ensures.closure (search rules))
    (search rules)
