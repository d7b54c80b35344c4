use Rattle.wire_read.proofs.Packed.{is_read_one_way}
use Rattle.wire_read.proofs.numbers.packed_numbers_law.Goals as goal

pub returns : goal.returns
returns c = is_read_one_way
