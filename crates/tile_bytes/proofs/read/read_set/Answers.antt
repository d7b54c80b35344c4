use Rattle.std.proofs.Common.{ap, sym, length, List, ℕ}
use Rattle.tile_bytes.proofs.read.read_set.Goals as goal

pub check_entries-requires-clause-spelled : goal.check_entries-requires-clause-spelled
check_entries-requires-clause-spelled c = sym (ap (λ (l : List ℕ). length l) c.in_ok-infos.ensures.spelled)
