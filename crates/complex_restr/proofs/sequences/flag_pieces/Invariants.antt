use Rattle.std.proofs.Common.{◌≡◌, ◌<◌, ◌||◌, ℕ, length, take, get_or, false}
use Rattle.std.specs.Prelude.{nat_eq}
use Rattle.std.specs.List.{list_any}
use Rattle.complex_restr.specs.Codes.{coded_piece}
use Rattle.complex_restr.proofs.sequences.flag_pieces.Given as goal

abbrev pub invariant-loop-code : goal.invariant-loop-code
invariant-loop-code l =
    (k : ℕ) → k < length l.initial.flags → get_or l.flags k false ≡ (get_or l.initial.flags k false || list_any (λ c. nat_eq (coded_piece c) k) (take l.code-index l.codes))
