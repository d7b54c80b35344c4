-- The place of a number among numbers that rise.
use Rattle.std.proofs.Common.{◌≡◌, ℕ, ◌<◌, ◌==◌, List, length, get_or, Some, None, Option, arith}
use Rattle.std.specs.Prelude.{◌≢◌, position, slice_index, IfSome, IfNone}
use Rattle.std.proofs.lemmas.Bool.{eq-eqb, ne_eqb}
use Rattle.work_tile.specs.Places.{NumbersRise}
use Rattle.enhancer.proofs.First.{some_first, none_first}

pub place_is : (numbers : List ℕ) (number : ℕ) (result : Option ℕ) → NumbersRise numbers
    → IfSome result (λ i. (i < length numbers) × (slice_index numbers i ≡ number))
    → IfNone result ((k : ℕ) → k < length numbers → slice_index numbers k ≢ number)
    → result ≡ position (λ n. n == number) numbers
place_is numbers number None rise some none =
    none_first (λ n. n == number) numbers 0 (λ k l. ne_eqb (get_or numbers k 0) number (none k l))
place_is numbers number (Some i) rise some none =
    some_first (λ n. n == number) numbers 0 i some.0
    (λ k l. ne_eqb (get_or numbers k 0) number (λ e. let r : get_or numbers k 0 < get_or numbers i 0 = rise k i l some.0 in let is : get_or numbers i 0 ≡ number = some.1 in absurd (omega (arith, r, e, is))))
    (eq-eqb (get_or numbers i 0) number some.1)
