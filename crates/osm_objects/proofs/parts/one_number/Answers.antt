use Rattle.std.proofs.Common.{◌≡◌, ℕ, ◌+◌, List, [], ◌∷◌, length, get_or, Some, None, refl, ap, arith}
use Rattle.std.proofs.lemmas.Bool.Decides.{nat_tests}
use Rattle.std.specs.List.{last_or}
use Rattle.osm_objects.specs.Parts.{needed}
use Rattle.osm_objects.proofs.parts.one_number.Goals as goal

last_some : (y d : ℕ) (xs : List ℕ) → last_or (Some y) xs ≡ Some (get_or (y ∷ xs) (length xs) d)
last_some y d [] = refl
last_some y d (x ∷ xs) = last_some x d xs

last_is : (xs : List ℕ) (n d : ℕ) → n + 1 ≡ length xs → last_or None xs ≡ Some (get_or xs n d)
last_is [] n d e = absurd (omega arith)
last_is (x ∷ xs) n d e = let same : n ≡ length xs = omega arith in rw same (last_some x d xs)

pub returns : goal.returns
returns c =
    ap (needed c.args.at c.args.field) (last_is c.args.numbers.now _ 0 (grind (arith, nat_tests)))
