-- Lists that are as long as one another.
use Rattle.std.proofs.Common.{◌≡◌, ℕ, suc, ℤ, pos, ◌+ℤ◌, eqb, cond, Bool, true, false, List, [], ◌∷◌, length, Result, Ok, Err, IsOk, refl, sym, ap, ◌∙◌}
use Rattle.std.proofs.lemmas.Bool.{eqb-true}
use Rattle.wire_read.specs.ZigZag.{unzigzag_of}
use Rattle.osm_objects.specs.declared.fault.ObjectFault.{ObjectFault}
use Rattle.osm_objects.specs.declared.fault.ObjectFault.TheVariants.{BadNumber, Uneven}
use Rattle.osm_objects.specs.Steps.{◌>>=◌, each}
use Rattle.osm_objects.specs.Parts.{as_many}
use Rattle.osm_objects.specs.Sums.{fits_i64, sums_from, sums_of}

-- there are as many sums as differences
one_more : (at : ℕ) (next : ℤ) (b : Bool) (r : Result (List ℤ) ObjectFault) (zs : List ℤ) (count : ℕ) → cond b (r >>= λ others. Ok (next ∷ others)) (Err (BadNumber at)) ≡ Ok zs
    → ((os : List ℤ) → r ≡ Ok os → length os ≡ count) → length zs ≡ suc count
one_more at next true (Ok os) zs count e many =
    let same : next ∷ os ≡ zs = cc e in
    sym (ap (λ l. length l) same) ∙ ap suc (many os refl)
one_more at next true (Err d) zs count e many = absurd (cc e)
one_more at next false r zs count e many = absurd (cc e)

from_length : (at : ℕ) (last : ℤ) (ns : List ℕ) (zs : List ℤ) → sums_from at last ns ≡ Ok zs → length zs ≡ length ns
from_length at last [] zs e = let same : [] ≡ zs = cc e in sym (ap (λ l. length l) same)
from_length at last (n ∷ ns) zs e =
    one_more at (last +ℤ unzigzag_of n) (fits_i64 (last +ℤ unzigzag_of n)) (sums_from at (last +ℤ unzigzag_of n) ns) zs (length ns) e (λ os f. from_length at (last +ℤ unzigzag_of n) ns os f)

pub sums-length : (at : ℕ) (ns : List ℕ) (zs : List ℤ) → sums_of at ns ≡ Ok zs → length zs ≡ length ns
sums-length at ns zs e = from_length at (pos 0) ns zs e

even_by : {A : Type 0} (at m n : ℕ) (b : Bool) (x : A) → eqb m n ≡ b → IsOk (cond b (Ok x) (Err (Uneven at))) → m ≡ n
even_by at m n true x e good = eqb-true m n e
even_by at m n false x e good = absurd (cc good)

pub even-lengths : (at : ℕ) (xs ys : List ℕ) → IsOk (as_many at xs ys) → length xs ≡ length ys
even-lengths at xs ys good = even_by at (length xs) (length ys) (eqb (length xs) (length ys)) tt refl good

-- there is one value for each item
each_one : {B : Type 0} (one : Result B ObjectFault) (rest : Result (List B) ObjectFault) (ys : List B) (count : ℕ) → (one >>= λ y. rest >>= λ ys. Ok (y ∷ ys)) ≡ Ok ys
    → ((zs : List B) → rest ≡ Ok zs → length zs ≡ count) → length ys ≡ suc count
each_one (Ok y) (Ok zs) ys count e many =
    let same : y ∷ zs ≡ ys = cc e in
    sym (ap (λ l. length l) same) ∙ ap suc (many zs refl)
each_one (Ok y) (Err d) ys count e many = absurd (cc e)
each_one (Err d) rest ys count e many = absurd (cc e)

pub each-length : {A B : Type 0} (f : A → Result B ObjectFault) (xs : List A) (ys : List B) → each f xs ≡ Ok ys → length ys ≡ length xs
each-length f [] ys e = let same : [] ≡ ys = cc e in sym (ap (λ l. length l) same)
each-length f (x ∷ xs) ys e = each_one (f x) (each f xs) ys (length xs) e (λ zs g. each-length f xs zs g)
