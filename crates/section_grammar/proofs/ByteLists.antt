-- Parts of lists of bytes.
use Rattle.std.proofs.Common.{◌≡◌, ℕ, ◌+◌, List, ◌++◌, length, take, drop, refl, ap, ◌∙◌, arith, inl, inr}
use Rattle.std.proofs.lemmas.Bool.{cases_lt}
use Rattle.std.proofs.lemmas.List.{drop_at, length-take, get_or-drop, get_or-take, get_or_past}
use Rattle.section_grammar.specs.WordBytes.{IsByteList}

pub IsByteList-drop : (n : ℕ) (bytes : List ℕ) → IsByteList bytes → IsByteList (drop n bytes)
IsByteList-drop n bytes h i = rw get_or-drop (h (n + i))

pub IsByteList-take : (n : ℕ) (bytes : List ℕ) → IsByteList bytes → IsByteList (take n bytes)
IsByteList-take n bytes h i =
    elim (cases_lt i n) [
      | inl lt ↦ rw (get_or-take n bytes i 0 lt) (h i)
      | inr le ↦ rw (get_or_past (take n bytes) i 0 (omega (arith, length-take n bytes))) (omega arith)
    ]

pub IsByteList-rest : (bytes front rest : List ℕ) → IsByteList bytes → bytes ≡ front ++ rest → IsByteList rest
IsByteList-rest bytes front rest h e =
    let d : drop (length front) bytes ≡ rest = ap (drop (length front)) e ∙ drop_at front rest (length front) refl in
    rw (← d) (IsByteList-drop (length front) bytes h)
