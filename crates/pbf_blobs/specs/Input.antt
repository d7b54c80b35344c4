-- Reading a number of bytes from a host's input, in whatever pieces it gives them.
use Rattle.std.specs.Prelude.{◌≡◌, ℕ, List, ◌++◌, length, take, drop, Some}
use Rattle.host_port.specs.Told.{Told}

-- the fact holds of the bytes that are left of the input, where they are told
abbrev pub OfRest : Told → (List ℕ → Type 0) → Type 0
OfRest told fact = (input : List ℕ) (place : ℕ) → told.input ≡ Some input → told.place ≡ Some place → fact (drop place input)

-- The first n bytes of the buffer are all bytes that are left and that it has room for.
abbrev pub Fills : Told → ℕ → List ℕ → Type 0
Fills told n buf = OfRest told (λ rest. take n buf ≡ take (length buf) rest)

-- These are the front and the next bytes of the input: so many, or all up to its end.
abbrev pub Extends : Told → List ℕ → ℕ → List ℕ → Type 0
Extends told front left bytes = OfRest told (λ rest. bytes ≡ front ++ take left rest)
