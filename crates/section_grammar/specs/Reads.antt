-- Reading items one after the other from the front of some bytes, up to the first that fails. `F` is what a failure says.
use Rattle.std.specs.Prelude.{ℕ, zero, suc, List, [], ◌∷◌, ◌++◌, Result, Ok, Err}

-- a step, and what follows where it did not fail
infixl 10 ◌>>=◌
abbrev pub ◌>>=◌ : {A B F : Type 0} → Result A F → (A → Result B F) → Result B F
(Ok x) >>= f = f x
(Err failure) >>= f = Err failure

-- Reads so many items. `item` says what the rest begins with, behind the items that stand before it.
unfoldable pub read_many : {A F : Type 0} → (List A → List ℕ → Result (A × List ℕ) F) → ℕ → List A → List ℕ → Result (List A × List ℕ) F
read_many item zero before rest = Ok (before, rest)
read_many item (suc n) before rest = item before rest >>= λ x. read_many item n (before ++ x.0 ∷ []) x.1

-- Reads items until nothing is left. The number is no less than that of the bytes: an item has at least one.
unfoldable pub read_all : {A F : Type 0} → (List A → List ℕ → Result (A × List ℕ) F) → ℕ → List A → List ℕ → Result (List A) F
read_all item limit before [] = Ok before
read_all item zero before (byte ∷ bytes) = Ok before
read_all item (suc limit) before (byte ∷ bytes) = item before (byte ∷ bytes) >>= λ x. read_all item limit (before ++ x.0 ∷ []) x.1

-- each of them is good behind those before it
abbrev pub AllGood : {A : Type 0} → (List A → A → Type 0) → List A → List A → Type 0
AllGood good before [] = Unit {0}
AllGood good before (x ∷ xs) = good before x × AllGood good (before ++ x ∷ []) xs
