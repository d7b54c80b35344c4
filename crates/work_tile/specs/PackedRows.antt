-- Rows of one number of words each, one after the other in a list of words.
use Rattle.std.specs.Prelude.{ℕ, zero, suc, List, [], ◌∷◌, take, drop}

-- the first rows in the words, as many as said, each of `width` words and read by `read`
unfoldable pub packed_rows : {X : Type 0} → (List ℕ → X) → ℕ → ℕ → List ℕ → List X
packed_rows read width zero words = []
packed_rows read width (suc count) words = read (take width words) ∷ packed_rows read width count (drop width words)
