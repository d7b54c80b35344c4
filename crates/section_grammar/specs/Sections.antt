-- Reading undoes spelling, for items of one kind, and what is read is spelled so.
use Rattle.std.specs.Prelude.{◌≡◌, ℕ, ◌≤◌, List, [], ◌++◌, length, Result, Ok}
use Rattle.std.specs.List.{flat_map}
use Rattle.section_grammar.specs.WordBytes.{IsByteList}
use Rattle.section_grammar.specs.Reads.{read_many, read_all, AllGood}

-- one item: what is read is good and spelled so, and a good one is read again, whatever follows it
pub record IsReader {A F : Type 0} (item : List A → List ℕ → Result (A × List ℕ) F) (spell : A → List ℕ) (good : List A → A → Type 0) : Type 0 where
  pub takes : (before : List A) (rest : List ℕ) (x : A) (after : List ℕ) → IsByteList rest → item before rest ≡ Ok (x, after) → good before x × (rest ≡ spell x ++ after)
  pub again : (before : List A) (x : A) (rest : List ℕ) → good before x → item before (spell x ++ rest) ≡ Ok (x, rest)

-- so many items, and what follows them
pub record IsSection {A F : Type 0} (item : List A → List ℕ → Result (A × List ℕ) F) (spell : A → List ℕ) (good : List A → A → Type 0) : Type 0 where
  pub found : (n : ℕ) (rest : List ℕ) (all : List A) (after : List ℕ) → IsByteList rest → read_many item n [] rest ≡ Ok (all, after) → AllGood good [] all × (rest ≡ flat_map spell all ++ after) × (length all ≡ n)
  pub spelled : (all : List A) (after : List ℕ) → AllGood good [] all → read_many item (length all) [] (flat_map spell all ++ after) ≡ Ok (all, after)

-- items that fill some bytes
pub record FillsSection {A F : Type 0} (item : List A → List ℕ → Result (A × List ℕ) F) (spell : A → List ℕ) (good : List A → A → Type 0) : Type 0 where
  pub filled : (limit : ℕ) (rest : List ℕ) (all : List A) → IsByteList rest → length rest ≤ limit → read_all item limit [] rest ≡ Ok all → AllGood good [] all × (rest ≡ flat_map spell all)
  pub refilled : (limit : ℕ) (all : List A) → AllGood good [] all → length (flat_map spell all) ≤ limit → read_all item limit [] (flat_map spell all) ≡ Ok all
