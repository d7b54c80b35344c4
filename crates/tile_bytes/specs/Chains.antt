-- The chain section: for each shortcut the base edges of its chain.
use Rattle.std.specs.Prelude.{ℕ, ◌+◌, ◌*◌, ◌^◌, ◌<◌, nat_lt, nat_le, ◌==◌, ◌||◌, Bool, List, [], ◌∷◌, ◌++◌, length, drop, slice_index, Result, Ok, Err, if◌then◌else◌}
use Rattle.tile_records.specs.Edges.{EdgeFields}
use Rattle.section_grammar.specs.WordBytes.{word_in, word_bytes, words_bytes}
use Rattle.section_grammar.specs.Reads.{◌>>=◌, read_many, AllGood}
use Rattle.section_grammar.specs.Answers.{FailedCheck, Check, place_of, ended}
use Rattle.tile_bytes.specs.declared.ids.LevelRule.TheVariants as rules
use Rattle.tile_bytes.specs.Items.{IsNext, IsId, id_at}

-- the number of the edges, and their GraphIds
unfoldable pub chain_bytes : List ℕ → List ℕ
chain_bytes ids = word_bytes (length ids) ++ words_bytes ids

-- the words of these chains
abbrev pub words_of_chains : List (List ℕ) → ℕ
words_of_chains [] = 0
words_of_chains (ids ∷ chains) = 1 + length ids + words_of_chains chains

-- GraphIds of edges of one level
pub record AreIds (level : ℕ) (ids : List ℕ) : Type 0 where
  pub each : AllGood (IsId (rules.Only level)) [] ids
  pub count_fits : length ids < 2 ^ 64

-- a chain has two edges or more
abbrev pub chain_passes : List (List ℕ) → List ℕ → Bool
chain_passes before ids = nat_le 2 (length ids)

abbrev pub IsTileChain : ℕ → List (List ℕ) → List ℕ → Type 0
IsTileChain level = IsNext (AreIds level) chain_passes

-- The next chain. Where its number is below 2 or runs past the section, that is the place; then each GraphId is looked at.
unfoldable pub chain_at : ℕ → ℕ → List (List ℕ) → List ℕ → Result (List ℕ × List ℕ) FailedCheck
chain_at level end before rest =
    if nat_lt (length rest) 8 then Err (Check 11 (place_of end rest)) else
    if nat_lt (word_in rest) 2 || nat_lt (length (drop 8 rest)) (8 * word_in rest) then Err (Check 11 (place_of end rest))
    else read_many (id_at (rules.Only level) 11 end) (word_in rest) [] (drop 8 rest)

-- so many chains, which fill the section
unfoldable pub chains_at : ℕ → ℕ → ℕ → List ℕ → Result (List (List ℕ)) FailedCheck
chains_at level end count rest = read_many (chain_at level end) count [] rest >>= λ x. ended 11 end x.0 x.1

-- what the shortcuts among these edges say of where their chains begin
abbrev pub named_chains : List EdgeFields → List ℕ
named_chains [] = []
named_chains (e ∷ es) = if e.shortcut then e.chain ∷ named_chains es else named_chains es

-- the word offsets of chains of which the first begins at this one
abbrev pub chain_offsets : ℕ → List (List ℕ) → List ℕ
chain_offsets offset [] = []
chain_offsets offset (ids ∷ chains) = offset ∷ chain_offsets (offset + (1 + length ids)) chains

-- the first edge whose chain begins elsewhere; the first edge stands at this place
unfoldable pub offsets_at : ℕ → List EdgeFields → List ℕ → Result (Unit {0}) FailedCheck
offsets_at at [] offsets = Ok tt
offsets_at at (e ∷ es) offsets =
    if e.shortcut
    then (if e.chain == slice_index offsets 0 then offsets_at (at + 32) es (drop 1 offsets) else Err (Check 11 at))
    else offsets_at (at + 32) es offsets
