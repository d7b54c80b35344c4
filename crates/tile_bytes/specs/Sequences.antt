-- The sequence section: lists of edges that may not be travelled one after the other, with the modes that may not.
use Rattle.std.specs.Prelude.{ℕ, ◌+◌, ◌*◌, ◌/◌, ◌%◌, ◌^◌, nat_lt, nat_le, ◌&&◌, ◌||◌, Bool, List, [], ◌∷◌, ◌++◌, length, drop, Result, Ok, Err, if◌then◌else◌}
use Rattle.std.specs.Cmp.Lexicographic.{slice_cmp}
use Rattle.std.specs.Ordering.{nat_cmp, is_lt, is_eq}
use Rattle.section_grammar.specs.WordBytes.{word_in, words_in, word_bytes, words_bytes}
use Rattle.section_grammar.specs.Reads.{◌>>=◌, read_many, read_all, AllGood}
use Rattle.section_grammar.specs.Answers.{FailedCheck, Check, place_of}
use Rattle.way_tags.specs.declared.modes.TheConstants.{VEHICLES}
use Rattle.tile_bytes.specs.declared.sequences.TheConstants.{FEWEST_EDGES, MOST_EDGES}
use Rattle.tile_bytes.specs.declared.sequences.Sequence.{Sequence}
use Rattle.tile_bytes.specs.declared.ids.LevelRule.TheVariants as rules
use Rattle.tile_bytes.specs.Modes.{is_within}
use Rattle.tile_bytes.specs.Items.{rises, IsNext, IsId, id_at}

-- a word with the number of the edges in bits 0 to 15 and the modes in bits 16 to 31, and the GraphIds of the edges
unfoldable pub sequence_bytes : Sequence → List ℕ
sequence_bytes s = word_bytes (length s.edges + 2 ^ 16 * s.modes) ++ words_bytes s.edges

-- the words of these sequences
abbrev pub words_of_sequences : List Sequence → ℕ
words_of_sequences [] = 0
words_of_sequences (s ∷ sequences) = 1 + length s.edges + words_of_sequences sequences

-- by the lists of GraphIds, number by number, a prefix first; then by the modes
abbrev pub sequence_less : Sequence → Sequence → Bool
sequence_less a b = is_lt (slice_cmp nat_cmp a.edges b.edges) || (is_eq (slice_cmp nat_cmp a.edges b.edges) && nat_lt a.modes b.modes)

-- 2 to 33 edges, modes that are those of vehicles, and above the sequence before
abbrev pub sequence_passes : List Sequence → Sequence → Bool
sequence_passes before s =
    nat_le FEWEST_EDGES (length s.edges)
    && nat_le (length s.edges) MOST_EDGES
    && nat_lt 0 s.modes
    && is_within s.modes VEHICLES
    && rises sequence_less before s

-- its edges are GraphIds
abbrev pub HasIds : Sequence → Type 0
HasIds s = AllGood (IsId rules.Any) [] s.edges

abbrev pub IsTileSequence : List Sequence → Sequence → Type 0
IsTileSequence = IsNext HasIds sequence_passes

-- what the bytes begin with: a sequence with as many of the words behind its first word as that says
abbrev pub sequence_in : List ℕ → Sequence
sequence_in rest = record { edges = words_in (word_in rest % 2 ^ 16) (drop 8 rest); modes = word_in rest / 2 ^ 16 % 2 ^ 16 }

-- the first word of a sequence: no spare bit, no word past the section, and the sequence passes
abbrev pub first_word_passes : List Sequence → List ℕ → Bool
first_word_passes before rest =
    nat_lt (word_in rest) (2 ^ 32)
    && nat_le (8 * (word_in rest % 2 ^ 16)) (length (drop 8 rest))
    && sequence_passes before (sequence_in rest)

-- the next sequence; all but a bad GraphId is at its first word
unfoldable pub sequence_at : ℕ → List Sequence → List ℕ → Result (Sequence × List ℕ) FailedCheck
sequence_at end before rest =
    if nat_lt (length rest) 8 then Err (Check 12 (place_of end rest)) else
    if first_word_passes before rest
    then (read_many (id_at rules.Any 12 end) (word_in rest % 2 ^ 16) [] (drop 8 rest) >>= λ x. Ok (record { edges = x.0; modes = word_in rest / 2 ^ 16 % 2 ^ 16 }, x.1))
    else Err (Check 12 (place_of end rest))

-- the sequences that fill a section
abbrev pub sequences_at : ℕ → List ℕ → Result (List Sequence) FailedCheck
sequences_at end rest = read_all (sequence_at end) (length rest) [] rest
