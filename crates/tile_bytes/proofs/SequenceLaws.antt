-- A sequence that is read is the one that was written, and again.
use Rattle.std.proofs.Common.{◌≡◌, ℕ, zero, suc, ◌+◌, ◌*◌, ◌/◌, ◌%◌, ◌^◌, ◌<◌, ◌≤◌, true, false, ltb, leb, ◌&&◌, List, [], ◌∷◌, ◌++◌, length, drop, get_or, Ok, refl, sym, ap, subst, ◌∙◌, append_assoc, arith}
use Rattle.std.specs.Prelude.{bit_and}
use Rattle.std.proofs.lemmas.Bool.{ltb-true, lt-ltb, le-ltb, leb-true, le-leb, eqb-true, and_parts, and_from}
use Rattle.std.proofs.lemmas.List.{length-append}
use Rattle.std.proofs.lemmas.Nat.{and_le_r}
use Rattle.graph_id.specs.GraphId.{invalid}
use Rattle.section_grammar.specs.WordBytes.{IsByteList, word_in, words_in, word_bytes, words_bytes}
use Rattle.section_grammar.specs.Reads.{read_many, AllGood}
use Rattle.section_grammar.specs.Sections.{IsReader, FillsSection}
use Rattle.section_grammar.proofs.ByteLists.{IsByteList-drop}
use Rattle.section_grammar.proofs.WordLaws.{word_takes, word_again, word_after, word_length, words_again, words_bytes-length}
use Rattle.section_grammar.proofs.Sections.{filling_of}
use Rattle.tile_bytes.specs.declared.ids.LevelRule.{LevelRule}
use Rattle.tile_bytes.specs.declared.ids.LevelRule.TheVariants as rules
use Rattle.way_tags.specs.declared.modes.TheConstants.{VEHICLES}
use Rattle.tile_bytes.specs.declared.sequences.Sequence.{Sequence}
use Rattle.tile_bytes.specs.Items.{IsId, id_at}
use Rattle.tile_bytes.specs.Sequences.{sequence_bytes, sequence_passes, sequence_in, first_word_passes, sequence_at, IsTileSequence}
use Rattle.tile_bytes.proofs.IdLaws.{ids_section}
use Rattle.tile_bytes.proofs.SequenceSteps.{sequence_taken}

-- GraphIds are words
pub ids_below : (rule : LevelRule) (before ids : List ℕ) → AllGood (IsId rule) before ids → (i : ℕ) → get_or ids i 0 < 2 ^ 64
ids_below rule before [] h i = omega arith
ids_below rule before (x ∷ xs) h zero = (let valid : x < invalid = h.0.fits_so in omega arith)
ids_below rule before (x ∷ xs) h (suc i) = ids_below rule (before ++ x ∷ []) xs h.1 i

-- the words that spell GraphIds
ids_again : (rule : LevelRule) (ids rest : List ℕ) (n : ℕ) → AllGood (IsId rule) [] ids → length ids ≡ n → words_in n (words_bytes ids ++ rest) ≡ ids
ids_again rule ids rest n h len = ap (λ k. words_in k (words_bytes ids ++ rest)) (sym len) ∙ words_again ids rest (ids_below rule [] ids h)

abbrev with_edges_and : List ℕ → ℕ → Sequence
with_edges_and edges modes = record { edges = edges; modes = modes }

same_sequence : (edges edges' : List ℕ) (modes modes' : ℕ) → edges ≡ edges' → modes ≡ modes' → with_edges_and edges modes ≡ with_edges_and edges' modes'
same_sequence edges edges' modes modes' e f = rw (e, f) refl

sequence_takes : (end : ℕ) (before : List Sequence) (rest : List ℕ) (s : Sequence) (after : List ℕ) → IsByteList rest → sequence_at end before rest ≡ Ok (s, after) → IsTileSequence before s × (rest ≡ sequence_bytes s ++ after)
unfolding sequence_bytes
sequence_takes end before rest s after fits e =
    let t = sequence_taken end before rest s after e in
    let w = word_in rest in
    let found = (ids_section rules.Any 12 end).found (w % 2 ^ 16) (drop 8 rest) s.edges after (IsByteList-drop 8 rest fits) t.ids in
    let a = and_parts (ltb w (2 ^ 32) && leb (8 * (w % 2 ^ 16)) (length (drop 8 rest))) (sequence_passes before (sequence_in rest)) t.first in
    let b = and_parts (ltb w (2 ^ 32)) (leb (8 * (w % 2 ^ 16)) (length (drop 8 rest))) a.0 in
    let small : w < 2 ^ 32 = ltb-true _ _ b.0 in
    let len : length s.edges ≡ w % 2 ^ 16 = found.2 in
    let raw : words_in (w % 2 ^ 16) (drop 8 rest) ≡ s.edges = ap (words_in (w % 2 ^ 16)) found.1 ∙ ids_again rules.Any s.edges after (w % 2 ^ 16) found.0 len in
    let same : sequence_in rest ≡ s = same_sequence (words_in (w % 2 ^ 16) (drop 8 rest)) s.edges (w / 2 ^ 16 % 2 ^ 16) s.modes raw (sym t.modes) in
    let m = t.modes in
    let parts : w ≡ length s.edges + 2 ^ 16 * s.modes = omega arith in (
      record { fits_so = found.0; passes_so = ap (sequence_passes before) (sym same) ∙ a.1 },
      sym (word_takes rest fits t.long) ∙ ap (λ k. word_bytes k ++ drop 8 rest) parts ∙ ap (λ l. word_bytes (length s.edges + 2 ^ 16 * s.modes) ++ l) found.1
          ∙ sym (append_assoc (word_bytes (length s.edges + 2 ^ 16 * s.modes)) (words_bytes s.edges) after),
    )

-- the modes of a sequence are few, and so are its edges
few_modes : (before : List Sequence) (s : Sequence) → sequence_passes before s ≡ true → (s.modes ≤ 77) × (length s.edges ≤ 33)
few_modes before s e =
    let a = and_parts _ _ e in
    let b = and_parts _ _ a.0 in
    let d = and_parts _ _ b.0 in
    let f = and_parts _ _ d.0 in
    let within : bit_and s.modes VEHICLES ≡ s.modes = eqb-true _ _ b.1 in
    (subst (λ (n : ℕ). n ≤ 77) within (and_le_r s.modes VEHICLES), leb-true _ _ f.1)

made_again : (end : ℕ) (s : Sequence) (rest bytes : List ℕ) (w : ℕ) (before : List Sequence) → word_in bytes ≡ w → drop 8 bytes ≡ words_bytes s.edges ++ rest → ltb (length bytes) 8 ≡ false
    → w % 2 ^ 16 ≡ length s.edges → w / 2 ^ 16 % 2 ^ 16 ≡ s.modes → first_word_passes before bytes ≡ true
    → read_many (id_at rules.Any 12 end) (length s.edges) [] (words_bytes s.edges ++ rest) ≡ Ok (s.edges, rest) → sequence_at end before bytes ≡ Ok (s, rest)
unfolding sequence_at
made_again end s rest bytes w before is left long len modes passes ids =
    let count : word_in bytes % 2 ^ 16 ≡ length s.edges = ap (λ n. n % 2 ^ 16) is ∙ len in
    let which : word_in bytes / 2 ^ 16 % 2 ^ 16 ≡ s.modes = ap (λ n. n / 2 ^ 16 % 2 ^ 16) is ∙ modes in
    rw (long, passes, count, left, ids, which) refl

sequence_again : (end : ℕ) (before : List Sequence) (s : Sequence) (rest : List ℕ) → IsTileSequence before s → sequence_at end before (sequence_bytes s ++ rest) ≡ Ok (s, rest)
unfolding sequence_bytes
sequence_again end before s rest is =
    let n = length s.edges in
    let w = n + 2 ^ 16 * s.modes in
    let tail = words_bytes s.edges ++ rest in
    let bytes = word_bytes w ++ tail in
    let few = few_modes before s is.passes_so in
    let lm = few.0 in
    let ln = few.1 in
    let w-is : word_in bytes ≡ w = word_again w tail (omega arith) in
    let left : drop 8 bytes ≡ tail = word_after w tail in
    let long : ltb (length bytes) 8 ≡ false = le-ltb _ _ (omega (arith, length-append (word_bytes w) tail, word_length w)) in
    let len : w % 2 ^ 16 ≡ n = omega arith in
    let modes : w / 2 ^ 16 % 2 ^ 16 ≡ s.modes = omega arith in
    let count : word_in bytes % 2 ^ 16 ≡ n = ap (λ k. k % 2 ^ 16) w-is ∙ len in
    let which : word_in bytes / 2 ^ 16 % 2 ^ 16 ≡ s.modes = ap (λ k. k / 2 ^ 16 % 2 ^ 16) w-is ∙ modes in
    let raw : words_in (word_in bytes % 2 ^ 16) (drop 8 bytes) ≡ s.edges = ap (λ k. words_in k (drop 8 bytes)) count ∙ ap (words_in n) left ∙ ids_again rules.Any s.edges rest n is.fits_so refl in
    let same : sequence_in bytes ≡ s = same_sequence (words_in (word_in bytes % 2 ^ 16) (drop 8 bytes)) s.edges (word_in bytes / 2 ^ 16 % 2 ^ 16) s.modes raw which in
    let small : ltb (word_in bytes) (2 ^ 32) ≡ true = lt-ltb _ _ (omega arith) in
    let room : leb (8 * (word_in bytes % 2 ^ 16)) (length (drop 8 bytes)) ≡ true = le-leb _ _ (omega (arith, ap (λ (l : List ℕ). length l) left, length-append (words_bytes s.edges) rest, words_bytes-length s.edges)) in
    let passes : first_word_passes before bytes ≡ true =
    and_from (ltb (word_in bytes) (2 ^ 32) && leb (8 * (word_in bytes % 2 ^ 16)) (length (drop 8 bytes))) (sequence_passes before (sequence_in bytes))
    (and_from (ltb (word_in bytes) (2 ^ 32)) (leb (8 * (word_in bytes % 2 ^ 16)) (length (drop 8 bytes))) small room) (ap (sequence_passes before) same ∙ is.passes_so) in
    let ids = (ids_section rules.Any 12 end).spelled s.edges rest is.fits_so in
    ap (sequence_at end before) (append_assoc (word_bytes w) (words_bytes s.edges) rest) ∙ made_again end s rest bytes w before w-is left long len modes passes ids

pub sequence_some : (before : List Sequence) (s : Sequence) → IsTileSequence before s → 0 < length (sequence_bytes s)
unfolding sequence_bytes
sequence_some before s is = omega (arith, length-append (word_bytes (length s.edges + 2 ^ 16 * s.modes)) (words_bytes s.edges), word_length (length s.edges + 2 ^ 16 * s.modes))

pub sequences_reader : (end : ℕ) → IsReader (sequence_at end) sequence_bytes IsTileSequence
sequences_reader end = record { takes = sequence_takes end; again = sequence_again end }

pub sequences_filling : (end : ℕ) → FillsSection (sequence_at end) sequence_bytes IsTileSequence
sequences_filling end = filling_of (sequence_at end) sequence_bytes IsTileSequence (sequences_reader end) sequence_some
