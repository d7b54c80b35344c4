-- A chain that is read is the one that was written, and again.
use Rattle.std.proofs.Common.{◌≡◌, ℕ, ◌*◌, ◌^◌, ◌<◌, ◌≤◌, Bool, true, false, cond, ltb, ◌||◌, List, [], ◌++◌, length, drop, Ok, Err, refl, sym, ap, ◌∙◌, append_assoc, arith}
use Rattle.std.proofs.lemmas.Bool.{ltb-false, le-ltb, leb-true, le-leb}
use Rattle.std.proofs.lemmas.List.{length-append}
use Rattle.section_grammar.specs.WordBytes.{IsByteList, word_in, word_bytes, words_bytes}
use Rattle.section_grammar.specs.Reads.{read_many}
use Rattle.section_grammar.specs.Answers.{Check, place_of}
use Rattle.section_grammar.specs.Sections.{IsReader, IsSection}
use Rattle.section_grammar.proofs.ByteLists.{IsByteList-drop}
use Rattle.section_grammar.proofs.WordLaws.{word_takes, word_below, word_again, word_after, word_length, words_bytes-length}
use Rattle.section_grammar.proofs.Steps.{guard_ok}
use Rattle.section_grammar.proofs.Sections.{section_of}
use Rattle.tile_bytes.specs.declared.ids.LevelRule.TheVariants as rules
use Rattle.tile_bytes.specs.Items.{id_at}
use Rattle.tile_bytes.specs.Chains.{chain_bytes, IsTileChain, chain_at}
use Rattle.tile_bytes.proofs.IdLaws.{ids_section}

or_false : (x y : Bool) → (x || y) ≡ false → (x ≡ false) × (y ≡ false)
or_false true y e = absurd cc
or_false false y e = (refl, e)

chain_takes : (level end : ℕ) (before : List (List ℕ)) (rest : List ℕ) (x : List ℕ) (after : List ℕ) → IsByteList rest → chain_at level end before rest ≡ Ok (x, after) → IsTileChain level before x × (rest ≡ chain_bytes x ++ after)
unfolding chain_at chain_bytes
chain_takes level end before rest x after fits e =
    let bad = Check 11 (place_of end rest) in
    let w = word_in rest in
    let ids = read_many (id_at (rules.Only level) 11 end) w [] (drop 8 rest) in
    let tests = ltb w 2 || ltb (length (drop 8 rest)) (8 * w) in
    let a = guard_ok (ltb (length rest) 8) bad (cond tests (Err bad) ids) (x, after) e in
    let b = guard_ok tests bad ids (x, after) a.1 in
    let t = or_false (ltb w 2) (ltb (length (drop 8 rest)) (8 * w)) b.0 in
    let long : 8 ≤ length rest = ltb-false _ _ a.0 in
    let two : 2 ≤ w = ltb-false _ _ t.0 in
    let found = (ids_section (rules.Only level) 11 end).found w (drop 8 rest) x after (IsByteList-drop 8 rest fits) b.1 in
    let small = word_below rest fits in
    let n : length x ≡ w = found.2 in (
      record { fits_so = record { each = found.0; count_fits = omega arith }; passes_so = le-leb 2 (length x) (omega arith) },
      sym (word_takes rest fits long) ∙ ap (λ k. word_bytes k ++ drop 8 rest) (sym n) ∙ ap (λ l. word_bytes (length x) ++ l) found.1 ∙ sym (append_assoc (word_bytes (length x)) (words_bytes x) after),
    )

chain_again : (level end : ℕ) (before : List (List ℕ)) (x : List ℕ) (rest : List ℕ) → IsTileChain level before x → chain_at level end before (chain_bytes x ++ rest) ≡ Ok (x, rest)
unfolding chain_at chain_bytes
chain_again level end before x rest is =
    let n = length x in
    let tail = words_bytes x ++ rest in
    let count : n < 2 ^ 64 = is.fits_so.count_fits in
    let two : 2 ≤ n = leb-true 2 n is.passes_so in
    let regrouped : (word_bytes n ++ words_bytes x) ++ rest ≡ word_bytes n ++ tail = append_assoc (word_bytes n) (words_bytes x) rest in
    let w : word_in (word_bytes n ++ tail) ≡ n = word_again n tail count in
    let left : drop 8 (word_bytes n ++ tail) ≡ tail = word_after n tail in
    let long : ltb (length (word_bytes n ++ tail)) 8 ≡ false = le-ltb _ _ (omega (arith, length-append (word_bytes n) tail, word_length n)) in
    let few : ltb n 2 ≡ false = le-ltb _ _ two in
    let room : ltb (length tail) (8 * n) ≡ false = le-ltb _ _ (omega (arith, length-append (words_bytes x) rest, words_bytes-length x)) in
    let ids = (ids_section (rules.Only level) 11 end).spelled x rest is.fits_so.each in
    ap (chain_at level end before) regrouped ∙ rw (long, w, left, few, room) ids

pub chains_reader : (level end : ℕ) → IsReader (chain_at level end) chain_bytes (IsTileChain level)
chains_reader level end = record { takes = chain_takes level end; again = chain_again level end }

pub chains_section : (level end : ℕ) → IsSection (chain_at level end) chain_bytes (IsTileChain level)
chains_section level end = section_of (chain_at level end) chain_bytes (IsTileChain level) (chains_reader level end)
