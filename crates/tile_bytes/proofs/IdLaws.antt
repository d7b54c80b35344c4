-- A GraphId that is read is the one that was written, and again.
use Rattle.std.proofs.Common.{◌≡◌, ℕ, zero, suc, ◌<◌, ◌≤◌, true, false, cond, ltb, ◌&&◌, List, [], ◌∷◌, ◌++◌, length, drop, Ok, Err, refl, sym, ap, subst, ◌∙◌, arith}
use Rattle.std.proofs.lemmas.Bool.{ltb-false, ltb-true, lt-ltb, le-ltb, and_parts, and_from}
use Rattle.std.proofs.lemmas.List.{length-append, length-drop}
use Rattle.graph_id.specs.GraphId.{level_of, invalid}
use Rattle.section_grammar.specs.WordBytes.{IsByteList, word_in, word_bytes}
use Rattle.section_grammar.specs.Reads.{read_many}
use Rattle.section_grammar.specs.Answers.{FailedCheck, Check, place_of}
use Rattle.section_grammar.specs.Sections.{IsReader, IsSection}
use Rattle.section_grammar.proofs.WordLaws.{word_takes, word_again, word_after, word_length}
use Rattle.section_grammar.proofs.Steps.{bind_ok, guard_ok, passed_ok, ok_is}
use Rattle.section_grammar.proofs.Sections.{section_of}
use Rattle.tile_bytes.specs.declared.ids.LevelRule.{LevelRule}
use Rattle.tile_bytes.specs.Items.{allows, IsId, id_at}

pub record IdTaken (rule : LevelRule) (rest : List ℕ) (x : ℕ) (after : List ℕ) : Type 0 where
  pub long : 8 ≤ length rest
  pub word : word_in rest ≡ x
  pub left : drop 8 rest ≡ after
  pub valid : x < invalid
  pub allowed : allows rule (level_of x) ≡ true

pub id_taken : (rule : LevelRule) (check end : ℕ) (before : List ℕ) (rest : List ℕ) (x : ℕ) (after : List ℕ) → id_at rule check end before rest ≡ Ok (x, after) → IdTaken rule rest x after
unfolding id_at
id_taken rule check end before rest x after e =
    let bad = Check check (place_of end rest) in
    let w = word_in rest in
    let test = ltb w invalid && allows rule (level_of w) in
    let a = guard_ok (ltb (length rest) 8) bad (cond test (Ok (w, drop 8 rest)) (Err bad)) (x, after) e in
    let b = passed_ok test bad (Ok (w, drop 8 rest)) (x, after) a.1 in
    let t = and_parts (ltb w invalid) (allows rule (level_of w)) b.0 in
    let same = ok_is {F = FailedCheck} (w, drop 8 rest) (x, after) b.1 in
    let word : w ≡ x = ap (λ (p : ℕ × List ℕ). p.0) same in
    record {
      long = ltb-false _ _ a.0;
      word = word;
      left = ap (λ (p : ℕ × List ℕ). p.1) same;
      valid = subst (λ (n : ℕ). n < invalid) word (ltb-true _ _ t.0);
      allowed = subst (λ (n : ℕ). allows rule (level_of n) ≡ true) word t.1;
    }

id_takes : (rule : LevelRule) (check end : ℕ) (before : List ℕ) (rest : List ℕ) (x : ℕ) (after : List ℕ) → IsByteList rest → id_at rule check end before rest ≡ Ok (x, after) → IsId rule before x × (rest ≡ word_bytes x ++ after)
id_takes rule check end before rest x after fits e =
    let t = id_taken rule check end before rest x after e in (
      record { fits_so = t.valid; passes_so = t.allowed },
      sym (word_takes rest fits t.long) ∙ ap (λ n. word_bytes n ++ drop 8 rest) t.word ∙ ap (λ l. word_bytes x ++ l) t.left,
    )

id_again : (rule : LevelRule) (check end : ℕ) (before : List ℕ) (x : ℕ) (rest : List ℕ) → IsId rule before x → id_at rule check end before (word_bytes x ++ rest) ≡ Ok (x, rest)
unfolding id_at
id_again rule check end before x rest is =
    let valid : x < invalid = is.fits_so in
    let w : word_in (word_bytes x ++ rest) ≡ x = word_again x rest (omega arith) in
    let long : ltb (length (word_bytes x ++ rest)) 8 ≡ false = le-ltb _ _ (omega (arith, length-append (word_bytes x) rest, word_length x)) in
    let test : (ltb x invalid && allows rule (level_of x)) ≡ true = and_from _ _ (lt-ltb _ _ valid) is.passes_so in
    rw (long, w, test, word_after x rest) refl

pub ids_reader : (rule : LevelRule) (check end : ℕ) → IsReader (id_at rule check end) word_bytes (IsId rule)
ids_reader rule check end = record { takes = id_takes rule check end; again = id_again rule check end }

pub ids_section : (rule : LevelRule) (check end : ℕ) → IsSection (id_at rule check end) word_bytes (IsId rule)
ids_section rule check end = section_of (id_at rule check end) word_bytes (IsId rule) (ids_reader rule check end)

-- GraphIds that were read leave no more bytes than there were
pub ids_left : (rule : LevelRule) (check end n : ℕ) (before : List ℕ) (rest : List ℕ) (all : List ℕ) (after : List ℕ) → read_many (id_at rule check end) n before rest ≡ Ok (all, after) → length after ≤ length rest
unfolding read_many
ids_left rule check end zero before rest all after e =
    let same = ok_is {F = FailedCheck} (before, rest) (all, after) e in
    omega (arith, ap (λ (p : List ℕ × List ℕ). length p.1) same)
ids_left rule check end (suc n) before rest all after e =
    let a = bind_ok (id_at rule check end before rest) (λ x. read_many (id_at rule check end) n (before ++ x.0 ∷ []) x.1) (all, after) e in
    let t = id_taken rule check end before rest a.0.0 a.0.1 a.1 in
    let more = ids_left rule check end n (before ++ a.0.0 ∷ []) a.0.1 all after a.2 in
    omega (arith, length-drop 8 rest, ap (λ (l : List ℕ). length l) t.left)
