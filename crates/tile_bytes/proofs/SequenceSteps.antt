-- A sequence at the front, read.
use Rattle.std.proofs.Common.{◌≡◌, ℕ, ◌/◌, ◌%◌, ◌^◌, ◌≤◌, true, cond, ltb, List, [], length, drop, Result, Ok, Err, sym, ap, ◌∙◌, arith}
use Rattle.std.proofs.lemmas.Bool.{ltb-false}
use Rattle.std.proofs.lemmas.List.{length-drop}
use Rattle.section_grammar.specs.WordBytes.{word_in}
use Rattle.section_grammar.specs.Reads.{◌>>=◌, read_many}
use Rattle.section_grammar.specs.Answers.{FailedCheck, Check, place_of}
use Rattle.section_grammar.proofs.Steps.{bind_ok, guard_ok, passed_ok, ok_is, Shrinks}
use Rattle.tile_bytes.specs.declared.ids.LevelRule.TheVariants as rules
use Rattle.tile_bytes.specs.declared.sequences.Sequence.{Sequence}
use Rattle.tile_bytes.specs.Items.{id_at}
use Rattle.tile_bytes.specs.Sequences.{first_word_passes, sequence_at}
use Rattle.tile_bytes.proofs.IdLaws.{ids_left}

-- the sequence of these edges with the modes that the bytes say
abbrev pub made_of : List ℕ → List ℕ × List ℕ → Result (Sequence × List ℕ) FailedCheck
made_of rest x = Ok (record { edges = x.0; modes = word_in rest / 2 ^ 16 % 2 ^ 16 }, x.1)

pub record SequenceTaken (end : ℕ) (before : List Sequence) (rest : List ℕ) (s : Sequence) (after : List ℕ) : Type 0 where
  pub long : 8 ≤ length rest
  pub first : first_word_passes before rest ≡ true
  pub ids : read_many (id_at rules.Any 12 end) (word_in rest % 2 ^ 16) [] (drop 8 rest) ≡ Ok (s.edges, after)
  pub modes : s.modes ≡ word_in rest / 2 ^ 16 % 2 ^ 16

pub sequence_taken : (end : ℕ) (before : List Sequence) (rest : List ℕ) (s : Sequence) (after : List ℕ) → sequence_at end before rest ≡ Ok (s, after) → SequenceTaken end before rest s after
unfolding sequence_at
sequence_taken end before rest s after e =
    let bad = Check 12 (place_of end rest) in
    let ids = read_many (id_at rules.Any 12 end) (word_in rest % 2 ^ 16) [] (drop 8 rest) in
    let a = guard_ok (ltb (length rest) 8) bad (cond (first_word_passes before rest) (ids >>= made_of rest) (Err bad)) (s, after) e in
    let b = passed_ok (first_word_passes before rest) bad (ids >>= made_of rest) (s, after) a.1 in
    let d = bind_ok ids (made_of rest) (s, after) b.1 in
    let made : Sequence = record { edges = d.0.0; modes = word_in rest / 2 ^ 16 % 2 ^ 16 } in
    let same = ok_is {F = FailedCheck} (made, d.0.1) (s, after) d.2 in
    record {
      long = ltb-false _ _ a.0;
      first = b.0;
      ids = d.1 ∙ ap (λ (p : Sequence × List ℕ). Ok (p.0.edges, p.1)) same;
      modes = sym (ap (λ (p : Sequence × List ℕ). p.0.modes) same);
    }

pub sequences_shrink : (end : ℕ) → Shrinks (sequence_at end)
sequences_shrink end = λ before rest s after e.
    let t = sequence_taken end before rest s after e in
    omega (arith, t.long, length-drop 8 rest, ids_left rules.Any 12 end (word_in rest % 2 ^ 16) [] (drop 8 rest) s.edges after t.ids)
