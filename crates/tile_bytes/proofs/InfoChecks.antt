-- The first entry, edge without an entry, text or byte of the padding that fails.
use Rattle.std.proofs.Common.{◌≡◌, ℕ, suc, ◌+◌, ◌-◌, ◌*◌, ◌≤◌, Bool, true, false, cond, List, [], ◌∷◌, ◌++◌, length, replicate, Result, Ok, Err, refl, sym, ap, ◌∙◌, arith}
use Rattle.std.specs.Prelude.{All}
use Rattle.std.proofs.lemmas.List.{length-append, length-replicate}
use Rattle.std.proofs.lemmas.List.Elements.{All-nil, All-cons, All-head, All-tail}
use Rattle.tile_records.specs.Edges.{EdgeFields}
use Rattle.section_grammar.specs.Answers.{FailedCheck, Check}
use Rattle.section_grammar.specs.FirstFailing.{FailsFrom}
use Rattle.section_grammar.proofs.Tells.{Tells}
use Rattle.edge_info.specs.Entries.{infos_bytes}
use Rattle.edge_info.specs.Texts.{texts_bytes}
use Rattle.edge_info.specs.Checks.{EntryFails, TextFails, PaddingFails}
use Rattle.tile_bytes.specs.Tiles.{has_entry}
use Rattle.tile_bytes.specs.TileReading.{edge_entries_at}
use Rattle.tile_bytes.specs.TileChecks.{EntryMissing}
use Rattle.tile_bytes.proofs.InfoSections.{HasEntry}

-- ---- what fails lies in its section

pub entry_within : (count : ℕ) (section : List ℕ) (at : ℕ) → EntryFails count section at → at ≤ length section
entry_within count section at f = omega (arith, ap length f.spelled, length-append (infos_bytes f.front) f.left, f.here)

pub text_within : (names : List ℕ) (count : ℕ) (section : List ℕ) (at : ℕ) → TextFails names count section at → at ≤ length section
text_within names count section at f = omega (arith, ap length f.spelled, length-append (texts_bytes f.front) f.left, f.here)

pub padding_within : (bytes : List ℕ) (at : ℕ) → PaddingFails bytes at → at ≤ length bytes
padding_within bytes at f = omega (arith, ap length f.spelled, length-append (replicate at 0) (f.byte ∷ f.after), length-replicate {A = ℕ} at 0)

-- ---- edges without an entry

abbrev EntryFault : ℕ → List ℕ → List EdgeFields → FailedCheck → Type 0
EntryFault at starts es d = (o : ℕ) × EntryMissing starts es o × (d ≡ Check 14 (at + o))

err_is : (d d' : FailedCheck) → ◌≡◌ {A = Result (Unit {0}) FailedCheck} (Err d) (Err d') → d ≡ d'
err_is d d' e = cc

later_missing : (at : ℕ) (starts : List ℕ) (e : EdgeFields) (es : List EdgeFields) (d : FailedCheck) → has_entry starts e ≡ true → EntryFault (at + 32) starts es d → EntryFault at starts (e ∷ es) d
later_missing at starts e es d has m =
    let place : at + 32 + m.0 ≡ at + (32 + m.0) = omega arith in (
      32 + m.0,
      record {
        front = e ∷ m.1.front;
        edge = m.1.edge;
        back = m.1.back;
        edges_are = ap (λ l. e ∷ l) m.1.edges_are;
        have = All-cons (HasEntry starts) e m.1.front has m.1.have;
        lacks = m.1.lacks;
        here = (let h = m.1.here in omega (arith, h));
      },
      m.2 ∙ ap (λ n. Check 14 n) place,
    )

missing_told : (at : ℕ) (starts : List ℕ) (es : List EdgeFields) (d : FailedCheck) → edge_entries_at at starts es ≡ Err d → EntryFault at starts es d
unfolding edge_entries_at
missing_told at starts [] d h = absurd cc
missing_told at starts (e ∷ es) d h =
    (elim (has_entry starts e) as (λ b. has_entry starts e ≡ b → cond b (edge_entries_at (at + 32) starts es) (Err (Check 14 at)) ≡ Err d → EntryFault at starts (e ∷ es) d) [
      | true ↦ λ t k. later_missing at starts e es d t (missing_told (at + 32) starts es d k)
      | false ↦ λ t k.
          (let place : at ≡ at + 0 = omega arith in
          (0, record { front = []; edge = e; back = es; edges_are = refl; have = All-nil (HasEntry starts); lacks = t; here = refl }, sym (err_is (Check 14 at) d k) ∙ ap (λ n. Check 14 n) place))
    ]) refl h

missing_so : (at : ℕ) (starts : List ℕ) (front : List EdgeFields) (edge : EdgeFields) (back : List EdgeFields) → All (HasEntry starts) front → has_entry starts edge ≡ false
    → edge_entries_at at starts (front ++ edge ∷ back) ≡ Err (Check 14 (at + 32 * length front))
unfolding edge_entries_at
missing_so at starts [] edge back have lacks =
    let place : at ≡ at + 32 * 0 = omega arith in
    ap (λ b. cond b (edge_entries_at (at + 32) starts back) (Err (Check 14 at))) lacks ∙ ap (λ n. Err (Check 14 n)) place
missing_so at starts (e ∷ es) edge back have lacks =
    let more = missing_so (at + 32) starts es edge back (All-tail (HasEntry starts) e es have) lacks in
    let place : at + 32 + 32 * length es ≡ at + 32 * suc (length es) = omega arith in
    ap (λ b. cond b (edge_entries_at (at + 32) starts (es ++ edge ∷ back)) (Err (Check 14 at))) (All-head (HasEntry starts) e es have) ∙ more ∙ ap (λ n. Err (Check 14 n)) place

pub entries_tell : (at : ℕ) (starts : List ℕ) (es : List EdgeFields) → Tells 14 (FailsFrom at (EntryMissing starts es)) (edge_entries_at at starts es)
entries_tell at starts es = record {
  told = λ d e. (let t = missing_told at starts es d e in (at + t.0, record { offset = t.0; fails_so = t.1; here = refl }, t.2));
  so = λ place g.
      let f = g.fails_so in
      let there : at + 32 * length f.front ≡ place = omega (arith, f.here, g.here) in
      ap (edge_entries_at at starts) f.edges_are ∙ missing_so at starts f.front f.edge f.back f.have f.lacks ∙ ap (λ n. Err (Check 14 n)) there;
}
