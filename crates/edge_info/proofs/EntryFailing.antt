-- The first entry that fails.
use Rattle.std.proofs.Common.{◌≡◌, ℕ, ◌-◌, ◌≤◌, cond, ltb, leb, List, [], ◌++◌, length, drop, Result, Ok, Err, refl, sym, ap, ◌∙◌, arith}
use Rattle.std.proofs.lemmas.List.{length-append}
use Rattle.fixed_geo.specs.declared.points.Point.{Point}
use Rattle.section_grammar.specs.WordBytes.{IsByteList, half_in}
use Rattle.section_grammar.specs.Reads.{◌>>=◌, read_many, read_all}
use Rattle.section_grammar.specs.Answers.{FailedCheck, Check}
use Rattle.section_grammar.proofs.ByteLists.{IsByteList-rest}
use Rattle.edge_info.specs.declared.infos.Info.{Info}
use Rattle.edge_info.specs.Entries.{info_bytes, infos_bytes, key_rises, InfoGood}
use Rattle.edge_info.specs.EntryReading.{bad_entry, key_in, key_at, point_in, is_place, point_at, name_at, counted_at, entry_at, entries_at}
use Rattle.edge_info.specs.Checks.{EntryFails}
use Rattle.section_grammar.proofs.Failing.{OnlyFails, only_bind, only_test, only_many, says, all_fails, all_fails_again}
use Rattle.edge_info.proofs.EntryLaws.{entry_reader, entry_some}

point_says : (bad : FailedCheck) (before : List Point) (rest : List ℕ) → OnlyFails bad (point_at bad before rest)
unfolding point_at
point_says bad before rest = only_test bad (ltb (length rest) 8) (Err bad) (cond (is_place (point_in rest)) (Ok (point_in rest, drop 4 (drop 4 rest))) (Err bad)) refl (only_test bad (is_place (point_in rest)) (Ok (point_in rest, drop 4 (drop 4 rest))) (Err bad) tt refl)

name_says : (bad : FailedCheck) (count : ℕ) (before : List ℕ) (rest : List ℕ) → OnlyFails bad (name_at bad count before rest)
unfolding name_at
name_says bad count before rest = only_test bad (ltb (length rest) 4) (Err bad) (cond (ltb (half_in rest) count) (Ok (half_in rest, drop 4 rest)) (Err bad)) refl (only_test bad (ltb (half_in rest) count) (Ok (half_in rest, drop 4 rest)) (Err bad) tt refl)

key_says : (bad : FailedCheck) (before : List Info) (rest : List ℕ) → OnlyFails bad (key_at bad before rest)
unfolding key_at
key_says bad before rest = only_test bad (ltb (length rest) 16) (Err bad) (cond (key_rises before (key_in rest)) (Ok (key_in rest, drop 4 (drop 4 (drop 8 rest)))) (Err bad)) refl (only_test bad (key_rises before (key_in rest)) (Ok (key_in rest, drop 4 (drop 4 (drop 8 rest)))) (Err bad) tt refl)

counted_says : {A : Type 0} (bad : FailedCheck) (least : ℕ) (item : List A → List ℕ → Result (A × List ℕ) FailedCheck) → ((before : List A) (rest : List ℕ) → OnlyFails bad (item before rest)) → (rest : List ℕ) → OnlyFails bad (counted_at bad least item rest)
unfolding counted_at
counted_says bad least item h rest = only_test bad (ltb (length rest) 4) (Err bad) (cond (leb least (half_in rest)) (read_many item (half_in rest) [] (drop 4 rest)) (Err bad)) refl (only_test bad (leb least (half_in rest)) (read_many item (half_in rest) [] (drop 4 rest)) (Err bad) (only_many bad item h (half_in rest) [] (drop 4 rest)) refl)

entry_says : (end count : ℕ) (before : List Info) (rest : List ℕ) → OnlyFails (bad_entry end rest) (entry_at end count before rest)
unfolding entry_at
entry_says end count before rest =
    let bad = bad_entry end rest in
    only_bind bad (key_at bad before rest) (λ key. counted_at bad 2 (point_at bad) key.1 >>= λ points. counted_at bad 0 (name_at bad count) points.1 >>= λ names. Ok (record { key = key.0; shape = points.0; texts = names.0 }, names.1)) (key_says bad before rest)
    (λ key. only_bind bad (counted_at bad 2 (point_at bad) key.1) (λ points. counted_at bad 0 (name_at bad count) points.1 >>= λ names. Ok (record { key = key.0; shape = points.0; texts = names.0 }, names.1)) (counted_says bad 2 (point_at bad) (point_says bad) key.1)
    (λ points. only_bind bad (counted_at bad 0 (name_at bad count) points.1) (λ names. Ok (record { key = key.0; shape = points.0; texts = names.0 }, names.1)) (counted_says bad 0 (name_at bad count) (name_says bad count) points.1) (λ names. tt)))

-- nothing is read where no good entry begins
no_entry : (end count : ℕ) (front : List Info) (left : List ℕ) → IsByteList left → ((info : Info) (after : List ℕ) → InfoGood count front info → left ≡ info_bytes info ++ after → ⊥) → entry_at end count front left ≡ Err (bad_entry end left)
no_entry end count front left fits bad =
    (elim (entry_at end count front left) as (λ r. entry_at end count front left ≡ r → r ≡ Err (bad_entry end left)) [
      | Ok x ↦ λ h. (let t = (entry_reader end count).takes front left x.0 x.1 fits h in absurd (bad x.0 x.1 t.0 t.1))
      | Err d ↦ λ h. ap (λ f. Err f) (says (bad_entry end left) d (entry_at end count front left) (entry_says end count front left) h)
    ]) refl

pub entries_fail : (end count : ℕ) (section : List ℕ) (failure : FailedCheck) → IsByteList section → entries_at end count section ≡ Err failure → (at : ℕ) × EntryFails count section at × (failure ≡ Check 13 (end - (length section - at)))
unfolding entries_at
entries_fail end count section failure fits e =
    let f = all_fails (entry_at end count) info_bytes (InfoGood count) (entry_reader end count) (λ before x good. entry_some x) (length section) [] section failure fits (omega arith) e in
    let front = f.0.new in
    let left = f.0.left in
    let size : length left ≡ length section - length (infos_bytes front) = omega (arith, ap length f.0.spelled_so, length-append (infos_bytes front) left) in
    let said = says (bad_entry end left) failure (entry_at end count front left) (entry_says end count front left) f.0.fails in
    let clash : (info : Info) (after : List ℕ) → InfoGood count front info → left ≡ info_bytes info ++ after → ⊥ = λ info after good same.
    let again : entry_at end count front left ≡ Ok (info, after) = ap (entry_at end count front) same ∙ (entry_reader end count).again front info after good in
    let no_end : Err failure ≡ Ok (info, after) = sym f.0.fails ∙ again in cc in (
      length (infos_bytes front),
      record { front = front; left = left; good = f.0.each_good; spelled = f.0.spelled_so; here = refl; some = f.1; bad = clash },
      said ∙ ap (λ n. Check 13 (end - n)) size,
    )

pub entries_fail_again : (end count : ℕ) (section : List ℕ) (at : ℕ) → IsByteList section → EntryFails count section at → entries_at end count section ≡ Err (Check 13 (end - (length section - at)))
unfolding entries_at
entries_fail_again end count section at fits f =
    let fits_left = IsByteList-rest section (infos_bytes f.front) f.left fits f.spelled in
    let size : length f.left ≡ length section - at = omega (arith, ap length f.spelled, length-append (infos_bytes f.front) f.left, f.here) in
    let here = no_entry end count f.front f.left fits_left f.bad in
    let enough : length (infos_bytes f.front ++ f.left) ≤ length section = omega (arith, ap length f.spelled) in
    ap (read_all (entry_at end count) (length section) []) f.spelled
    ∙ all_fails_again (entry_at end count) info_bytes (InfoGood count) (entry_reader end count) (λ before x good. entry_some x) (length section) f.front [] f.left (bad_entry end f.left) f.good f.some enough here
    ∙ ap (λ n. Err (Check 13 (end - n))) size
