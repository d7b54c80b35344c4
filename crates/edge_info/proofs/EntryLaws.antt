-- Entries that are read are those that were written, and again.
use Rattle.std.proofs.Common.{◌≡◌, ℕ, zero, suc, ◌^◌, ◌<◌, List, [], ◌∷◌, ◌++◌, length, get_or, All, Ok, refl, sym, ap, subst, ◌∙◌, append_assoc, arith}
use Rattle.std.specs.Int.{w64, cast_unsigned}
use Rattle.std.proofs.lemmas.List.{length-append}
use Rattle.fixed_geo.specs.Place.{IsPlace}
use Rattle.section_grammar.specs.WordBytes.{IsByteList, word_bytes, half_bytes}
use Rattle.section_grammar.specs.Reads.{◌>>=◌, AllGood}
use Rattle.section_grammar.specs.Sections.{IsReader, IsSection, FillsSection}
use Rattle.section_grammar.specs.Answers.{FailedCheck}
use Rattle.section_grammar.proofs.ByteLists.{IsByteList-rest}
use Rattle.section_grammar.proofs.WordLaws.{word_length}
use Rattle.section_grammar.proofs.Steps.{bind_ok, ok_is}
use Rattle.section_grammar.proofs.Sections.{section_of, filling_of}
use Rattle.edge_info.specs.declared.infos.Info.{Info}
use Rattle.edge_info.specs.Entries.{key_bytes, point_bytes, counted_bytes, info_bytes, infos_bytes, InfoPasses, InfoGood, AreInfos}
use Rattle.edge_info.specs.EntryReading.{bad_entry, key_at, point_at, name_at, counted_at, entry_at, entries_at}
use Rattle.edge_info.proofs.EntryParts.{NameGood, point_reader, name_reader, key_takes, key_again, counted_takes, counted_again}

-- what is good whatever stands before it, of each
all_at : {A : Type 0} (P : A → Type 0) (before xs : List A) → AllGood (λ b x. P x) before xs → (k : ℕ) (d : A) → k < length xs → P (get_or xs k d)
all_at P before [] h k d lt = absurd (omega arith)
all_at P before (x ∷ xs) h zero d lt = h.0
all_at P before (x ∷ xs) h (suc k) d lt = all_at P (before ++ x ∷ []) xs h.1 k d (omega arith)

all_of : {A : Type 0} (P : A → Type 0) (before xs : List A) → AllGood (λ b x. P x) before xs → All P xs
all_of P before xs h = λ k d lt. all_at P before xs h k d lt

of_all : {A : Type 0} (P : A → Type 0) (before xs : List A) → All P xs → AllGood (λ b x. P x) before xs
of_all P before [] h = tt
of_all P before (x ∷ xs) h = (h 0 x (omega arith), of_all P (before ++ x ∷ []) xs (λ k d lt. h (suc k) d (omega arith)))

point_section : (bad : FailedCheck) → IsSection (point_at bad) point_bytes (λ before p. IsPlace p)
point_section bad = section_of (point_at bad) point_bytes (λ before p. IsPlace p) (point_reader bad)

name_section : (bad : FailedCheck) (count : ℕ) → IsSection (name_at bad count) half_bytes (NameGood count)
name_section bad count = section_of (name_at bad count) half_bytes (NameGood count) (name_reader bad count)

-- the parts of an entry's bytes
three : (a b d rest : List ℕ) → (a ++ (b ++ d)) ++ rest ≡ a ++ (b ++ (d ++ rest))
three a b d rest = append_assoc a (b ++ d) rest ∙ ap (λ t. a ++ t) (append_assoc b d rest)

entry_takes : (end count : ℕ) (before : List Info) (rest : List ℕ) (x : Info) (after : List ℕ) → IsByteList rest → entry_at end count before rest ≡ Ok (x, after) → InfoGood count before x × (rest ≡ info_bytes x ++ after)
unfolding entry_at info_bytes
entry_takes end count before rest x after fits e =
    let bad = bad_entry end rest in
    let a = bind_ok (key_at bad before rest) (λ key. counted_at bad 2 (point_at bad) key.1 >>= λ points. counted_at bad 0 (name_at bad count) points.1 >>= λ names. Ok (record { key = key.0; shape = points.0; texts = names.0 }, names.1)) (x, after) e in
    let b = bind_ok (counted_at bad 2 (point_at bad) a.0.1) (λ points. counted_at bad 0 (name_at bad count) points.1 >>= λ names. Ok (record { key = a.0.0; shape = points.0; texts = names.0 }, names.1)) (x, after) a.2 in
    let n = bind_ok (counted_at bad 0 (name_at bad count) b.0.1) (λ names. Ok (record { key = a.0.0; shape = b.0.0; texts = names.0 }, names.1)) (x, after) b.2 in
    let same = ok_is {F = FailedCheck} (record { key = a.0.0; shape = b.0.0; texts = n.0.0 }, n.0.1) (x, after) n.2 in
    let key = key_takes bad before rest a.0.0 a.0.1 fits a.1 in
    let fits1 = IsByteList-rest rest (key_bytes a.0.0) a.0.1 fits key.2 in
    let points = counted_takes bad 2 (point_at bad) point_bytes (λ before p. IsPlace p) (point_section bad) a.0.1 b.0.0 b.0.1 fits1 b.1 in
    let fits2 = IsByteList-rest a.0.1 (counted_bytes point_bytes b.0.0) b.0.1 fits1 points.3 in
    let names = counted_takes bad 0 (name_at bad count) half_bytes (NameGood count) (name_section bad count) b.0.1 n.0.0 n.0.1 fits2 n.1 in
    let good : InfoGood count before (record { key = a.0.0; shape = b.0.0; texts = n.0.0 }) = record {
      passes = record { key = key.0; rises = key.1; two_points = points.0; places = all_of IsPlace [] b.0.0 points.2; names = all_of (λ name. (name < count) × (name < 2 ^ 32)) [] n.0.0 names.2 };
      few_points = points.1;
      few_names = names.1;
    } in
    let back : rest ≡ (key_bytes a.0.0 ++ (counted_bytes point_bytes b.0.0 ++ counted_bytes half_bytes n.0.0)) ++ n.0.1 =
    key.2 ∙ ap (λ t. key_bytes a.0.0 ++ t) (points.3 ∙ ap (λ t. counted_bytes point_bytes b.0.0 ++ t) names.3)
    ∙ sym (three (key_bytes a.0.0) (counted_bytes point_bytes b.0.0) (counted_bytes half_bytes n.0.0) n.0.1) in
    subst (λ (t : Info × List ℕ). InfoGood count before t.0 × (rest ≡ (key_bytes t.0.key ++ (counted_bytes point_bytes t.0.shape ++ counted_bytes half_bytes t.0.texts)) ++ t.1)) same (good, back)

-- the parts that are read one after the other
chained : (end count : ℕ) (before : List Info) (bytes : List ℕ) (x : Info) (rest1 rest2 rest : List ℕ)
    → key_at (bad_entry end bytes) before bytes ≡ Ok (x.key, rest1) → counted_at (bad_entry end bytes) 2 (point_at (bad_entry end bytes)) rest1 ≡ Ok (x.shape, rest2)
    → counted_at (bad_entry end bytes) 0 (name_at (bad_entry end bytes) count) rest2 ≡ Ok (x.texts, rest) → entry_at end count before bytes ≡ Ok (x, rest)
unfolding entry_at
chained end count before bytes x rest1 rest2 rest e0 e1 e2 = rw (e0, e1, e2) refl

entry_again : (end count : ℕ) (before : List Info) (x : Info) (rest : List ℕ) → InfoGood count before x → entry_at end count before (info_bytes x ++ rest) ≡ Ok (x, rest)
unfolding info_bytes
entry_again end count before x rest good =
    let key = key_bytes x.key in
    let points = counted_bytes point_bytes x.shape in
    let names = counted_bytes half_bytes x.texts in
    let bytes = (key ++ (points ++ names)) ++ rest in
    let grouped : bytes ≡ key ++ (points ++ (names ++ rest)) = three key points names rest in
    let bad = bad_entry end bytes in
    let e0 : key_at bad before bytes ≡ Ok (x.key, points ++ (names ++ rest)) = ap (key_at bad before) grouped ∙ key_again bad before x.key (points ++ (names ++ rest)) good.passes.key good.passes.rises in
    let e1 = counted_again bad 2 (point_at bad) point_bytes (λ before p. IsPlace p) (point_section bad) x.shape (names ++ rest) good.passes.two_points good.few_points (of_all IsPlace [] x.shape good.passes.places) in
    let e2 = counted_again bad 0 (name_at bad count) half_bytes (NameGood count) (name_section bad count) x.texts rest (omega arith) good.few_names (of_all (λ name. (name < count) × (name < 2 ^ 32)) [] x.texts good.passes.names) in
    chained end count before bytes x (points ++ (names ++ rest)) (names ++ rest) rest e0 e1 e2

pub entry_reader : (end count : ℕ) → IsReader (entry_at end count) info_bytes (InfoGood count)
entry_reader end count = record { takes = entry_takes end count; again = entry_again end count }

-- an entry has bytes
pub entry_some : (x : Info) → 0 < length (info_bytes x)
unfolding info_bytes key_bytes
entry_some x =
    let way = word_bytes (cast_unsigned w64 x.key.way) in
    let run_piece = half_bytes x.key.run ++ half_bytes x.key.piece in
    let more = counted_bytes point_bytes x.shape ++ counted_bytes half_bytes x.texts in
    omega (arith, length-append (way ++ run_piece) more, length-append way run_piece, word_length (cast_unsigned w64 x.key.way))

entry_filling : (end count : ℕ) → FillsSection (entry_at end count) info_bytes (InfoGood count)
entry_filling end count = filling_of (entry_at end count) info_bytes (InfoGood count) (entry_reader end count) (λ before x good. entry_some x)

pub entries_found : (end count : ℕ) (section : List ℕ) (infos : List Info) → IsByteList section → entries_at end count section ≡ Ok infos → AreInfos count infos × (section ≡ infos_bytes infos)
unfolding entries_at
entries_found end count section infos fits e = (entry_filling end count).filled (length section) section infos fits (omega arith) e

pub entries_again : (end count : ℕ) (infos : List Info) → AreInfos count infos → entries_at end count (infos_bytes infos) ≡ Ok infos
unfolding entries_at
entries_again end count infos good = (entry_filling end count).refilled (length (infos_bytes infos)) infos good (omega arith)
