-- Entries and texts that pass their checks have a spelling where their bytes are below 2^32.
use Rattle.std.proofs.Common.{◌≡◌, ℕ, ◌+◌, ◌*◌, ◌^◌, ◌<◌, List, [], ◌∷◌, ◌++◌, length, ap, ◌∙◌, arith}
use Rattle.std.proofs.lemmas.List.{length-append}
use Rattle.std.proofs.lemmas.List.Concat.{flat_map-cons}
use Rattle.section_grammar.specs.WordBytes.{half_bytes}
use Rattle.section_grammar.specs.Reads.{AllGood}
use Rattle.edge_info.specs.declared.infos.Info.{Info}
use Rattle.edge_info.specs.Entries.{info_bytes, infos_bytes, InfoPasses, InfoGood, InfosPass, AreInfos}
use Rattle.edge_info.specs.Texts.{text_bytes, texts_bytes, TextPasses, TextGood, TextsPass, AreTexts}
use Rattle.edge_info.proofs.StartLaws.{info_length}

info_bounded_at : (count : ℕ) (before infos : List Info) → AllGood (InfoPasses count) before infos → length (infos_bytes infos) < 2 ^ 32 → AllGood (InfoGood count) before infos
info_bounded_at count before [] h lt = tt
info_bounded_at count before (x ∷ xs) h lt =
    let size : length (infos_bytes (x ∷ xs)) ≡ length (info_bytes x) + length (infos_bytes xs) = ap length (flat_map-cons info_bytes x xs) ∙ length-append (info_bytes x) (infos_bytes xs) in
    let long = info_length x in
    (record { passes = h.0; few_points = omega (arith, size, long, lt); few_names = omega (arith, size, long, lt) }, info_bounded_at count (before ++ x ∷ []) xs h.1 (omega (arith, size, lt)))

pub infos_bounded : (count : ℕ) (infos : List Info) → InfosPass count infos → length (infos_bytes infos) < 2 ^ 32 → AreInfos count infos
infos_bounded count infos h lt = info_bounded_at count [] infos h lt

info_passes_at : (count : ℕ) (before infos : List Info) → AllGood (InfoGood count) before infos → AllGood (InfoPasses count) before infos
info_passes_at count before [] h = tt
info_passes_at count before (x ∷ xs) h = (h.0.passes, info_passes_at count (before ++ x ∷ []) xs h.1)

pub infos_pass : (count : ℕ) (infos : List Info) → AreInfos count infos → InfosPass count infos
infos_pass count infos h = info_passes_at count [] infos h

-- ---- texts that pass, and how long they are

text_bounded_at : (before texts : List (List ℕ)) → AllGood TextPasses before texts → length (texts_bytes texts) < 2 ^ 32 → AllGood TextGood before texts
unfolding text_bytes
text_bounded_at before [] h lt = tt
text_bounded_at before (x ∷ xs) h lt =
    let size : length (texts_bytes (x ∷ xs)) ≡ length (half_bytes (length x) ++ x) + length (texts_bytes xs) = ap length (flat_map-cons text_bytes x xs) ∙ length-append (text_bytes x) (texts_bytes xs) in
    let one = length-append (half_bytes (length x)) x in
    (record { passes = h.0; short = omega (arith, size, one, lt) }, text_bounded_at (before ++ x ∷ []) xs h.1 (omega (arith, size, lt)))

pub texts_bounded : (names : List ℕ) (texts : List (List ℕ)) → TextsPass names texts → length (texts_bytes texts) < 2 ^ 32 → AreTexts names texts
texts_bounded names texts pass lt = record { each = text_bounded_at [] texts pass.each lt; order = pass.order }

text_passes_at : (before texts : List (List ℕ)) → AllGood TextGood before texts → AllGood TextPasses before texts
text_passes_at before [] h = tt
text_passes_at before (x ∷ xs) h = (h.0.passes, text_passes_at (before ++ x ∷ []) xs h.1)

pub texts_pass : (names : List ℕ) (texts : List (List ℕ)) → AreTexts names texts → TextsPass names texts
texts_pass names texts are = record { each = text_passes_at [] texts are.each; order = are.order }
