-- The entries and texts of a tile are read as they were written, and again.
use Rattle.std.proofs.Common.{◌≡◌, ℕ, suc, ◌+◌, ◌*◌, ◌<◌, true, false, cond, List, [], ◌∷◌, length, take, drop, get_or, replicate, Ok, Err, refl, sym, ap, subst, ◌∙◌, arith}
use Rattle.std.specs.Prelude.{All}
use Rattle.std.proofs.lemmas.List.Elements.{All-nil, All-cons, All-head, All-tail}
use Rattle.std.proofs.Math.Seq.{drop-cons}
use Rattle.tile_records.specs.Edges.{EdgeFields}
use Rattle.section_grammar.specs.WordBytes.{IsByteList}
use Rattle.section_grammar.specs.Reads.{◌>>=◌}
use Rattle.section_grammar.specs.Answers.{FailedCheck, Check, place_of}
use Rattle.section_grammar.proofs.ByteLists.{IsByteList-take, IsByteList-drop}
use Rattle.section_grammar.proofs.Steps.{bind_ok, passed_ok, ok_is}
use Rattle.edge_info.specs.declared.infos.Info.{Info}
use Rattle.edge_info.specs.declared.infos.InfoSet.{InfoSet}
use Rattle.edge_info.specs.Entries.{AreInfos, infos_bytes, names_of, starts_of}
use Rattle.edge_info.specs.EntryReading.{entries_at}
use Rattle.edge_info.specs.Texts.{AreTexts, texts_bytes}
use Rattle.edge_info.specs.TextReading.{texts_at}
use Rattle.edge_info.specs.InfoSets.{padding_at}
use Rattle.tile_bytes.specs.declared.header.Header.{Header}
use Rattle.tile_bytes.specs.Tiles.{has_entry}
use Rattle.tile_bytes.specs.TileReading.{edge_entries_at, with_texts, with_infos, infos_at}

abbrev pub HasEntry : List ℕ → EdgeFields → Type 0
HasEntry starts e = has_entry starts e ≡ true

pub entries_are : (at : ℕ) (starts : List ℕ) (es : List EdgeFields) (u : Unit {0}) → edge_entries_at at starts es ≡ Ok u → All (HasEntry starts) es
unfolding edge_entries_at
entries_are at starts [] u h = All-nil (HasEntry starts)
entries_are at starts (e ∷ es) u h =
    let a = passed_ok (has_entry starts e) (Check 14 at) (edge_entries_at (at + 32) starts es) u h in
    All-cons (HasEntry starts) e es a.0 (entries_are (at + 32) starts es u a.1)

pub entries_again : (at : ℕ) (starts : List ℕ) (es : List EdgeFields) → All (HasEntry starts) es → edge_entries_at at starts es ≡ Ok tt
unfolding edge_entries_at
entries_again at starts [] h = refl
entries_again at starts (e ∷ es) h =
    ap (λ b. cond b (edge_entries_at (at + 32) starts es) (Err (Check 14 at))) (All-head (HasEntry starts) e es h) ∙ entries_again (at + 32) starts es (All-tail (HasEntry starts) e es h)

pub entry_missing : (at : ℕ) (starts : List ℕ) (es : List EdgeFields) (i : ℕ) (e none : EdgeFields) → i < length es → e ≡ get_or es i none → has_entry starts e ≡ false → edge_entries_at at starts (drop i es) ≡ Err (Check 14 at)
unfolding edge_entries_at
entry_missing at starts es i e none lt here lacks =
    let parts : drop i es ≡ get_or es i none ∷ drop (suc i) es = drop-cons es i none lt in
    let it : has_entry starts (get_or es i none) ≡ false = ap (has_entry starts) (sym here) ∙ lacks in
    ap (edge_entries_at at starts) parts ∙ ap (λ b. cond b (edge_entries_at (at + 32) starts (drop (suc i) es)) (Err (Check 14 at))) it

pub entry_there : (at : ℕ) (starts : List ℕ) (es : List EdgeFields) (i : ℕ) (e none : EdgeFields) → i < length es → e ≡ get_or es i none → has_entry starts e ≡ true → edge_entries_at (at + 32 * i) starts (drop i es) ≡ edge_entries_at (at + 32 * (i + 1)) starts (drop (i + 1) es)
unfolding edge_entries_at
entry_there at starts es i e none lt here is =
    let parts : drop i es ≡ get_or es i none ∷ drop (suc i) es = drop-cons es i none lt in
    let it : has_entry starts (get_or es i none) ≡ true = ap (has_entry starts) (sym here) ∙ is in
    let k : suc i ≡ i + 1 = omega arith in
    let place : at + 32 * i + 32 ≡ at + 32 * (i + 1) = omega arith in
    ap (edge_entries_at (at + 32 * i) starts) parts ∙ ap (λ b. cond b (edge_entries_at (at + 32 * i + 32) starts (drop (suc i) es)) (Err (Check 14 (at + 32 * i)))) it
    ∙ ap (λ n. edge_entries_at (at + 32 * i + 32) starts (drop n es)) k ∙ ap (λ n. edge_entries_at n starts (drop (i + 1) es)) place

pub entries_done : (at : ℕ) (starts : List ℕ) (es : List EdgeFields) → length es ≡ 0 → edge_entries_at at starts es ≡ Ok tt
unfolding edge_entries_at
entries_done at starts [] none = refl
entries_done at starts (e ∷ es) none = absurd (omega arith)

abbrev set_with : List Info → List (List ℕ) → InfoSet
set_with infos texts = record { infos = infos; texts = texts }

pub record InfosTook (h : Header) (edges : List EdgeFields) (rest : List ℕ) (s : InfoSet) : Type 0 where
  pub infos : AreInfos h.texts s.infos
  pub entries : All (HasEntry (starts_of s.infos)) edges
  pub texts : AreTexts (names_of s.infos) s.texts
  pub text_number : length s.texts ≡ h.texts
  pub info_section : take h.info_bytes rest ≡ infos_bytes s.infos
  pub text_section : take h.text_bytes (drop h.info_bytes rest) ≡ texts_bytes s.texts
  pub padding : drop h.text_bytes (drop h.info_bytes rest) ≡ replicate (length (drop h.text_bytes (drop h.info_bytes rest))) 0

module _
    (entries_found : (end count : ℕ) (section : List ℕ) (infos : List Info) → IsByteList section → entries_at end count section ≡ Ok infos → AreInfos count infos × (section ≡ infos_bytes infos))
    (entries_spelled : (end count : ℕ) (infos : List Info) → AreInfos count infos → entries_at end count (infos_bytes infos) ≡ Ok infos)
    (texts_found : (end : ℕ) (names : List ℕ) (count : ℕ) (section : List ℕ) (texts : List (List ℕ)) → IsByteList section → texts_at end names count section ≡ Ok texts → AreTexts names texts × (section ≡ texts_bytes texts) × (length texts ≡ count))
    (texts_spelled : (end : ℕ) (names : List ℕ) (texts : List (List ℕ)) → AreTexts names texts → texts_at end names (length texts) (texts_bytes texts) ≡ Ok texts)
    (zeros_found : (end : ℕ) (bytes : List ℕ) (done : Unit {0}) → padding_at end bytes ≡ Ok done → bytes ≡ replicate (length bytes) 0)
    (zeros_spelled : (end count : ℕ) → padding_at end (replicate count 0) ≡ Ok tt) where
  pub infos_take : (end : ℕ) (h : Header) (edges : List EdgeFields) (rest : List ℕ) (s : InfoSet) → IsByteList rest → infos_at end h edges rest ≡ Ok s → InfosTook h edges rest s
  unfolding infos_at
  infos_take end h edges rest s fits e =
      let behind = drop h.info_bytes rest in
      let last = drop h.text_bytes behind in
      let a = bind_ok (entries_at (place_of end behind) h.texts (take h.info_bytes rest)) (with_infos end h edges behind) s e in
      let infos = a.0 in
      let b = bind_ok (edge_entries_at (64 + 32 * h.nodes) (starts_of infos) edges) (λ _. with_texts end h behind infos) s a.2 in
      let d = bind_ok (texts_at (place_of end last) (names_of infos) h.texts (take h.text_bytes behind)) (λ texts. padding_at end last >>= λ _. Ok (set_with infos texts)) s b.2 in
      let f = bind_ok (padding_at end last) (λ _. Ok (set_with infos d.0)) s d.2 in
      let one = entries_found (place_of end behind) h.texts (take h.info_bytes rest) infos (IsByteList-take h.info_bytes rest fits) a.1 in
      let two = texts_found (place_of end last) (names_of infos) h.texts (take h.text_bytes behind) d.0 (IsByteList-take h.text_bytes behind (IsByteList-drop h.info_bytes rest fits)) d.1 in
      subst (λ (x : InfoSet). InfosTook h edges rest x) (ok_is {F = FailedCheck} (set_with infos d.0) s f.2)
      (record { infos = one.0; entries = entries_are (64 + 32 * h.nodes) (starts_of infos) edges b.0 b.1; texts = two.0; text_number = two.2; info_section = one.1; text_section = two.1; padding = zeros_found end last f.0 f.1 })

  pub infos_again : (end : ℕ) (h : Header) (edges : List EdgeFields) (rest : List ℕ) (s : InfoSet) → InfosTook h edges rest s → infos_at end h edges rest ≡ Ok s
  unfolding infos_at
  infos_again end h edges rest s took =
      let behind = drop h.info_bytes rest in
      let last = drop h.text_bytes behind in
      let one : entries_at (place_of end behind) h.texts (take h.info_bytes rest) ≡ Ok s.infos =
      ap (entries_at (place_of end behind) h.texts) took.info_section ∙ entries_spelled (place_of end behind) h.texts s.infos took.infos in
      let two = entries_again (64 + 32 * h.nodes) (starts_of s.infos) edges took.entries in
      let three : texts_at (place_of end last) (names_of s.infos) h.texts (take h.text_bytes behind) ≡ Ok s.texts =
      ap (texts_at (place_of end last) (names_of s.infos) h.texts) took.text_section
      ∙ ap (λ n. texts_at (place_of end last) (names_of s.infos) n (texts_bytes s.texts)) (sym took.text_number) ∙ texts_spelled (place_of end last) (names_of s.infos) s.texts took.texts in
      let four : padding_at end last ≡ Ok tt = ap (padding_at end) took.padding ∙ zeros_spelled end (length last) in
      rw (one, two, three, four) refl
