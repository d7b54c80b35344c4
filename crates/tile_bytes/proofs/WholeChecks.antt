-- The first check of a tile file that fails.
use Rattle.std.proofs.Common.{◌≡◌, ℕ, ◌+◌, ◌-◌, ◌*◌, ◌≤◌, List, [], ◌∷◌, ◌++◌, length, take, drop, Result, Ok, Err, refl, sym, ap, subst, ◌∙◌, ◌⊎◌, inl, inr, arith}
use Rattle.std.specs.List.{flat_map}
use Rattle.std.proofs.lemmas.List.{length-append, length-drop, drop_at}
use Rattle.graph_id.specs.GraphId.{level_of, tile_of_id}
use Rattle.tile_records.specs.Edges.{EdgeFields}
use Rattle.section_grammar.specs.WordBytes.{IsByteList, words_bytes}
use Rattle.section_grammar.specs.Reads.{◌>>=◌, read_many}
use Rattle.section_grammar.specs.Answers.{FailedCheck, Check, place_of}
use Rattle.section_grammar.specs.Sections.{IsReader, IsSection}
use Rattle.section_grammar.specs.FirstFailing.{IsFewerThan, HasMore, ItemFails, IsOverfull, FailsFrom}
use Rattle.section_grammar.proofs.ByteLists.{IsByteList-drop, IsByteList-take}
use Rattle.section_grammar.proofs.WordLaws.{words_bytes-length}
use Rattle.section_grammar.proofs.Steps.{ok_is}
use Rattle.section_grammar.proofs.Sections.{section_of}
use Rattle.section_grammar.proofs.Tells.{Tells, tells_as, tells_within, cut_place}
use Rattle.section_grammar.proofs.Judges.{Judges, judges_one, judges_bind, judges_made}
use Rattle.edge_info.specs.declared.infos.Info.{Info}
use Rattle.edge_info.specs.declared.infos.InfoSet.{InfoSet}
use Rattle.edge_info.specs.Entries.{AreInfos, infos_bytes, names_of, starts_of}
use Rattle.edge_info.specs.EntryReading.{entries_at}
use Rattle.edge_info.specs.TextReading.{texts_at}
use Rattle.edge_info.specs.InfoSets.{padding_at}
use Rattle.edge_info.specs.Checks.{EntryFails, TextFails, PaddingFails}
use Rattle.tile_bytes.specs.declared.header.Header.{Header}
use Rattle.tile_bytes.specs.declared.tile.Tile.{Tile}
use Rattle.tile_bytes.specs.Header.{header_at}
use Rattle.tile_bytes.specs.Items.{node_record_at, node_bytes, IsNodeRecord, edge_record_at, edge_bytes, IsEdgeRecord}
use Rattle.tile_bytes.specs.Chains.{chain_bytes, IsTileChain, named_chains}
use Rattle.tile_bytes.specs.Sequences.{sequence_bytes, IsTileSequence, sequences_at}
use Rattle.tile_bytes.specs.TileSections.{TileRecords, records_at, chains_in_place}
use Rattle.tile_bytes.specs.TileReading.{TileLists, with_sequences, lists_at, behind_lists, edge_entries_at, with_texts, with_infos, infos_at, tile_with, after_lists, after_records, after_header, tile_at}
use Rattle.tile_bytes.specs.TileChecks.{
  TileCheck,
  ChainsGood,
  SequencesGood,
  EntriesGood,
  EdgesHaveEntries,
  TextsGood,
  PaddingZero,
  check_number,
  CheckFails,
  AreTileEdges,
  AreTileInfos,
  ChainFails,
  OffsetFails,
  SequenceFails,
  EntryMissing,
  ChainSectionFails,
  EdgeEntryFails,
  TextSectionFails,
  header_in,
  from_nodes,
  from_edges,
  from_transitions,
  from_chains,
  from_sequences,
  from_infos,
  from_texts,
  from_padding,
  chain_section,
  sequence_section,
  info_section,
  text_section,
}
use Rattle.tile_bytes.proofs.CheckNumbers.{one_check}
use Rattle.tile_bytes.proofs.RecordSections.{RecordsGood, records_bytes, records_take, nodes_bytes-length, edges_bytes-length}
use Rattle.tile_bytes.proofs.HeaderChecks.{header_is, header_judges}
use Rattle.tile_bytes.proofs.RecordChecks.{records_judge}
use Rattle.tile_bytes.proofs.ListChecks.{section_tells, sequences_tell}
use Rattle.tile_bytes.proofs.InfoChecks.{entry_within, text_within, padding_within, entries_tell}

module _ (bytes : List ℕ) (fits : IsByteList bytes) where
  -- each section is bytes, and lies in the file
  fits_nodes : IsByteList (from_nodes bytes)
  fits_nodes = IsByteList-drop 64 bytes fits

  fits_chains : IsByteList (from_chains bytes)
  fits_chains =
      IsByteList-drop (8 * (header_in bytes).transitions) (from_transitions bytes) (IsByteList-drop (32 * (header_in bytes).edges) (from_edges bytes) (IsByteList-drop (32 * (header_in bytes).nodes) (from_nodes bytes) fits_nodes))

  fits_sequences : IsByteList (from_sequences bytes)
  fits_sequences = IsByteList-drop (8 * (header_in bytes).chain_words) (from_chains bytes) fits_chains

  fits_infos : IsByteList (from_infos bytes)
  fits_infos = IsByteList-drop (8 * (header_in bytes).sequence_words) (from_sequences bytes) fits_sequences

  fits_texts : IsByteList (from_texts bytes)
  fits_texts = IsByteList-drop (header_in bytes).info_bytes (from_infos bytes) fits_infos

  less : (n all : ℕ) (rest : List ℕ) → length rest ≤ all → length (drop n rest) ≤ all
  less n all rest le = omega (arith, length-drop n rest, le)

  in_chains : length (from_chains bytes) ≤ length bytes
  in_chains =
      less (8 * (header_in bytes).transitions) (length bytes) (from_transitions bytes)
      (less (32 * (header_in bytes).edges) (length bytes) (from_edges bytes) (less (32 * (header_in bytes).nodes) (length bytes) (from_nodes bytes) (less 64 (length bytes) bytes (omega arith))))

  in_sequences : length (from_sequences bytes) ≤ length bytes
  in_sequences = less (8 * (header_in bytes).chain_words) (length bytes) (from_chains bytes) in_chains

  in_infos : length (from_infos bytes) ≤ length bytes
  in_infos = less (8 * (header_in bytes).sequence_words) (length bytes) (from_sequences bytes) in_sequences

  in_texts : length (from_texts bytes) ≤ length bytes
  in_texts = less (header_in bytes).info_bytes (length bytes) (from_infos bytes) in_infos

  in_padding : length (from_padding bytes) ≤ length bytes
  in_padding = less (header_in bytes).text_bytes (length bytes) (from_texts bytes) in_texts

  module _ (node_reader : (level tile end : ℕ) → IsReader (node_record_at level tile end) node_bytes (IsNodeRecord level tile))
      (edge_reader : (level end : ℕ) → IsReader (edge_record_at level end) edge_bytes (IsEdgeRecord level))
      (entries_found : (end count : ℕ) (section : List ℕ) (infos : List Info) → IsByteList section → entries_at end count section ≡ Ok infos → AreInfos count infos × (section ≡ infos_bytes infos))
      (entries_spelled : (end count : ℕ) (infos : List Info) → AreInfos count infos → entries_at end count (infos_bytes infos) ≡ Ok infos)
      (entries_fail : (end count : ℕ) (section : List ℕ) (failure : FailedCheck) → IsByteList section → entries_at end count section ≡ Err failure → (at : ℕ) × EntryFails count section at × (failure ≡ Check 13 (end - (length section - at))))
      (entries_first : (end count : ℕ) (section : List ℕ) (at : ℕ) → IsByteList section → EntryFails count section at → entries_at end count section ≡ Err (Check 13 (end - (length section - at))))
      (texts_fail : (end : ℕ) (names : List ℕ) (count : ℕ) (section : List ℕ) (failure : FailedCheck) → IsByteList section → texts_at end names count section ≡ Err failure → (at : ℕ) × TextFails names count section at × (failure ≡ Check 15 (end - (length section - at))))
      (texts_first : (end : ℕ) (names : List ℕ) (count : ℕ) (section : List ℕ) (at : ℕ) → IsByteList section → TextFails names count section at → texts_at end names count section ≡ Err (Check 15 (end - (length section - at))))
      (padding_fail : (end : ℕ) (bytes : List ℕ) (failure : FailedCheck) → padding_at end bytes ≡ Err failure → (at : ℕ) × PaddingFails bytes at × (failure ≡ Check 16 (end - (length bytes - at))))
      (padding_first : (end : ℕ) (bytes : List ℕ) (at : ℕ) → PaddingFails bytes at → padding_at end bytes ≡ Err (Check 16 (end - (length bytes - at)))) where
    -- ---- what stands in a file stands there alone

    edges_one : (a b : List EdgeFields) → AreTileEdges bytes a → AreTileEdges bytes b → a ≡ b
    edges_one a b p q =
        let level = level_of (header_in bytes).id in
        let item = edge_record_at level 0 in
        let section = section_of item edge_bytes (IsEdgeRecord level) (edge_reader level 0) in
        let read : (edges : List EdgeFields) (are : AreTileEdges bytes edges) → read_many item (header_in bytes).edges [] (from_edges bytes) ≡ Ok (edges, are.after) = λ edges are.
        ap (λ k. read_many item k [] (from_edges bytes)) (sym are.all) ∙ ap (read_many item (length edges) []) are.spelled ∙ section.spelled edges are.after are.each_good in
        ap (λ (x : List EdgeFields × List ℕ). x.0) (ok_is {F = FailedCheck} (a, p.after) (b, q.after) (sym (read a p) ∙ read b q))

    infos_one : (a b : List Info) → AreTileInfos bytes a → AreTileInfos bytes b → a ≡ b
    infos_one a b p q =
        let read : (infos : List Info) (are : AreTileInfos bytes infos) → entries_at 0 (header_in bytes).texts (info_section bytes) ≡ Ok infos = λ infos are.
        ap (entries_at 0 (header_in bytes).texts) are.spelled ∙ entries_spelled 0 (header_in bytes).texts infos are.are_good in
        ok_is {F = FailedCheck} a b (sym (read a p) ∙ read b q)

    -- ---- chains and sequences

    chains_judge : (edges : List EdgeFields) → AreTileEdges bytes edges
        → Judges check_number (CheckFails bytes) 11 12 (chains_in_place (header_in bytes) edges (place_of (length bytes) (from_sequences bytes)) (chain_section bytes))
    chains_judge edges are =
        let h = header_in bytes in
        let level = level_of h.id in
        let end = place_of (length bytes) (from_sequences bytes) in
        let cut = cut_place (length bytes) (8 * h.chain_words) (from_chains bytes) in_chains in
        let section = chain_section bytes in
        let F : List EdgeFields → ℕ → Type 0 = λ es at.
        ((FailsFrom (place_of (length bytes) (from_chains bytes)) (ItemFails chain_bytes (IsTileChain level) (IsFewerThan (length (named_chains es))) (ChainFails level) section) at
        ⊎ FailsFrom (place_of (length bytes) (from_chains bytes)) (IsOverfull chain_bytes (IsTileChain level) (length (named_chains es)) section) at) ⊎ FailsFrom (64 + 32 * h.nodes) (OffsetFails level es section) at) in
        let there : Tells 11 (F edges) (chains_in_place h edges end section) =
        subst (λ (n : ℕ). Tells 11 (λ at. (FailsFrom n (ItemFails chain_bytes (IsTileChain level) (IsFewerThan (length (named_chains edges))) (ChainFails level) section) at
        ⊎ FailsFrom n (IsOverfull chain_bytes (IsTileChain level) (length (named_chains edges)) section) at) ⊎ FailsFrom (64 + 32 * h.nodes) (OffsetFails level edges section) at) (chains_in_place h edges end section)) cut.0
        (section_tells h edges end section (IsByteList-take (8 * h.chain_words) (from_chains bytes) fits_chains) cut.1) in
        judges_one check_number (CheckFails bytes) ChainsGood (chains_in_place h edges end section) (λ other e. one_check other ChainsGood e)
        (tells_as 11 (F edges) (ChainSectionFails bytes) (chains_in_place h edges end section) (λ at f. record { edges = edges; are = are; fails_so = f })
        (λ at f. subst (λ (es : List EdgeFields). F es at) (edges_one f.edges edges f.are are) f.fails_so) there)

    sequences_judge : Judges check_number (CheckFails bytes) 12 13 (sequences_at (place_of (length bytes) (from_infos bytes)) (sequence_section bytes))
    sequences_judge =
        let h = header_in bytes in
        let end = place_of (length bytes) (from_infos bytes) in
        let cut = cut_place (length bytes) (8 * h.sequence_words) (from_sequences bytes) in_sequences in
        let section = sequence_section bytes in
        judges_one check_number (CheckFails bytes) SequencesGood (sequences_at end section) (λ other e. one_check other SequencesGood e)
        (subst (λ (n : ℕ). Tells 12 (FailsFrom n (ItemFails sequence_bytes IsTileSequence HasMore SequenceFails section)) (sequences_at end section)) cut.0
        (sequences_tell end section (IsByteList-take (8 * h.sequence_words) (from_sequences bytes) fits_sequences) cut.1))

    lists_judge : (edges : List EdgeFields) → AreTileEdges bytes edges → Judges check_number (CheckFails bytes) 11 13 (lists_at (length bytes) (header_in bytes) edges (from_chains bytes))
    unfolding lists_at
    lists_judge edges are =
        let h = header_in bytes in
        let end = length bytes in
        let chains = chains_in_place h edges (place_of end (from_sequences bytes)) (chain_section bytes) in
        judges_bind check_number (CheckFails bytes) 11 12 13 chains (with_sequences end h (from_sequences bytes)) (omega arith) (omega arith) (chains_judge edges are)
        (λ x e. judges_made check_number (CheckFails bytes) 12 13 (sequences_at (place_of end (from_infos bytes)) (sequence_section bytes)) (λ s. record { chains = x; sequences = s }) (omega arith) sequences_judge)

    -- ---- entries and texts

    entries_judge : Judges check_number (CheckFails bytes) 13 14 (entries_at (place_of (length bytes) (from_texts bytes)) (header_in bytes).texts (info_section bytes))
    entries_judge =
        let h = header_in bytes in
        let end = place_of (length bytes) (from_texts bytes) in
        let section = info_section bytes in
        let cut = cut_place (length bytes) h.info_bytes (from_infos bytes) in_infos in
        let are = IsByteList-take h.info_bytes (from_infos bytes) fits_infos in
        judges_one check_number (CheckFails bytes) EntriesGood (entries_at end h.texts section) (λ other e. one_check other EntriesGood e)
        (subst (λ (n : ℕ). Tells 13 (FailsFrom n (EntryFails h.texts section)) (entries_at end h.texts section)) cut.0
        (tells_within 13 end section (EntryFails h.texts section) (entries_at end h.texts section) cut.1 (entry_within h.texts section) (λ d e. entries_fail end h.texts section d are e) (λ at f. entries_first end h.texts section at are f)))

    edge_entries_judge : (edges : List EdgeFields) (infos : List Info) → AreTileEdges bytes edges → AreTileInfos bytes infos → Judges check_number (CheckFails bytes) 14 15 (edge_entries_at (64 + 32 * (header_in bytes).nodes) (starts_of infos) edges)
    edge_entries_judge edges infos are are_infos =
        let from = 64 + 32 * (header_in bytes).nodes in
        let F : List Info → List EdgeFields → ℕ → Type 0 = λ is es at. FailsFrom from (EntryMissing (starts_of is) es) at in
        judges_one check_number (CheckFails bytes) EdgesHaveEntries (edge_entries_at from (starts_of infos) edges) (λ other e. one_check other EdgesHaveEntries e)
        (tells_as 14 (FailsFrom from (EntryMissing (starts_of infos) edges)) (EdgeEntryFails bytes) (edge_entries_at from (starts_of infos) edges)
        (λ at f. record { edges = edges; are = are; infos = infos; are_infos = are_infos; fails_so = f })
        (λ at f. subst (λ (es : List EdgeFields). F infos es at) (edges_one f.edges edges f.are are) (subst (λ (is : List Info). F is f.edges at) (infos_one f.infos infos f.are_infos are_infos) f.fails_so))
        (entries_tell from (starts_of infos) edges))

    texts_judge : (infos : List Info) → AreTileInfos bytes infos → Judges check_number (CheckFails bytes) 15 16 (texts_at (place_of (length bytes) (from_padding bytes)) (names_of infos) (header_in bytes).texts (text_section bytes))
    texts_judge infos are_infos =
        let h = header_in bytes in
        let end = place_of (length bytes) (from_padding bytes) in
        let section = text_section bytes in
        let cut = cut_place (length bytes) h.text_bytes (from_texts bytes) in_texts in
        let are = IsByteList-take h.text_bytes (from_texts bytes) fits_texts in
        let F : List Info → ℕ → Type 0 = λ is at. FailsFrom (place_of (length bytes) (from_texts bytes)) (TextFails (names_of is) h.texts section) at in
        judges_one check_number (CheckFails bytes) TextsGood (texts_at end (names_of infos) h.texts section) (λ other e. one_check other TextsGood e)
        (tells_as 15 (F infos) (TextSectionFails bytes) (texts_at end (names_of infos) h.texts section) (λ at f. record { infos = infos; are_infos = are_infos; fails_so = f })
        (λ at f. subst (λ (is : List Info). F is at) (infos_one f.infos infos f.are_infos are_infos) f.fails_so)
        (subst (λ (n : ℕ). Tells 15 (FailsFrom n (TextFails (names_of infos) h.texts section)) (texts_at end (names_of infos) h.texts section)) cut.0
        (tells_within 15 end section (TextFails (names_of infos) h.texts section) (texts_at end (names_of infos) h.texts section) cut.1 (text_within (names_of infos) h.texts section)
        (λ d e. texts_fail end (names_of infos) h.texts section d are e) (λ at f. texts_first end (names_of infos) h.texts section at are f))))

    padding_judge : Judges check_number (CheckFails bytes) 16 17 (padding_at (length bytes) (from_padding bytes))
    padding_judge =
        judges_one check_number (CheckFails bytes) PaddingZero (padding_at (length bytes) (from_padding bytes)) (λ other e. one_check other PaddingZero e)
        (tells_within 16 (length bytes) (from_padding bytes) (PaddingFails (from_padding bytes)) (padding_at (length bytes) (from_padding bytes)) in_padding (padding_within (from_padding bytes))
        (λ d e. padding_fail (length bytes) (from_padding bytes) d e) (λ at f. padding_first (length bytes) (from_padding bytes) at f))

    infos_judge : (edges : List EdgeFields) → AreTileEdges bytes edges → Judges check_number (CheckFails bytes) 13 17 (infos_at (length bytes) (header_in bytes) edges (from_infos bytes))
    unfolding infos_at
    infos_judge edges are =
        let h = header_in bytes in
        let end = length bytes in
        let entries = entries_at (place_of end (from_texts bytes)) h.texts (info_section bytes) in
        judges_bind check_number (CheckFails bytes) 13 14 17 entries (with_infos end h edges (from_texts bytes)) (omega arith) (omega arith) entries_judge
        (λ infos e.
        let took = entries_found (place_of end (from_texts bytes)) h.texts (info_section bytes) infos (IsByteList-take h.info_bytes (from_infos bytes) fits_infos) e in
        let are_infos : AreTileInfos bytes infos = record { are_good = took.0; spelled = took.1 } in
        judges_bind check_number (CheckFails bytes) 14 15 17 (edge_entries_at (64 + 32 * h.nodes) (starts_of infos) edges) (λ _. with_texts end h (from_texts bytes) infos) (omega arith) (omega arith) (edge_entries_judge edges infos are are_infos)
        (λ u k. judges_bind check_number (CheckFails bytes) 15 16 17 (texts_at (place_of end (from_padding bytes)) (names_of infos) h.texts (text_section bytes))
        (λ texts. padding_at end (from_padding bytes) >>= λ _. Ok (record { infos = infos; texts = texts })) (omega arith) (omega arith) (texts_judge infos are_infos)
        (λ texts m. judges_made check_number (CheckFails bytes) 16 17 (padding_at end (from_padding bytes)) (λ _. record { infos = infos; texts = texts }) (omega arith) padding_judge)))

    -- ---- the whole

    behind_records : (r : TileRecords) (rest : List ℕ) → RecordsGood (header_in bytes) r → from_nodes bytes ≡ records_bytes r rest → AreTileEdges bytes r.edges × (from_chains bytes ≡ rest)
    behind_records r rest good e =
        let h = header_in bytes in
        let tail2 = words_bytes r.transitions ++ rest in
        let tail1 = flat_map edge_bytes r.edges ++ tail2 in
        let e1 : from_edges bytes ≡ tail1 = ap (drop (32 * h.nodes)) e ∙ drop_at (flat_map node_bytes r.nodes) tail1 (32 * h.nodes) (nodes_bytes-length r.nodes ∙ ap (λ n. 32 * n) good.node_number) in
        let e2 : from_transitions bytes ≡ tail2 = ap (drop (32 * h.edges)) e1 ∙ drop_at (flat_map edge_bytes r.edges) tail2 (32 * h.edges) (edges_bytes-length r.edges ∙ ap (λ n. 32 * n) good.edge_number) in
        let size : length (words_bytes r.transitions) ≡ 8 * h.transitions = omega (arith, words_bytes-length r.transitions, good.transition_number) in
        (record { each_good = good.edges; all = good.edge_number; after = tail2; spelled = e1 }, ap (drop (8 * h.transitions)) e2 ∙ drop_at (words_bytes r.transitions) rest (8 * h.transitions) size)

    behind_judge : (x : TileRecords × List ℕ) → records_at (length bytes) (header_in bytes) (from_nodes bytes) ≡ Ok x → Judges check_number (CheckFails bytes) 11 17 (after_records (length bytes) (header_in bytes) x)
    behind_judge x e =
        let h = header_in bytes in
        let end = length bytes in
        let took = records_take (λ level tile end. section_of (node_record_at level tile end) node_bytes (IsNodeRecord level tile) (node_reader level tile end)) (λ level end. section_of (edge_record_at level end) edge_bytes (IsEdgeRecord level) (edge_reader level end))
        end h (from_nodes bytes) x.0 x.1 fits_nodes e in
        let are = behind_records x.0 x.1 took.0 took.1 in
        subst (λ (r : List ℕ). Judges check_number (CheckFails bytes) 11 17 (after_records end h (x.0, r))) are.1
        (judges_bind check_number (CheckFails bytes) 11 13 17 (lists_at end h x.0.edges (from_chains bytes)) (after_lists end h x.0 (from_chains bytes)) (omega arith) (omega arith) (lists_judge x.0.edges are.0)
        (λ l k. judges_made check_number (CheckFails bytes) 13 17 (infos_at end h x.0.edges (from_infos bytes)) (λ s. tile_with h x.0 l s) (omega arith) (infos_judge x.0.edges are.0)))

    pub tile_judges : Judges check_number (CheckFails bytes) 1 17 (tile_at bytes)
    unfolding tile_at
    tile_judges =
        let end = length bytes in
        judges_bind check_number (CheckFails bytes) 1 8 17 (header_at bytes) (after_header end) (omega arith) (omega arith) (header_judges bytes)
        (λ x e. subst (λ (y : Header × List ℕ). Judges check_number (CheckFails bytes) 8 17 (after_header end y)) (sym (header_is bytes x e))
        (judges_bind check_number (CheckFails bytes) 8 11 17 (records_at end (header_in bytes) (from_nodes bytes)) (after_records end (header_in bytes)) (omega arith) (omega arith) (records_judge node_reader edge_reader bytes fits) behind_judge))
