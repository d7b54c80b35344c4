-- A tile that is read is spelled so, and a tile that is spelled is read.
use Rattle.std.proofs.Common.{◌≡◌, ℕ, zero, suc, ◌+◌, ◌-◌, ◌*◌, ◌^◌, ◌<◌, ◌≤◌, true, List, [], ◌∷◌, ◌++◌, length, take, drop, replicate, Ok, refl, sym, ap, subst, ◌∙◌, append_assoc, arith}
use Rattle.std.specs.Prelude.{FitsSigned}
use Rattle.std.specs.Int.{w32, cast_unsigned}
use Rattle.std.specs.List.{flat_map}
use Rattle.std.proofs.Math.Facts.{Fits-of_z, Fits-lt-pow}
use Rattle.std.proofs.lemmas.Int.{ints}
use Rattle.std.proofs.lemmas.Bool.{and_parts, ltb-true, leb-true}
use Rattle.std.proofs.lemmas.List.{length-append, length-take, length-drop, length-replicate, take-append-drop, take_at, drop_at}
use Rattle.std.proofs.lemmas.List.Concat.{flat_map-cons}
use Rattle.graph_id.specs.GraphId.{level_of, tile_of_id}
use Rattle.tile_records.specs.Edges.{EdgeFields}
use Rattle.tile_geometry.specs.Grid.{tile_count, corner}
use Rattle.section_grammar.specs.WordBytes.{IsByteList, words_bytes, half_bytes}
use Rattle.section_grammar.specs.Answers.{FailedCheck}
use Rattle.section_grammar.proofs.ByteLists.{IsByteList-rest, IsByteList-drop}
use Rattle.section_grammar.proofs.WordLaws.{half_length}
use Rattle.section_grammar.proofs.Steps.{bind_ok, ok_is}
use Rattle.edge_info.specs.declared.infos.Info.{Info}
use Rattle.edge_info.specs.declared.infos.InfoSet.{InfoSet}
use Rattle.edge_info.specs.Entries.{infos_bytes, names_of, InfosPass, AreInfos}
use Rattle.edge_info.specs.Texts.{texts_bytes, text_bytes, TextsPass, AreTexts}
use Rattle.edge_info.specs.InfoSets.{gap, joined_bytes}
use Rattle.tile_bytes.specs.declared.header.TheConstants.{MOST_RECORDS}
use Rattle.tile_bytes.specs.declared.header.Header.{Header}
use Rattle.tile_bytes.specs.declared.tile.Tile.{Tile}
use Rattle.tile_bytes.specs.Header.{file_size, header_at, header_words, corner_word, names_tile, IsTileHeader}
use Rattle.tile_bytes.specs.Items.{node_bytes, edge_bytes}
use Rattle.tile_bytes.specs.Chains.{chain_bytes, words_of_chains}
use Rattle.tile_bytes.specs.Sequences.{sequence_bytes, words_of_sequences}
use Rattle.tile_bytes.specs.TileSections.{TileRecords, records_at, behind_words}
use Rattle.tile_bytes.specs.Tiles.{PassesChecks, FitsHeader, header_of_tile, spelling_of, TileSpelled}
use Rattle.tile_bytes.specs.TileReading.{TileLists, lists_at, behind_lists, infos_at, tile_with, after_lists, after_records, after_header, tile_at}
use Rattle.tile_bytes.proofs.HeaderLaws.{HeaderTook, header_takes, header_again}
use Rattle.tile_bytes.proofs.RecordSections.{RecordsGood, records_bytes, records_with, records_bytes-length}
use Rattle.tile_bytes.proofs.ListSections.{ListsTook, chains_bytes-length, sequences_bytes-length, lists_take, lists_again}
use Rattle.tile_bytes.proofs.InfoSections.{InfosTook}

-- ---- the corner of a tile

corner_fits : (level tile : ℕ) → level ≤ 2 → tile < tile_count level → FitsSigned w32 (corner level tile).lat × FitsSigned w32 (corner level tile).lon
unfolding corner
corner_fits zero tile l t = (omega (arith, ints), omega (arith, ints))
corner_fits (suc zero) tile l t = (omega (arith, ints), omega (arith, ints))
corner_fits (suc (suc zero)) tile l t = (omega (arith, ints), omega (arith, ints))
corner_fits (suc (suc (suc n))) tile l t = absurd (omega arith)

two_halves_below : (a b : ℕ) → a < 2 ^ 32 → b < 2 ^ 32 → a + 2 ^ 32 * b < 2 ^ 64
two_halves_below a b p q = omega arith

corner_below : (id : ℕ) → names_tile id ≡ true → corner_word id < 2 ^ 64
unfolding corner_word
corner_below id e =
    let a = and_parts _ _ e in
    let b = and_parts _ _ a.0 in
    let d = and_parts _ _ b.0 in
    let fits = corner_fits (level_of id) (tile_of_id id) (leb-true _ _ d.1) (ltb-true _ _ b.1) in
    two_halves_below (cast_unsigned w32 (corner (level_of id) (tile_of_id id)).lat) (cast_unsigned w32 (corner (level_of id) (tile_of_id id)).lon) (Fits-lt-pow (Fits-of_z fits.0)) (Fits-lt-pow (Fits-of_z fits.1))

-- ---- found

-- what follows the records, by its sections
cut_in_four : (rest : List ℕ) (a b c d : ℕ) → rest ≡ take a rest ++ (take b (drop a rest) ++ (take c (drop b (drop a rest)) ++ (take d (drop c (drop b (drop a rest))) ++ drop d (drop c (drop b (drop a rest))))))
cut_in_four rest a b c d =
    let r1 = drop a rest in
    let r2 = drop b r1 in
    let r3 = drop c r2 in
    sym (take-append-drop a rest) ∙ ap (λ l. take a rest ++ l) (sym (take-append-drop b r1) ∙ ap (λ l. take b r1 ++ l) (sym (take-append-drop c r2) ∙ ap (λ l. take c r2 ++ l) (sym (take-append-drop d r3))))

taken : (n : ℕ) (xs : List ℕ) → n ≤ length xs → length (take n xs) ≡ n
taken n xs le = omega (arith, length-take n xs)

dropped : (n : ℕ) (xs : List ℕ) → length (drop n xs) ≡ length xs - n
dropped n xs = length-drop n xs

eight_times : (n m : ℕ) → 8 * n ≡ 8 * m → n ≡ m
eight_times n m e = omega arith

-- the sections have the sizes that the header says
pub record Sizes (h : Header) (r : TileRecords) (l : TileLists) (s : InfoSet) (rest : List ℕ) : Type 0 where
  pub chain_words : words_of_chains l.chains ≡ h.chain_words
  pub sequence_words : words_of_sequences l.sequences ≡ h.sequence_words
  pub info_bytes : length (infos_bytes s.infos) ≡ h.info_bytes
  pub text_bytes : length (texts_bytes s.texts) ≡ h.text_bytes
  pub padding : length (drop h.text_bytes (drop h.info_bytes (behind_lists h rest))) ≡ gap (h.info_bytes + h.text_bytes)

room : (n c s i t g : ℕ) → n ≡ 8 * c + 8 * s + (i + t) + g → (8 * c ≤ n) × (8 * s ≤ n - 8 * c) × (i ≤ n - 8 * c - 8 * s) × (t ≤ n - 8 * c - 8 * s - i) × (n - 8 * c - 8 * s - i - t ≡ g)
room n c s i t g e = (omega arith, omega arith, omega arith, omega arith, omega arith)

sizes_are : (h : Header) (r : TileRecords) (l : TileLists) (s : InfoSet) (rest : List ℕ) → length rest ≡ 8 * h.chain_words + 8 * h.sequence_words + (h.info_bytes + h.text_bytes) + gap (h.info_bytes + h.text_bytes)
    → ListsTook h r.edges rest l → InfosTook h r.edges (behind_lists h rest) s → Sizes h r l s rest
sizes_are h r l s rest size lists infos =
    let fit = room (length rest) h.chain_words h.sequence_words h.info_bytes h.text_bytes (gap (h.info_bytes + h.text_bytes)) size in
    let r1 = drop (8 * h.chain_words) rest in
    let r2 = drop (8 * h.sequence_words) r1 in
    let r3 = drop h.info_bytes r2 in
    let l1 : length r1 ≡ length rest - 8 * h.chain_words = dropped (8 * h.chain_words) rest in
    let l2 : length r2 ≡ length rest - 8 * h.chain_words - 8 * h.sequence_words = dropped (8 * h.sequence_words) r1 ∙ ap (λ n. n - 8 * h.sequence_words) l1 in
    let l3 : length r3 ≡ length rest - 8 * h.chain_words - 8 * h.sequence_words - h.info_bytes = dropped h.info_bytes r2 ∙ ap (λ n. n - h.info_bytes) l2 in
    let l4 : length (drop h.text_bytes r3) ≡ length rest - 8 * h.chain_words - 8 * h.sequence_words - h.info_bytes - h.text_bytes = dropped h.text_bytes r3 ∙ ap (λ n. n - h.text_bytes) l3 in
    let k1 : 8 * h.sequence_words ≤ length r1 = subst (λ (n : ℕ). 8 * h.sequence_words ≤ n) (sym l1) fit.1 in
    let k2 : h.info_bytes ≤ length r2 = subst (λ (n : ℕ). h.info_bytes ≤ n) (sym l2) fit.2 in
    let k3 : h.text_bytes ≤ length r3 = subst (λ (n : ℕ). h.text_bytes ≤ n) (sym l3) fit.3 in
    record {
      chain_words = eight_times _ _ (sym (chains_bytes-length l.chains) ∙ ap length (sym lists.chain_section) ∙ taken (8 * h.chain_words) rest fit.0);
      sequence_words = eight_times _ _ (sym (sequences_bytes-length l.sequences) ∙ ap length (sym lists.sequence_section) ∙ taken (8 * h.sequence_words) r1 k1);
      info_bytes = ap length (sym infos.info_section) ∙ taken h.info_bytes r2 k2;
      text_bytes = ap length (sym infos.text_section) ∙ taken h.text_bytes r3 k3;
      padding = l4 ∙ fit.4;
    }

header_same : (h : Header) (r : TileRecords) (l : TileLists) (s : InfoSet) (rest : List ℕ) → RecordsGood h r → Sizes h r l s rest → length s.texts ≡ h.texts → header_of_tile (tile_with h r l s) ≡ h
unfolding header_of_tile
header_same h r l s rest good sizes texts =
    rw (good.node_number, good.edge_number, good.transition_number, sizes.chain_words, sizes.sequence_words, texts, sizes.info_bytes, sizes.text_bytes) refl

-- what passes has a spelling where its bytes are few, and what has one passes
abbrev pub InfosBounded : Type 0
InfosBounded = (count : ℕ) (infos : List Info) → InfosPass count infos → length (infos_bytes infos) < 2 ^ 32 → AreInfos count infos

abbrev pub TextsBounded : Type 0
TextsBounded = (names : List ℕ) (texts : List (List ℕ)) → TextsPass names texts → length (texts_bytes texts) < 2 ^ 32 → AreTexts names texts

abbrev pub AllInfosPass : Type 0
AllInfosPass = (count : ℕ) (infos : List Info) → AreInfos count infos → InfosPass count infos

abbrev pub AllTextsPass : Type 0
AllTextsPass = (names : List ℕ) (texts : List (List ℕ)) → AreTexts names texts → TextsPass names texts

-- the tile of what was read
made_of : AllInfosPass → AllTextsPass → (bytes : List ℕ) (h : Header) (r : TileRecords) (rest0 rest : List ℕ) (l : TileLists) (s : InfoSet) → HeaderTook bytes h rest0 → RecordsGood h r → rest0 ≡ records_bytes r rest
    → ListsTook h r.edges rest l → InfosTook h r.edges (behind_lists h rest) s → Sizes h r l s rest → TileSpelled bytes (tile_with h r l s)
unfolding spelling_of joined_bytes
made_of infos_pass texts_pass bytes h r rest0 rest l s head good records lists infos sizes =
    let t = tile_with h r l s in
    let same = header_same h r l s rest good sizes infos.text_number in
    let last = drop h.text_bytes (drop h.info_bytes (behind_lists h rest)) in
    let zeros : last ≡ replicate (gap (length (infos_bytes s.infos) + length (texts_bytes s.texts))) 0 =
    infos.padding ∙ ap (λ n. replicate n 0) (sizes.padding ∙ ap (λ n. gap (n + h.text_bytes)) (sym sizes.info_bytes) ∙ ap (λ n. gap (length (infos_bytes s.infos) + n)) (sym sizes.text_bytes)) in
    let back : behind_lists h rest ≡ infos_bytes s.infos ++ (texts_bytes s.texts ++ replicate (gap (length (infos_bytes s.infos) + length (texts_bytes s.texts))) 0) =
    sym (take-append-drop h.info_bytes (behind_lists h rest)) ∙ ap (λ x. x ++ drop h.info_bytes (behind_lists h rest)) infos.info_section
    ∙ ap (λ x. infos_bytes s.infos ++ x) (sym (take-append-drop h.text_bytes (drop h.info_bytes (behind_lists h rest))) ∙ ap (λ x. x ++ last) infos.text_section ∙ ap (λ x. texts_bytes s.texts ++ x) zeros) in
    let whole : rest ≡ flat_map chain_bytes l.chains ++ (flat_map sequence_bytes l.sequences ++ (infos_bytes s.infos ++ (texts_bytes s.texts ++ replicate (gap (length (infos_bytes s.infos) + length (texts_bytes s.texts))) 0))) =
    sym (take-append-drop (8 * h.chain_words) rest) ∙ ap (λ x. x ++ drop (8 * h.chain_words) rest) lists.chain_section
    ∙ ap (λ x. flat_map chain_bytes l.chains ++ x) (sym (take-append-drop (8 * h.sequence_words) (drop (8 * h.chain_words) rest)) ∙ ap (λ x. x ++ behind_lists h rest) lists.sequence_section ∙ ap (λ x. flat_map sequence_bytes l.sequences ++ x) back) in
    record {
      passes = record {
        id = head.good.tile;
        modes = head.good.modes;
        few_nodes = subst (λ (n : ℕ). n ≤ MOST_RECORDS) (sym good.node_number) head.good.few_nodes;
        few_edges = subst (λ (n : ℕ). n ≤ MOST_RECORDS) (sym good.edge_number) head.good.few_edges;
        few_transitions = rw (good.transition_number, good.node_number) head.good.few_transitions;
        nodes = good.nodes;
        edge_counts = good.edge_counts ∙ sym good.edge_number;
        transition_counts = good.transition_counts ∙ sym good.transition_number;
        edges = good.edges;
        transitions = good.transitions;
        chains = lists.good.chains;
        chain_places = lists.good.chain_places;
        sequences = lists.good.sequences;
        infos = infos_pass (length s.texts) s.infos (rw infos.text_number infos.infos);
        entries = infos.entries;
        texts = texts_pass (names_of s.infos) s.texts infos.texts;
      };
      fits = record {
        chains = subst (λ (n : ℕ). n < 2 ^ 32) (sym sizes.chain_words) head.good.chain_words;
        sequences = subst (λ (n : ℕ). n < 2 ^ 32) (sym sizes.sequence_words) head.good.sequence_words;
        infos = subst (λ (n : ℕ). n < 2 ^ 32) (sym sizes.info_bytes) head.good.info_bytes;
        texts = subst (λ (n : ℕ). n < 2 ^ 32) (sym sizes.text_bytes) head.good.text_bytes;
      };
      spelled = head.spelled_so ∙ ap (λ k. words_bytes (header_words k) ++ rest0) (sym same) ∙ ap (λ x. words_bytes (header_words (header_of_tile t)) ++ x) (records ∙ ap (records_bytes r) whole);
    }

sized : (n e d r0 c s i t g len : ℕ) → r0 + 64 ≡ 64 + 32 * n + 32 * e + 8 * d + 8 * c + 8 * s + (i + t) + g → r0 ≡ 32 * n + 32 * e + 8 * d + len → len ≡ 8 * c + 8 * s + (i + t) + g
sized n e d r0 c s i t g len a b = omega arith

numbered : (r0 a b c n e d len : ℕ) → r0 ≡ 32 * a + 32 * b + 8 * c + len → a ≡ n → b ≡ e → c ≡ d → r0 ≡ 32 * n + 32 * e + 8 * d + len
numbered r0 a b c n e d len h p q r = omega arith

joined_front : (a b c rest : List ℕ) → a ++ (b ++ (c ++ rest)) ≡ (a ++ (b ++ c)) ++ rest
joined_front a b c rest = ap (λ x. a ++ x) (sym (append_assoc b c rest)) ∙ sym (append_assoc a (b ++ c) rest)

module _ (infos_pass : AllInfosPass) (texts_pass : AllTextsPass)
    (records_take : (end : ℕ) (h : Header) (rest : List ℕ) (r : TileRecords) (after : List ℕ) → IsByteList rest → records_at end h rest ≡ Ok (r, after) → RecordsGood h r × (rest ≡ records_bytes r after))
    (infos_take : (end : ℕ) (h : Header) (edges : List EdgeFields) (rest : List ℕ) (s : InfoSet) → IsByteList rest → infos_at end h edges rest ≡ Ok s → InfosTook h edges rest s) where
  pub tile_takes : (bytes : List ℕ) (tile : Tile) → IsByteList bytes → tile_at bytes ≡ Ok tile → TileSpelled bytes tile
  unfolding tile_at
  tile_takes bytes tile fits e =
      let end = length bytes in
      let a = bind_ok (header_at bytes) (after_header end) tile e in
      let h = a.0.0 in
      let rest0 = a.0.1 in
      let head = header_takes bytes h rest0 fits a.1 in
      let fits0 = IsByteList-rest bytes (words_bytes (header_words h)) rest0 fits head.spelled_so in
      let b = bind_ok (records_at end h rest0) (after_records end h) tile a.2 in
      let r = b.0.0 in
      let rest = b.0.1 in
      let records = records_take end h rest0 r rest fits0 b.1 in
      let front = flat_map node_bytes r.nodes ++ (flat_map edge_bytes r.edges ++ words_bytes r.transitions) in
      let regrouped : rest0 ≡ front ++ rest = records.1 ∙ joined_front (flat_map node_bytes r.nodes) (flat_map edge_bytes r.edges) (words_bytes r.transitions) rest in
      let fits1 = IsByteList-rest rest0 front rest fits0 regrouped in
      let d = bind_ok (lists_at end h r.edges rest) (after_lists end h r rest) tile b.2 in
      let l = d.0 in
      let lists = lists_take end h r.edges rest l fits1 d.1 in
      let f = bind_ok (infos_at end h r.edges (behind_lists h rest)) (λ s. Ok (tile_with h r l s)) tile d.2 in
      let s = f.0 in
      let infos = infos_take end h r.edges (behind_lists h rest) s (IsByteList-drop (8 * h.sequence_words) (behind_words h.chain_words rest) (IsByteList-drop (8 * h.chain_words) rest fits1)) f.1 in
      let size : length rest ≡ 8 * h.chain_words + 8 * h.sequence_words + (h.info_bytes + h.text_bytes) + gap (h.info_bytes + h.text_bytes) =
      sized h.nodes h.edges h.transitions (length rest0) h.chain_words h.sequence_words h.info_bytes h.text_bytes (gap (h.info_bytes + h.text_bytes)) (length rest) head.left
      (numbered (length rest0) (length r.nodes) (length r.edges) (length r.transitions) h.nodes h.edges h.transitions (length rest) (ap length records.1 ∙ records_bytes-length r rest) records.0.node_number records.0.edge_number records.0.transition_number) in
      subst (λ (t : Tile). TileSpelled bytes t) (ok_is {F = FailedCheck} (tile_with h r l s) tile f.2)
      (made_of infos_pass texts_pass bytes h r rest0 rest l s head records.0 records.1 lists infos (sizes_are h r l s rest size lists infos))

-- ---- again

pub texts_count : (texts : List (List ℕ)) → length texts ≤ length (texts_bytes texts)
unfolding text_bytes
texts_count [] = omega arith
texts_count (t ∷ ts) =
    let len : length (texts_bytes (t ∷ ts)) ≡ length (half_bytes (length t) ++ t) + length (texts_bytes ts) = ap length (flat_map-cons text_bytes t ts) ∙ length-append (text_bytes t) (texts_bytes ts) in
    omega (arith, len, length-append (half_bytes (length t)) t, half_length (length t), texts_count ts)

header_good : (tile : Tile) → PassesChecks tile → FitsHeader tile → IsTileHeader (header_of_tile tile)
unfolding header_of_tile
header_good tile passes fits = record {
  tile = passes.id;
  few_nodes = passes.few_nodes;
  few_edges = passes.few_edges;
  few_transitions = passes.few_transitions;
  chain_words = fits.chains;
  sequence_words = fits.sequences;
  texts = (let a = texts_count tile.texts in let b = fits.texts in omega arith);
  info_bytes = fits.infos;
  text_bytes = fits.texts;
  modes = passes.modes;
}

abbrev pub zeros_of : Tile → List ℕ
zeros_of tile = replicate (gap (length (infos_bytes tile.infos) + length (texts_bytes tile.texts))) 0

abbrev pub back_of : Tile → List ℕ
back_of tile = infos_bytes tile.infos ++ (texts_bytes tile.texts ++ zeros_of tile)

abbrev pub lists_of : Tile → List ℕ
lists_of tile = flat_map chain_bytes tile.chains ++ (flat_map sequence_bytes tile.sequences ++ back_of tile)

abbrev pub records_of : Tile → TileRecords
records_of tile = records_with tile.nodes tile.edges tile.transitions

back_length : (tile : Tile) → length (back_of tile) ≡ length (infos_bytes tile.infos) + length (texts_bytes tile.texts) + gap (length (infos_bytes tile.infos) + length (texts_bytes tile.texts))
back_length tile =
    let g = gap (length (infos_bytes tile.infos) + length (texts_bytes tile.texts)) in
    let a = length-append (infos_bytes tile.infos) (texts_bytes tile.texts ++ zeros_of tile) in
    let b = length-append (texts_bytes tile.texts) (zeros_of tile) in
    let c = length-replicate {A = ℕ} g 0 in
    a ∙ ap (λ n. length (infos_bytes tile.infos) + n) (b ∙ ap (λ n. length (texts_bytes tile.texts) + n) c) ∙ three_sum (length (infos_bytes tile.infos)) (length (texts_bytes tile.texts)) g
  where
    three_sum : (a b c : ℕ) → a + (b + c) ≡ a + b + c
    three_sum a b c = omega arith

lists_length : (tile : Tile) → length (lists_of tile) ≡ 8 * words_of_chains tile.chains + (8 * words_of_sequences tile.sequences + length (back_of tile))
lists_length tile =
    length-append (flat_map chain_bytes tile.chains) (flat_map sequence_bytes tile.sequences ++ back_of tile)
    ∙ ap (λ n. n + length (flat_map sequence_bytes tile.sequences ++ back_of tile)) (chains_bytes-length tile.chains)
    ∙ ap (λ n. 8 * words_of_chains tile.chains + n) (length-append (flat_map sequence_bytes tile.sequences) (back_of tile) ∙ ap (λ n. n + length (back_of tile)) (sequences_bytes-length tile.sequences))

whole_size : (r0 n e t len c s back i x g : ℕ) → r0 ≡ 32 * n + 32 * e + 8 * t + len → len ≡ 8 * c + (8 * s + back) → back ≡ i + x + g → r0 + 64 ≡ 64 + 32 * n + 32 * e + 8 * t + 8 * c + 8 * s + (i + x) + g
whole_size r0 n e t len c s back i x g a b d = omega arith

size_again : (tile : Tile) → length (records_bytes (records_of tile) (lists_of tile)) + 64 ≡ file_size (header_of_tile tile)
unfolding header_of_tile
size_again tile =
    whole_size (length (records_bytes (records_of tile) (lists_of tile))) (length tile.nodes) (length tile.edges) (length tile.transitions) (length (lists_of tile)) (words_of_chains tile.chains) (words_of_sequences tile.sequences) (length (back_of tile))
    (length (infos_bytes tile.infos)) (length (texts_bytes tile.texts)) (gap (length (infos_bytes tile.infos) + length (texts_bytes tile.texts)))
    (records_bytes-length (records_of tile) (lists_of tile)) (lists_length tile) (back_length tile)

records_good : (tile : Tile) → PassesChecks tile → RecordsGood (header_of_tile tile) (records_of tile)
unfolding header_of_tile
records_good tile passes = record { nodes = passes.nodes; edge_counts = passes.edge_counts; transition_counts = passes.transition_counts; edges = passes.edges; transitions = passes.transitions; node_number = refl; edge_number = refl; transition_number = refl }

abbrev tile_lists : Tile → TileLists
tile_lists tile = record { chains = tile.chains; sequences = tile.sequences }

abbrev tile_infos : Tile → InfoSet
tile_infos tile = record { infos = tile.infos; texts = tile.texts }

behind_chains : (tile : Tile) → drop (8 * words_of_chains tile.chains) (lists_of tile) ≡ flat_map sequence_bytes tile.sequences ++ back_of tile
behind_chains tile = drop_at (flat_map chain_bytes tile.chains) (flat_map sequence_bytes tile.sequences ++ back_of tile) (8 * words_of_chains tile.chains) (chains_bytes-length tile.chains)

behind_both : (tile : Tile) → drop (8 * words_of_sequences tile.sequences) (drop (8 * words_of_chains tile.chains) (lists_of tile)) ≡ back_of tile
behind_both tile =
    ap (drop (8 * words_of_sequences tile.sequences)) (behind_chains tile)
    ∙ drop_at (flat_map sequence_bytes tile.sequences) (back_of tile) (8 * words_of_sequences tile.sequences) (sequences_bytes-length tile.sequences)

lists_good : (tile : Tile) → PassesChecks tile → ListsTook (header_of_tile tile) tile.edges (lists_of tile) (tile_lists tile)
unfolding header_of_tile
lists_good tile passes = record {
  good = record { chains = passes.chains; chain_places = passes.chain_places; sequences = passes.sequences };
  chain_section = take_at (flat_map chain_bytes tile.chains) (flat_map sequence_bytes tile.sequences ++ back_of tile) (8 * words_of_chains tile.chains) (chains_bytes-length tile.chains);
  sequence_section = ap (take (8 * words_of_sequences tile.sequences)) (behind_chains tile)
      ∙ take_at (flat_map sequence_bytes tile.sequences) (back_of tile) (8 * words_of_sequences tile.sequences) (sequences_bytes-length tile.sequences);
}

zeros_all : (g : ℕ) (last : List ℕ) → last ≡ replicate g 0 → last ≡ replicate (length last) 0
zeros_all g last e =
    let n : length last ≡ g = ap length e ∙ length-replicate {A = ℕ} g 0 in
    e ∙ ap (λ k. replicate k 0) (sym n)

infos_good : InfosBounded → TextsBounded → (tile : Tile) → PassesChecks tile → FitsHeader tile → InfosTook (header_of_tile tile) tile.edges (behind_lists (header_of_tile tile) (lists_of tile)) (tile_infos tile)
unfolding header_of_tile
infos_good infos_bounded texts_bounded tile passes small =
    let i = length (infos_bytes tile.infos) in
    let t = length (texts_bytes tile.texts) in
    let tail = texts_bytes tile.texts ++ zeros_of tile in
    let at = behind_both tile in
    let behind : drop i (drop (8 * words_of_sequences tile.sequences) (drop (8 * words_of_chains tile.chains) (lists_of tile))) ≡ tail = ap (drop i) at ∙ drop_at (infos_bytes tile.infos) tail i refl in
    record {
      infos = infos_bounded (length tile.texts) tile.infos passes.infos small.infos;
      entries = passes.entries;
      texts = texts_bounded (names_of tile.infos) tile.texts passes.texts small.texts;
      text_number = refl;
      info_section = ap (take i) at ∙ take_at (infos_bytes tile.infos) tail i refl;
      text_section = ap (take t) behind ∙ take_at (texts_bytes tile.texts) (zeros_of tile) t refl;
      padding = zeros_all (gap (i + t)) _ (ap (drop t) behind ∙ drop_at (texts_bytes tile.texts) (zeros_of tile) t refl);
    }

chained : (bytes : List ℕ) (h : Header) (r : TileRecords) (rest0 rest : List ℕ) (l : TileLists) (s : InfoSet)
    → header_at bytes ≡ Ok (h, rest0) → records_at (length bytes) h rest0 ≡ Ok (r, rest) → lists_at (length bytes) h r.edges rest ≡ Ok l → infos_at (length bytes) h r.edges (behind_lists h rest) ≡ Ok s
    → tile_at bytes ≡ Ok (tile_with h r l s)
unfolding tile_at
chained bytes h r rest0 rest l s e0 e1 e2 e3 = rw (e0, e1, e2, e3) refl

pub spelled_parts : (tile : Tile) → spelling_of tile ≡ words_bytes (header_words (header_of_tile tile)) ++ records_bytes (records_of tile) (lists_of tile)
unfolding spelling_of joined_bytes
spelled_parts tile = refl

whole_again : (tile : Tile) → tile_with (header_of_tile tile) (records_of tile) (tile_lists tile) (tile_infos tile) ≡ tile
unfolding header_of_tile
whole_again tile = refl

corner_again : (tile : Tile) → PassesChecks tile → corner_word (header_of_tile tile).id < 2 ^ 64
unfolding header_of_tile
corner_again tile passes = corner_below tile.id passes.id

module _ (infos_bounded : InfosBounded) (texts_bounded : TextsBounded)
    (records_again : (end : ℕ) (h : Header) (r : TileRecords) (after : List ℕ) → RecordsGood h r → records_at end h (records_bytes r after) ≡ Ok (r, after))
    (infos_again : (end : ℕ) (h : Header) (edges : List EdgeFields) (rest : List ℕ) (s : InfoSet) → InfosTook h edges rest s → infos_at end h edges rest ≡ Ok s) where
  pub tile_again : (bytes : List ℕ) (tile : Tile) → TileSpelled bytes tile → tile_at bytes ≡ Ok tile
  tile_again bytes tile is =
      let h = header_of_tile tile in
      let r = records_of tile in
      let rest = lists_of tile in
      let rest0 = records_bytes r rest in
      let good = header_good tile is.passes is.fits in
      let parts : bytes ≡ words_bytes (header_words h) ++ rest0 = is.spelled ∙ spelled_parts tile in
      let e0 : header_at bytes ≡ Ok (h, rest0) = ap header_at parts ∙ header_again h rest0 good (corner_again tile is.passes) (size_again tile) in
      chained bytes h r rest0 rest (tile_lists tile) (tile_infos tile) e0 (records_again (length bytes) h r rest (records_good tile is.passes))
      (lists_again (length bytes) h tile.edges rest (tile_lists tile) (lists_good tile is.passes))
      (infos_again (length bytes) h tile.edges (behind_lists h rest) (tile_infos tile) (infos_good infos_bounded texts_bounded tile is.passes is.fits))
      ∙ ap (λ (t : Tile). Ok t) (whole_again tile)
