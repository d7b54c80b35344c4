-- The sections of chains and sequences are read as they were written, and again.
use Rattle.std.proofs.Common.{◌≡◌, ℕ, ◌+◌, ◌*◌, Bool, true, false, cond, eqb, List, [], ◌∷◌, ◌++◌, length, drop, get_or, Ok, Err, refl, sym, ap, subst, ◌∙◌, arith}
use Rattle.std.specs.List.{flat_map}
use Rattle.std.proofs.lemmas.Bool.{eqb-true, eq-eqb}
use Rattle.std.proofs.lemmas.List.{append-nil, nil_from_length, length-append}
use Rattle.std.proofs.lemmas.List.Concat.{flat_map-cons}
use Rattle.graph_id.specs.GraphId.{level_of}
use Rattle.tile_records.specs.Edges.{EdgeFields}
use Rattle.section_grammar.specs.WordBytes.{IsByteList, word_bytes, words_bytes}
use Rattle.section_grammar.specs.Reads.{◌>>=◌, read_many, AllGood}
use Rattle.section_grammar.specs.Answers.{FailedCheck, Check, place_of, ended}
use Rattle.section_grammar.proofs.ByteLists.{IsByteList-take, IsByteList-drop}
use Rattle.section_grammar.proofs.WordLaws.{word_length, words_bytes-length}
use Rattle.section_grammar.proofs.Steps.{bind_ok, passed_ok, ok_is}
use Rattle.tile_bytes.specs.declared.header.Header.{Header}
use Rattle.tile_bytes.specs.declared.sequences.Sequence.{Sequence}
use Rattle.tile_bytes.specs.Chains.{chain_bytes, words_of_chains, IsTileChain, chain_at, chains_at, named_chains, chain_offsets, offsets_at}
use Rattle.tile_bytes.specs.Sequences.{sequence_bytes, words_of_sequences, IsTileSequence, sequences_at}
use Rattle.tile_bytes.specs.TileSections.{section_of_words, behind_words, chains_in_place}
use Rattle.tile_bytes.specs.TileReading.{TileLists, with_sequences, lists_at}
use Rattle.tile_bytes.proofs.ChainLaws.{chains_section}
use Rattle.tile_bytes.proofs.SequenceLaws.{sequences_filling}

-- ---- sizes

chain_length : (ids : List ℕ) → length (chain_bytes ids) ≡ 8 * (1 + length ids)
unfolding chain_bytes
chain_length ids = omega (arith, length-append (word_bytes (length ids)) (words_bytes ids), word_length (length ids), words_bytes-length ids)

pub chains_bytes-length : (chains : List (List ℕ)) → length (flat_map chain_bytes chains) ≡ 8 * words_of_chains chains
chains_bytes-length [] = refl
chains_bytes-length (c ∷ cs) = ap length (flat_map-cons chain_bytes c cs) ∙ omega (arith, length-append (chain_bytes c) (flat_map chain_bytes cs), chain_length c, chains_bytes-length cs)

sequence_length : (s : Sequence) → length (sequence_bytes s) ≡ 8 * (1 + length s.edges)
unfolding sequence_bytes
sequence_length s = (let w = length s.edges + 2 * s.modes in omega (arith, length-append (word_bytes (length s.edges + 65536 * s.modes)) (words_bytes s.edges), word_length (length s.edges + 65536 * s.modes), words_bytes-length s.edges))

pub sequences_bytes-length : (ss : List Sequence) → length (flat_map sequence_bytes ss) ≡ 8 * words_of_sequences ss
sequences_bytes-length [] = refl
sequences_bytes-length (s ∷ ss) = ap length (flat_map-cons sequence_bytes s ss) ∙ omega (arith, length-append (sequence_bytes s) (flat_map sequence_bytes ss), sequence_length s, sequences_bytes-length ss)

pub offsets-length : (at : ℕ) (chains : List (List ℕ)) → length (chain_offsets at chains) ≡ length chains
offsets-length at [] = refl
offsets-length at (c ∷ cs) = omega (arith, offsets-length (at + (1 + length c)) cs)

-- ---- where chains begin

offsets_step : (at : ℕ) (e : EdgeFields) (es : List EdgeFields) (u : Unit {0}) (b : Bool) (offs : List ℕ)
    → ((offs : List ℕ) → offsets_at (at + 32) es offs ≡ Ok u → length offs ≡ length (named_chains es) → named_chains es ≡ offs)
    → cond b (cond (eqb e.chain (get_or offs 0 0)) (offsets_at (at + 32) es (drop 1 offs)) (Err (Check 11 at))) (offsets_at (at + 32) es offs) ≡ Ok u
    → length offs ≡ length (cond b (e.chain ∷ named_chains es) (named_chains es)) → cond b (e.chain ∷ named_chains es) (named_chains es) ≡ offs
offsets_step at e es u true [] more h len = absurd (omega arith)
offsets_step at e es u true (o ∷ os) more h len =
    let a = passed_ok (eqb e.chain o) (Check 11 at) (offsets_at (at + 32) es os) u h in
    let here : e.chain ≡ o = eqb-true _ _ a.0 in
    ap (λ n. n ∷ named_chains es) here ∙ ap (λ l. o ∷ l) (more os a.1 (omega arith))
offsets_step at e es u false offs more h len = more offs h len

pub offsets_are : (at : ℕ) (es : List EdgeFields) (offs : List ℕ) (u : Unit {0}) → offsets_at at es offs ≡ Ok u → length offs ≡ length (named_chains es) → named_chains es ≡ offs
unfolding offsets_at
offsets_are at [] offs u h len = sym (nil_from_length offs len)
offsets_are at (e ∷ es) offs u h len = offsets_step at e es u e.shortcut offs (λ rest k n. offsets_are (at + 32) es rest u k n) h len

again_step : (at : ℕ) (e : EdgeFields) (es : List EdgeFields) (b : Bool) → offsets_at (at + 32) es (named_chains es) ≡ Ok tt
    → cond b (cond (eqb e.chain (get_or (cond b (e.chain ∷ named_chains es) (named_chains es)) 0 0)) (offsets_at (at + 32) es (drop 1 (cond b (e.chain ∷ named_chains es) (named_chains es)))) (Err (Check 11 at)))
    (offsets_at (at + 32) es (cond b (e.chain ∷ named_chains es) (named_chains es))) ≡ Ok tt
again_step at e es true more = ap (λ t. cond t (offsets_at (at + 32) es (named_chains es)) (Err (Check 11 at))) (eq-eqb e.chain e.chain refl) ∙ more
again_step at e es false more = more

pub offsets_again : (at : ℕ) (es : List EdgeFields) → offsets_at at es (named_chains es) ≡ Ok tt
unfolding offsets_at
offsets_again at [] = refl
offsets_again at (e ∷ es) = again_step at e es e.shortcut (offsets_again (at + 32) es)

-- ---- the sections

pub chains_take : (level end count : ℕ) (rest : List ℕ) (chains : List (List ℕ)) → IsByteList rest → chains_at level end count rest ≡ Ok chains
    → AllGood (IsTileChain level) [] chains × (rest ≡ flat_map chain_bytes chains) × (length chains ≡ count)
unfolding chains_at
chains_take level end count rest chains fits e =
    let a = bind_ok (read_many (chain_at level end) count [] rest) (λ x. ended 11 end x.0 x.1) chains e in
    let g = passed_ok (eqb (length a.0.1) 0) (Check 11 (place_of end a.0.1)) (Ok a.0.0) chains a.2 in
    let found = (chains_section level end).found count rest a.0.0 a.0.1 fits a.1 in
    let none : a.0.1 ≡ [] = nil_from_length a.0.1 (eqb-true _ _ g.0) in
    let all : rest ≡ flat_map chain_bytes a.0.0 = found.1 ∙ ap (λ t. flat_map chain_bytes a.0.0 ++ t) none ∙ append-nil (flat_map chain_bytes a.0.0) in
    subst (λ (x : List (List ℕ)). AllGood (IsTileChain level) [] x × (rest ≡ flat_map chain_bytes x) × (length x ≡ count)) (ok_is {F = FailedCheck} a.0.0 chains g.1) (found.0, all, found.2)

pub chains_again : (level end : ℕ) (chains : List (List ℕ)) → AllGood (IsTileChain level) [] chains → chains_at level end (length chains) (flat_map chain_bytes chains) ≡ Ok chains
unfolding chains_at
chains_again level end chains good =
    let k : read_many (chain_at level end) (length chains) [] (flat_map chain_bytes chains) ≡ Ok (chains, []) =
    ap (λ t. read_many (chain_at level end) (length chains) [] t) (sym (append-nil (flat_map chain_bytes chains))) ∙ (chains_section level end).spelled chains [] good in
    rw k refl

pub record ListsGood (level : ℕ) (edges : List EdgeFields) (l : TileLists) : Type 0 where
  pub chains : AllGood (IsTileChain level) [] l.chains
  pub chain_places : named_chains edges ≡ chain_offsets 0 l.chains
  pub sequences : AllGood IsTileSequence [] l.sequences

pub record ListsTook (h : Header) (edges : List EdgeFields) (rest : List ℕ) (l : TileLists) : Type 0 where
  pub good : ListsGood (level_of h.id) edges l
  pub chain_section : section_of_words h.chain_words rest ≡ flat_map chain_bytes l.chains
  pub sequence_section : section_of_words h.sequence_words (behind_words h.chain_words rest) ≡ flat_map sequence_bytes l.sequences

abbrev lists_with : List (List ℕ) → List Sequence → TileLists
lists_with chains sequences = record { chains = chains; sequences = sequences }

pub lists_take : (end : ℕ) (h : Header) (edges : List EdgeFields) (rest : List ℕ) (l : TileLists) → IsByteList rest → lists_at end h edges rest ≡ Ok l → ListsTook h edges rest l
unfolding lists_at chains_in_place
lists_take end h edges rest l fits e =
    let section = section_of_words h.chain_words rest in
    let behind = behind_words h.chain_words rest in
    let chain_end = place_of end behind in
    let a = bind_ok (chains_in_place h edges chain_end section) (with_sequences end h behind) l e in
    let b = bind_ok (chains_at (level_of h.id) chain_end (length (named_chains edges)) section) (λ chains. offsets_at (64 + 32 * h.nodes) edges (chain_offsets 0 chains) >>= λ _. Ok chains) a.0 a.1 in
    let d = bind_ok (offsets_at (64 + 32 * h.nodes) edges (chain_offsets 0 b.0)) (λ _. Ok b.0) a.0 b.2 in
    let took = chains_take (level_of h.id) chain_end (length (named_chains edges)) section b.0 (IsByteList-take (8 * h.chain_words) rest fits) b.1 in
    let places = offsets_are (64 + 32 * h.nodes) edges (chain_offsets 0 b.0) d.0 d.1 (offsets-length 0 b.0 ∙ took.2) in
    let same : b.0 ≡ a.0 = ok_is {F = FailedCheck} b.0 a.0 d.2 in
    let section2 = section_of_words h.sequence_words behind in
    let end2 = place_of end (behind_words h.sequence_words behind) in
    let f = bind_ok (sequences_at end2 section2) (λ s. Ok (lists_with a.0 s)) l a.2 in
    let filled = (sequences_filling end2).filled (length section2) section2 f.0 (IsByteList-take (8 * h.sequence_words) behind (IsByteList-drop (8 * h.chain_words) rest fits)) (omega arith) f.1 in
    subst (λ (x : TileLists). ListsTook h edges rest x) (ap (λ c. lists_with c f.0) same ∙ ok_is {F = FailedCheck} (lists_with a.0 f.0) l f.2)
    (record { good = record { chains = took.0; chain_places = places; sequences = filled.0 }; chain_section = took.1; sequence_section = filled.1 })

pub lists_again : (end : ℕ) (h : Header) (edges : List EdgeFields) (rest : List ℕ) (l : TileLists) → ListsTook h edges rest l → lists_at end h edges rest ≡ Ok l
unfolding lists_at chains_in_place
lists_again end h edges rest l took =
    let behind = behind_words h.chain_words rest in
    let chain_end = place_of end behind in
    let count : length (named_chains edges) ≡ length l.chains = ap length took.good.chain_places ∙ offsets-length 0 l.chains in
    let one : chains_at (level_of h.id) chain_end (length (named_chains edges)) (section_of_words h.chain_words rest) ≡ Ok l.chains =
    ap (λ s. chains_at (level_of h.id) chain_end (length (named_chains edges)) s) took.chain_section
    ∙ ap (λ n. chains_at (level_of h.id) chain_end n (flat_map chain_bytes l.chains)) count ∙ chains_again (level_of h.id) chain_end l.chains took.good.chains in
    let two : offsets_at (64 + 32 * h.nodes) edges (chain_offsets 0 l.chains) ≡ Ok tt =
    ap (offsets_at (64 + 32 * h.nodes) edges) (sym took.good.chain_places) ∙ offsets_again (64 + 32 * h.nodes) edges in
    let end2 = place_of end (behind_words h.sequence_words behind) in
    let three : sequences_at end2 (section_of_words h.sequence_words behind) ≡ Ok l.sequences =
    ap (λ s. sequences_at end2 s) took.sequence_section ∙ (sequences_filling end2).refilled (length (flat_map sequence_bytes l.sequences)) l.sequences took.good.sequences (omega arith) in
    rw (one, two, three) refl
