-- What is written, from its parts.
use Rattle.std.proofs.Common.{◌≡◌, ℕ, ◌+◌, ◌^◌, Bool, true, false, cond, ltb, List, [], ◌∷◌, ◌++◌, length, replicate, Option, Some, None, refl, sym, ap, ◌∙◌, append_assoc}
use Rattle.std.specs.List.{flat_map}
use Rattle.std.proofs.lemmas.Bool.{ltb-true}
use Rattle.section_grammar.specs.WordBytes.{words_bytes}
use Rattle.edge_info.specs.Entries.{infos_bytes}
use Rattle.edge_info.specs.Texts.{texts_bytes}
use Rattle.edge_info.specs.InfoSets.{gap, joined_bytes}
use Rattle.tile_bytes.specs.declared.header.Header.{Header}
use Rattle.tile_bytes.specs.declared.tile.Tile.{Tile}
use Rattle.tile_bytes.specs.Header.{header_words, names_tile}
use Rattle.tile_bytes.specs.Items.{node_bytes, edge_bytes}
use Rattle.tile_bytes.specs.Chains.{chain_bytes, words_of_chains}
use Rattle.tile_bytes.specs.Sequences.{sequence_bytes, words_of_sequences}
use Rattle.tile_bytes.specs.Tiles.{PassesChecks, FitsHeader, header_of_tile, spelling_of}
use Rattle.tile_bytes.specs.Writing.{first_above, section_counts}

-- ---- sizes

four_same : {a a' b b' c c' d d' : ℕ} → a ≡ a' → b ≡ b' → c ≡ c' → d ≡ d' → ◌≡◌ {A = List ℕ} (a ∷ b ∷ c ∷ d ∷ []) (a' ∷ b' ∷ c' ∷ d' ∷ [])
four_same e0 e1 e2 e3 = cc

-- the first of these sizes that is too large
pub counts_are : (tile : Tile) (c s i x : ℕ) (first : Option ℕ) → c ≡ words_of_chains tile.chains → s ≡ words_of_sequences tile.sequences → i ≡ length (infos_bytes tile.infos) → x ≡ length (texts_bytes tile.texts)
    → first ≡ first_above (c ∷ s ∷ i ∷ x ∷ []) → first_above (section_counts tile) ≡ first
counts_are tile c s i x first e0 e1 e2 e3 e = sym (e ∙ ap first_above (four_same e0 e1 e2 e3))

past : (b : Bool) (n : ℕ) (r : Option ℕ) → cond b r (Some n) ≡ None → (b ≡ true) × (r ≡ None)
past true n r e = (refl, e)
past false n r e = absurd cc

pub none_above : (tile : Tile) → first_above (section_counts tile) ≡ None → FitsHeader tile
none_above tile e =
    let i = length (infos_bytes tile.infos) in
    let x = length (texts_bytes tile.texts) in
    let a = past (ltb (words_of_chains tile.chains) (2 ^ 32)) (words_of_chains tile.chains) (first_above (words_of_sequences tile.sequences ∷ i ∷ x ∷ [])) e in
    let b = past (ltb (words_of_sequences tile.sequences) (2 ^ 32)) (words_of_sequences tile.sequences) (first_above (i ∷ x ∷ [])) a.1 in
    let d = past (ltb i (2 ^ 32)) i (first_above (x ∷ [])) b.1 in
    let f = past (ltb x (2 ^ 32)) x None d.1 in
    record { chains = ltb-true _ _ a.0; sequences = ltb-true _ _ b.0; infos = ltb-true _ _ d.0; texts = ltb-true _ _ f.0 }

-- ---- the bytes

pub names_it : (tile : Tile) (h : Header) → h ≡ header_of_tile tile → PassesChecks tile → names_tile h.id ≡ true
unfolding header_of_tile
names_it tile h e passes = ap (λ (k : Header). names_tile k.id) e ∙ passes.id

regrouped : (w n e t c s i x z : List ℕ) → (((w ++ (n ++ (e ++ t))) ++ (c ++ s)) ++ (i ++ x)) ++ z ≡ w ++ (n ++ (e ++ (t ++ (c ++ (s ++ (i ++ (x ++ z)))))))
regrouped w n e t c s i x z = simp append_assoc

pub parts_spell : (tile : Tile) (h : Header) (i x : ℕ) → h ≡ header_of_tile tile → i ≡ length (infos_bytes tile.infos) → x ≡ length (texts_bytes tile.texts)
    → (((words_bytes (header_words h) ++ (flat_map node_bytes tile.nodes ++ (flat_map edge_bytes tile.edges ++ words_bytes tile.transitions))) ++ (flat_map chain_bytes tile.chains ++ flat_map sequence_bytes tile.sequences)) ++ (infos_bytes tile.infos ++ texts_bytes tile.texts)) ++ replicate (gap (i + x)) 0 ≡ spelling_of tile
unfolding spelling_of joined_bytes
parts_spell tile h i x e0 e1 e2 =
    rw (e0, e1, e2) (regrouped (words_bytes (header_words (header_of_tile tile))) (flat_map node_bytes tile.nodes) (flat_map edge_bytes tile.edges) (words_bytes tile.transitions) (flat_map chain_bytes tile.chains) (flat_map sequence_bytes tile.sequences) (infos_bytes tile.infos) (texts_bytes tile.texts) _)
