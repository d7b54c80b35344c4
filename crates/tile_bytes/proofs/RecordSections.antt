-- The sections of nodes, edges and transitions are read as they were written, and again.
use Rattle.std.proofs.Common.{◌≡◌, ℕ, ◌+◌, ◌*◌, cond, eqb, ◌&&◌, List, [], ◌∷◌, ◌++◌, length, Ok, Err, refl, sym, ap, subst, ◌∙◌, arith}
use Rattle.std.specs.List.{flat_map}
use Rattle.std.proofs.lemmas.Bool.{eqb-true, eq-eqb, and_parts, and_from}
use Rattle.std.proofs.lemmas.List.{length-append}
use Rattle.std.proofs.lemmas.List.Concat.{flat_map-cons}
use Rattle.graph_id.specs.GraphId.{level_of, tile_of_id}
use Rattle.tile_records.specs.Nodes.{NodeFields, node_words}
use Rattle.tile_records.specs.Edges.{EdgeFields, edge_words}
use Rattle.section_grammar.specs.WordBytes.{IsByteList, words_bytes}
use Rattle.section_grammar.specs.Reads.{read_many, AllGood}
use Rattle.section_grammar.specs.Answers.{FailedCheck, Check, place_of}
use Rattle.section_grammar.specs.Sections.{IsSection}
use Rattle.section_grammar.proofs.ByteLists.{IsByteList-rest}
use Rattle.section_grammar.proofs.WordLaws.{words_bytes-length}
use Rattle.section_grammar.proofs.Steps.{bind_ok, passed_ok, ok_is}
use Rattle.tile_bytes.specs.declared.ids.LevelRule.TheVariants as rules
use Rattle.tile_bytes.specs.declared.header.Header.{Header}
use Rattle.tile_bytes.specs.Items.{node_record_at, node_bytes, IsNodeRecord, edges_of_nodes, transitions_of_nodes, edge_record_at, edge_bytes, IsEdgeRecord, id_at, IsId}
use Rattle.tile_bytes.specs.TileSections.{nodes_at, edges_at, transitions_at, TileRecords, with_transitions, with_edges, records_at}
use Rattle.tile_bytes.proofs.IdLaws.{ids_section}

-- records that a header's sections may hold
pub record RecordsGood (h : Header) (r : TileRecords) : Type 0 where
  pub nodes : AllGood (IsNodeRecord (level_of h.id) (tile_of_id h.id)) [] r.nodes
  pub edge_counts : edges_of_nodes r.nodes ≡ h.edges
  pub transition_counts : transitions_of_nodes r.nodes ≡ h.transitions
  pub edges : AllGood (IsEdgeRecord (level_of h.id)) [] r.edges
  pub transitions : AllGood (IsId (rules.Except (level_of h.id))) [] r.transitions
  pub node_number : length r.nodes ≡ h.nodes
  pub edge_number : length r.edges ≡ h.edges
  pub transition_number : length r.transitions ≡ h.transitions

abbrev pub records_bytes : TileRecords → List ℕ → List ℕ
records_bytes r after = flat_map node_bytes r.nodes ++ (flat_map edge_bytes r.edges ++ (words_bytes r.transitions ++ after))

abbrev pub records_with : List NodeFields → List EdgeFields → List ℕ → TileRecords
records_with nodes edges transitions = record { nodes = nodes; edges = edges; transitions = transitions }

four_words_long : (words : List ℕ) → length words ≡ 4 → length (words_bytes words) ≡ 32
four_words_long words e = omega (arith, words_bytes-length words)

node_four : (n : NodeFields) → length (node_words n) ≡ 4
unfolding node_words
node_four n = refl

edge_four : (e : EdgeFields) → length (edge_words e) ≡ 4
unfolding edge_words
edge_four e = refl

pub nodes_bytes-length : (nodes : List NodeFields) → length (flat_map node_bytes nodes) ≡ 32 * length nodes
nodes_bytes-length [] = refl
nodes_bytes-length (n ∷ ns) = ap length (flat_map-cons node_bytes n ns) ∙ omega (arith, length-append (node_bytes n) (flat_map node_bytes ns), four_words_long (node_words n) (node_four n), nodes_bytes-length ns)

pub edges_bytes-length : (edges : List EdgeFields) → length (flat_map edge_bytes edges) ≡ 32 * length edges
edges_bytes-length [] = refl
edges_bytes-length (e ∷ es) = ap length (flat_map-cons edge_bytes e es) ∙ omega (arith, length-append (edge_bytes e) (flat_map edge_bytes es), four_words_long (edge_words e) (edge_four e), edges_bytes-length es)

records_join : (r : TileRecords) (rest rest1 rest2 after : List ℕ) → rest ≡ flat_map node_bytes r.nodes ++ rest1 → rest1 ≡ flat_map edge_bytes r.edges ++ rest2 → rest2 ≡ words_bytes r.transitions ++ after → rest ≡ records_bytes r after
records_join r rest rest1 rest2 after a b c =
    a ∙ ap (λ l. flat_map node_bytes r.nodes ++ l) (b ∙ ap (λ l. flat_map edge_bytes r.edges ++ l) c)

pub records_bytes-length : (r : TileRecords) (after : List ℕ) → length (records_bytes r after) ≡ 32 * length r.nodes + 32 * length r.edges + 8 * length r.transitions + length after
records_bytes-length r after =
    omega (
      arith,
      length-append (flat_map node_bytes r.nodes) (flat_map edge_bytes r.edges ++ (words_bytes r.transitions ++ after)),
      length-append (flat_map edge_bytes r.edges) (words_bytes r.transitions ++ after),
      length-append (words_bytes r.transitions) after,
      nodes_bytes-length r.nodes,
      edges_bytes-length r.edges,
      words_bytes-length r.transitions,
    )

module _ (node_section : (level tile end : ℕ) → IsSection (node_record_at level tile end) node_bytes (IsNodeRecord level tile))
    (edge_section : (level end : ℕ) → IsSection (edge_record_at level end) edge_bytes (IsEdgeRecord level)) where
  nodes_take : (end : ℕ) (h : Header) (rest : List ℕ) (nodes : List NodeFields) (after : List ℕ) → IsByteList rest → nodes_at end h rest ≡ Ok (nodes, after)
      → AllGood (IsNodeRecord (level_of h.id) (tile_of_id h.id)) [] nodes × (rest ≡ flat_map node_bytes nodes ++ after) × (length nodes ≡ h.nodes) × (edges_of_nodes nodes ≡ h.edges) × (transitions_of_nodes nodes ≡ h.transitions)
  unfolding nodes_at
  nodes_take end h rest nodes after fits e =
      let item = node_record_at (level_of h.id) (tile_of_id h.id) end in
      let a = bind_ok (read_many item h.nodes [] rest) (λ x. cond (eqb (edges_of_nodes x.0) h.edges && eqb (transitions_of_nodes x.0) h.transitions) (Ok x) (Err (Check 8 (place_of end x.1)))) (nodes, after) e in
      let g = passed_ok (eqb (edges_of_nodes a.0.0) h.edges && eqb (transitions_of_nodes a.0.0) h.transitions) (Check 8 (place_of end a.0.1)) (Ok a.0) (nodes, after) a.2 in
      let t = and_parts (eqb (edges_of_nodes a.0.0) h.edges) (eqb (transitions_of_nodes a.0.0) h.transitions) g.0 in
      let found = (node_section (level_of h.id) (tile_of_id h.id) end).found h.nodes rest a.0.0 a.0.1 fits a.1 in
      subst (λ (x : List NodeFields × List ℕ). AllGood (IsNodeRecord (level_of h.id) (tile_of_id h.id)) [] x.0 × (rest ≡ flat_map node_bytes x.0 ++ x.1) × (length x.0 ≡ h.nodes) × (edges_of_nodes x.0 ≡ h.edges) × (transitions_of_nodes x.0 ≡ h.transitions))
      (ok_is {F = FailedCheck} a.0 (nodes, after) g.1) (found.0, found.1, found.2, eqb-true _ _ t.0, eqb-true _ _ t.1)

  pub records_take : (end : ℕ) (h : Header) (rest : List ℕ) (r : TileRecords) (after : List ℕ) → IsByteList rest → records_at end h rest ≡ Ok (r, after) → RecordsGood h r × (rest ≡ records_bytes r after)
  unfolding records_at edges_at transitions_at
  records_take end h rest r after fits e =
      let a = bind_ok (nodes_at end h rest) (λ x. with_edges end h x.0 x.1) (r, after) e in
      let ns = a.0.0 in
      let s1 = nodes_take end h rest ns a.0.1 fits a.1 in
      let fits1 = IsByteList-rest rest (flat_map node_bytes ns) a.0.1 fits s1.1 in
      let b = bind_ok (edges_at end h a.0.1) (λ x. with_transitions end h ns x.0 x.1) (r, after) a.2 in
      let s2 = (edge_section (level_of h.id) end).found h.edges a.0.1 b.0.0 b.0.1 fits1 b.1 in
      let fits2 = IsByteList-rest a.0.1 (flat_map edge_bytes b.0.0) b.0.1 fits1 s2.1 in
      let d = bind_ok (transitions_at end h b.0.1) (λ x. Ok (records_with ns b.0.0 x.0, x.1)) (r, after) b.2 in
      let s3 = (ids_section (rules.Except (level_of h.id)) 10 end).found h.transitions b.0.1 d.0.0 d.0.1 fits2 d.1 in
      let made = records_with ns b.0.0 d.0.0 in
      let good : RecordsGood h made = record { nodes = s1.0; edge_counts = s1.3; transition_counts = s1.4; edges = s2.0; transitions = s3.0; node_number = s1.2; edge_number = s2.2; transition_number = s3.2 } in
      subst (λ (x : TileRecords × List ℕ). RecordsGood h x.0 × (rest ≡ records_bytes x.0 x.1)) (ok_is {F = FailedCheck} (made, d.0.1) (r, after) d.2)
      (good, records_join made rest a.0.1 b.0.1 d.0.1 s1.1 s2.1 s3.1)

  nodes_again : (end : ℕ) (h : Header) (r : TileRecords) (rest : List ℕ) → RecordsGood h r → nodes_at end h (flat_map node_bytes r.nodes ++ rest) ≡ Ok (r.nodes, rest)
  unfolding nodes_at
  nodes_again end h r rest good =
      let read = (node_section (level_of h.id) (tile_of_id h.id) end).spelled r.nodes rest good.nodes in
      let n : read_many (node_record_at (level_of h.id) (tile_of_id h.id) end) h.nodes [] (flat_map node_bytes r.nodes ++ rest) ≡ Ok (r.nodes, rest) =
      ap (λ k. read_many (node_record_at (level_of h.id) (tile_of_id h.id) end) k [] (flat_map node_bytes r.nodes ++ rest)) (sym good.node_number) ∙ read in
      let test = and_from (eqb (edges_of_nodes r.nodes) h.edges) (eqb (transitions_of_nodes r.nodes) h.transitions) (eq-eqb _ _ good.edge_counts) (eq-eqb _ _ good.transition_counts) in
      rw (n, test) refl

  pub records_again : (end : ℕ) (h : Header) (r : TileRecords) (after : List ℕ) → RecordsGood h r → records_at end h (records_bytes r after) ≡ Ok (r, after)
  unfolding records_at edges_at transitions_at
  records_again end h r after good =
      let rest2 = words_bytes r.transitions ++ after in
      let rest1 = flat_map edge_bytes r.edges ++ rest2 in
      let one = nodes_again end h r rest1 good in
      let two : read_many (edge_record_at (level_of h.id) end) h.edges [] rest1 ≡ Ok (r.edges, rest2) =
      ap (λ k. read_many (edge_record_at (level_of h.id) end) k [] rest1) (sym good.edge_number) ∙ (edge_section (level_of h.id) end).spelled r.edges rest2 good.edges in
      let three : read_many (id_at (rules.Except (level_of h.id)) 10 end) h.transitions [] rest2 ≡ Ok (r.transitions, after) =
      ap (λ k. read_many (id_at (rules.Except (level_of h.id)) 10 end) k [] rest2) (sym good.transition_number) ∙ (ids_section (rules.Except (level_of h.id)) 10 end).spelled r.transitions after good.transitions in
      rw (one, two, three) refl
