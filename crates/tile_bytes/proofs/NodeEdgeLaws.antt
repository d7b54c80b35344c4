-- Nodes and edges that are read are those that were written, and again.
use Rattle.std.proofs.Common.{◌≡◌, ℕ, Bool, true, false, cond, ltb, ◌&&◌, List, Option, Some, None, refl, sym, ap, subst, ◌∙◌}
use Rattle.std.proofs.lemmas.Bool.{ltb-true, lt-ltb, and_parts, and_from}
use Rattle.graph_id.specs.GraphId.{invalid}
use Rattle.tile_records.specs.Layout.{AreWords, BitSpan, HasNoSpare, has_no_spare, number_in}
use Rattle.tile_records.specs.Nodes.{NodeFields, NodeFits, node_words, node_of, node_read, node_spans, AreNodeWords}
use Rattle.tile_records.specs.Edges.{EdgeFields, EdgeFits, edge_words, edge_of, edge_read, edge_spans, edge_layout, AreEdgeWords}
use Rattle.section_grammar.specs.Sections.{IsReader, IsSection}
use Rattle.tile_bytes.specs.Items.{node_record_at, node_passes, node_bytes, IsNodeRecord, edge_record_at, edge_passes, edge_bytes, IsEdgeRecord}
use Rattle.tile_bytes.proofs.RecordLaws.{records_reader, records_section}

some_is : {R : Type 0} (b : Bool) (r x : R) → ◌≡◌ {A = Option R} (cond b (Some r) None) (Some x) → (b ≡ true) × (r ≡ x)
some_is true r x e = (refl, cc)
some_is false r x e = absurd cc

spare_is : (spans : List BitSpan) (words : List ℕ) → has_no_spare spans words ≡ true → HasNoSpare spans words
spare_is spans words e =
    let a = and_parts _ _ e in
    let b = and_parts _ _ a.0 in
    let d = and_parts _ _ b.0 in
    record { first = ltb-true _ _ d.0; second = ltb-true _ _ d.1; third = ltb-true _ _ b.1; fourth = ltb-true _ _ a.1 }

spare_from : (spans : List BitSpan) (words : List ℕ) → HasNoSpare spans words → has_no_spare spans words ≡ true
spare_from spans words h = and_from _ _ (and_from _ _ (and_from _ _ (lt-ltb _ _ h.first) (lt-ltb _ _ h.second)) (lt-ltb _ _ h.third)) (lt-ltb _ _ h.fourth)

module _
    (back : (r : NodeFields) → NodeFits r → node_of (node_words r) ≡ r)
    (fit : (words : List ℕ) → AreWords words → NodeFits (node_of words))
    (spelled : (r : NodeFields) → NodeFits r → AreWords (node_words r) × AreNodeWords (node_words r))
    (whole : (words : List ℕ) → AreWords words → AreNodeWords words → node_words (node_of words) ≡ words) where
  node_read_is : (ws : List ℕ) (r : NodeFields) → AreWords ws → node_read ws ≡ Some r → NodeFits r × (node_words r ≡ ws)
  unfolding node_read
  node_read_is ws r are e =
      let a = some_is (has_no_spare node_spans ws) (node_of ws) r e in
      (subst (λ (n : NodeFields). NodeFits n) a.1 (fit ws are), ap node_words (sym a.1) ∙ whole ws are (spare_is node_spans ws a.0))

  node_read_again : (r : NodeFields) → NodeFits r → AreWords (node_words r) × (node_read (node_words r) ≡ Some r)
  unfolding node_read
  node_read_again r fits =
      let s = spelled r fits in
      (s.0, ap (λ b. cond b (Some (node_of (node_words r))) None) (spare_from node_spans (node_words r) s.1) ∙ ap (λ (n : NodeFields). Some n) (back r fits))

  pub nodes_reader : (level tile end : ℕ) → IsReader (node_record_at level tile end) node_bytes (IsNodeRecord level tile)
  nodes_reader level tile end = records_reader node_read node_words NodeFits (node_passes level tile) 8 node_read_is node_read_again end

  pub nodes_section : (level tile end : ℕ) → IsSection (node_record_at level tile end) node_bytes (IsNodeRecord level tile)
  nodes_section level tile end = records_section node_read node_words NodeFits (node_passes level tile) 8 node_read_is node_read_again end

module _
    (back : (r : EdgeFields) → EdgeFits r → edge_of (edge_words r) ≡ r)
    (fit : (words : List ℕ) → AreWords words → AreEdgeWords words → EdgeFits (edge_of words))
    (spelled : (r : EdgeFields) → EdgeFits r → AreWords (edge_words r) × AreEdgeWords (edge_words r))
    (whole : (words : List ℕ) → AreWords words → AreEdgeWords words → edge_words (edge_of words) ≡ words) where
  edge_read_is : (ws : List ℕ) (r : EdgeFields) → AreWords ws → edge_read ws ≡ Some r → EdgeFits r × (edge_words r ≡ ws)
  unfolding edge_read
  edge_read_is ws r are e =
      let a = some_is (has_no_spare edge_spans ws && ltb (number_in ws edge_layout.end) invalid) (edge_of ws) r e in
      let b = and_parts (has_no_spare edge_spans ws) (ltb (number_in ws edge_layout.end) invalid) a.0 in
      let good : AreEdgeWords ws = record { no_spare = spare_is edge_spans ws b.0; valid_end = ltb-true _ _ b.1 } in
      (subst (λ (n : EdgeFields). EdgeFits n) a.1 (fit ws are good), ap edge_words (sym a.1) ∙ whole ws are good)

  edge_read_again : (r : EdgeFields) → EdgeFits r → AreWords (edge_words r) × (edge_read (edge_words r) ≡ Some r)
  unfolding edge_read
  edge_read_again r fits =
      let s = spelled r fits in
      let test = and_from (has_no_spare edge_spans (edge_words r)) (ltb (number_in (edge_words r) edge_layout.end) invalid) (spare_from edge_spans (edge_words r) s.1.no_spare) (lt-ltb _ _ s.1.valid_end) in
      (s.0, ap (λ b. cond b (Some (edge_of (edge_words r))) None) test ∙ ap (λ (n : EdgeFields). Some n) (back r fits))

  pub edges_reader : (level end : ℕ) → IsReader (edge_record_at level end) edge_bytes (IsEdgeRecord level)
  edges_reader level end = records_reader edge_read edge_words EdgeFits (edge_passes level) 9 edge_read_is edge_read_again end

  pub edges_section : (level end : ℕ) → IsSection (edge_record_at level end) edge_bytes (IsEdgeRecord level)
  edges_section level end = records_section edge_read edge_words EdgeFits (edge_passes level) 9 edge_read_is edge_read_again end
