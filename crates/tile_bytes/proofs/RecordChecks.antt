-- The first node, edge or transition that fails.
use Rattle.std.proofs.Common.{◌≡◌, ℕ, ◌+◌, ◌*◌, ◌≤◌, Bool, true, false, cond, ltb, eqb, ◌&&◌, List, [], ◌∷◌, ◌++◌, length, drop, Option, Some, None, Result, Ok, Err, refl, sym, ap, subst, ◌∙◌, ◌⊎◌, inl, inr, arith}
use Rattle.std.specs.List.{flat_map}
use Rattle.std.proofs.lemmas.Bool.{eqb-true, eq-eqb, and_parts, and_from}
use Rattle.std.proofs.lemmas.List.{length-append, drop_at, length-drop}
use Rattle.graph_id.specs.GraphId.{level_of, tile_of_id, invalid}
use Rattle.tile_records.specs.Nodes.{NodeFields, node_read}
use Rattle.tile_records.specs.Edges.{EdgeFields, edge_read}
use Rattle.section_grammar.specs.WordBytes.{IsByteList, word_in, words_in, word_bytes, words_bytes}
use Rattle.section_grammar.specs.Reads.{◌>>=◌, read_many, AllGood}
use Rattle.section_grammar.specs.Answers.{FailedCheck, Check, place_of}
use Rattle.section_grammar.specs.Sections.{IsReader}
use Rattle.section_grammar.specs.FirstFailing.{IsFewerThan, NoneBegins, ItemFails, FailsFrom}
use Rattle.section_grammar.proofs.ByteLists.{IsByteList-drop, IsByteList-rest}
use Rattle.section_grammar.proofs.Failing.{OnlyFails, only_test}
use Rattle.section_grammar.proofs.Steps.{bind_ok, passed_ok, ok_is}
use Rattle.section_grammar.proofs.Sections.{section_of}
use Rattle.section_grammar.proofs.Tells.{Tells, tells_either, none_tells, many_tells}
use Rattle.section_grammar.proofs.Judges.{Judges, judges_one, judges_bind, judges_made}
use Rattle.tile_bytes.specs.declared.ids.LevelRule.{LevelRule}
use Rattle.tile_bytes.specs.declared.ids.LevelRule.TheVariants as rules
use Rattle.tile_bytes.specs.declared.header.Header.{Header}
use Rattle.tile_bytes.specs.Items.{IsNext, record_at, record_found, node_record_at, node_bytes, node_passes, IsNodeRecord, edges_of_nodes, transitions_of_nodes, edge_record_at, edge_bytes, edge_passes, IsEdgeRecord, allows, id_at, IsId}
use Rattle.tile_bytes.specs.TileSections.{nodes_at, edges_at, transitions_at, TileRecords, with_transitions, with_edges, records_at}
use Rattle.tile_bytes.specs.TileChecks.{TileCheck, NodesGood, EdgesGood, TransitionsGood, check_number, CheckFails, IdFails, TotalsDiffer, header_in, from_nodes, from_edges, from_transitions}
use Rattle.tile_bytes.proofs.CheckNumbers.{one_check}
use Rattle.tile_bytes.proofs.IdLaws.{ids_reader}
use Rattle.tile_bytes.proofs.RecordSections.{nodes_bytes-length, edges_bytes-length}

-- ---- what fails says its own place

module _ {R : Type 0} (read : List ℕ → Option R) (passes : List R → R → Bool) (check end : ℕ) (before : List R) (rest : List ℕ) where
  found_says : (o : Option R) → OnlyFails (Check check (place_of end rest)) (record_found passes check end before rest o)
  unfolding record_found
  found_says None = refl
  found_says (Some r) = only_test (Check check (place_of end rest)) (passes before r) (Ok (r, drop 32 rest)) (Err (Check check (place_of end rest))) tt refl

  pub record_says : OnlyFails (Check check (place_of end rest)) (record_at read passes check end before rest)
  unfolding record_at
  record_says = only_test (Check check (place_of end rest)) (ltb (length rest) 32) (Err (Check check (place_of end rest))) (record_found passes check end before rest (read (words_in 4 rest))) refl (found_says (read (words_in 4 rest)))

id_says : (rule : LevelRule) (check end : ℕ) (before : List ℕ) (rest : List ℕ) → OnlyFails (Check check (place_of end rest)) (id_at rule check end before rest)
unfolding id_at
id_says rule check end before rest =
    let bad = Check check (place_of end rest) in
    let test = ltb (word_in rest) invalid && allows rule (level_of (word_in rest)) in
    only_test bad (ltb (length rest) 8) (Err bad) (cond test (Ok (word_in rest, drop 8 rest)) (Err bad)) refl (only_test bad test (Ok (word_in rest, drop 8 rest)) (Err bad) tt refl)

pub ids_tell : (rule : LevelRule) (check end n : ℕ) (rest : List ℕ) → IsByteList rest → length rest ≤ end → Tells check (FailsFrom (place_of end rest) (IdFails rule n rest)) (read_many (id_at rule check end) n [] rest)
ids_tell rule check end n rest fits le =
    many_tells (id_at rule check end) word_bytes (IsId rule) (ids_reader rule check end) check end (NoneBegins word_bytes (IsId rule))
    (λ before rest fits le. none_tells (id_at rule check end) word_bytes (IsId rule) (ids_reader rule check end) check end (id_says rule check end) before rest fits) n rest fits le

module _ (node_reader : (level tile end : ℕ) → IsReader (node_record_at level tile end) node_bytes (IsNodeRecord level tile))
    (edge_reader : (level end : ℕ) → IsReader (edge_record_at level end) edge_bytes (IsEdgeRecord level)) where
  nodes_tell : (end : ℕ) (h : Header) (rest : List ℕ) → IsByteList rest → length rest ≤ end
      → Tells 8 (λ at. FailsFrom (place_of end rest) (ItemFails node_bytes (IsNodeRecord (level_of h.id) (tile_of_id h.id)) (IsFewerThan h.nodes) (NoneBegins node_bytes (IsNodeRecord (level_of h.id) (tile_of_id h.id))) rest) at ⊎ FailsFrom (place_of end rest) (TotalsDiffer h rest) at)
      (nodes_at end h rest)
  unfolding nodes_at
  nodes_tell end h rest fits le =
      let level = level_of h.id in
      let tile = tile_of_id h.id in
      let item = node_record_at level tile end in
      let good = IsNodeRecord level tile in
      let section = section_of item node_bytes good (node_reader level tile end) in
      let reached : (at : ℕ) (f : TotalsDiffer h rest at) → read_many item h.nodes [] rest ≡ Ok (f.nodes, f.after) = λ at f.
      ap (λ k. read_many item k [] rest) (sym f.all) ∙ ap (read_many item (length f.nodes) []) f.spelled ∙ section.spelled f.nodes f.after f.each_good in
      tells_either 8 (FailsFrom (place_of end rest) (ItemFails node_bytes good (IsFewerThan h.nodes) (NoneBegins node_bytes good) rest)) (FailsFrom (place_of end rest) (TotalsDiffer h rest)) (read_many item h.nodes [] rest)
      (λ x. cond (eqb (edges_of_nodes x.0) h.edges && eqb (transitions_of_nodes x.0) h.transitions) (Ok x) (Err (Check 8 (place_of end x.1))))
      (many_tells item node_bytes good (node_reader level tile end) 8 end (NoneBegins node_bytes good)
      (λ before rest fits le. none_tells item node_bytes good (node_reader level tile end) 8 end (record_says node_read (node_passes level tile) 8 end) before rest fits) h.nodes rest fits le)
      (λ x e. record {
        told = λ d k.
            let f = section.found h.nodes rest x.0 x.1 fits e in
            let test = eqb (edges_of_nodes x.0) h.edges && eqb (transitions_of_nodes x.0) h.transitions in
            (elim test as (λ b. test ≡ b → cond b (Ok x) (Err (Check 8 (place_of end x.1))) ≡ Err d → (at : ℕ) × FailsFrom (place_of end rest) (TotalsDiffer h rest) at × (d ≡ Check 8 at)) [
              | true ↦ λ t m. absurd cc
              | false ↦ λ t m.
                  (let differ : (edges_of_nodes x.0 ≡ h.edges) → (transitions_of_nodes x.0 ≡ h.transitions) → ⊥ = λ p q. (let clash : true ≡ false = sym (and_from _ _ (eq-eqb _ _ p) (eq-eqb _ _ q)) ∙ t in cc) in (
                    place_of end x.1,
                    record {
                      offset = length (flat_map node_bytes x.0);
                      fails_so = record { nodes = x.0; after = x.1; each_good = f.0; all = f.2; spelled = f.1; differ = differ; here = refl };
                      here = omega (arith, ap length f.1, length-append (flat_map node_bytes x.0) x.1, le);
                    },
                    sym (err_is (Check 8 (place_of end x.1)) d m),
                  ))
            ]) refl k;
        so = λ at g.
            let f = g.fails_so in
            let same : ◌≡◌ {A = Result (List NodeFields × List ℕ) FailedCheck} (Ok x) (Ok (f.nodes, f.after)) = sym e ∙ reached g.offset f in
            let pair : x ≡ (f.nodes, f.after) = cc in
            let place : place_of end f.after ≡ at = omega (arith, ap length f.spelled, length-append (flat_map node_bytes f.nodes) f.after, le, f.here, g.here) in
            let test = eqb (edges_of_nodes f.nodes) h.edges && eqb (transitions_of_nodes f.nodes) h.transitions in
            let wrong : test ≡ false =
            (elim test as (λ b. test ≡ b → b ≡ false) [
              | true ↦ λ t. (let a = and_parts _ _ t in absurd (f.differ (eqb-true _ _ a.0) (eqb-true _ _ a.1)))
              | false ↦ λ t. refl
            ]) refl in
            let at_left : cond test (Ok (f.nodes, f.after)) (Err (Check 8 (place_of end f.after))) ≡ Err (Check 8 (place_of end f.after)) = ap (λ b. cond b (Ok (f.nodes, f.after)) (Err (Check 8 (place_of end f.after)))) wrong in
            ap (λ (p : List NodeFields × List ℕ). cond (eqb (edges_of_nodes p.0) h.edges && eqb (transitions_of_nodes p.0) h.transitions) (Ok p) (Err (Check 8 (place_of end p.1)))) pair ∙ at_left ∙ ap (λ k. Err (Check 8 k)) place;
      })
      (λ at g. ((g.fails_so.nodes, g.fails_so.after), reached g.offset g.fails_so))
    where
      err_is : (d d' : FailedCheck) → ◌≡◌ {A = Result (List NodeFields × List ℕ) FailedCheck} (Err d) (Err d') → d ≡ d'
      err_is d d' e = cc

  edges_tell : (end : ℕ) (h : Header) (rest : List ℕ) → IsByteList rest → length rest ≤ end
      → Tells 9 (FailsFrom (place_of end rest) (ItemFails edge_bytes (IsEdgeRecord (level_of h.id)) (IsFewerThan h.edges) (NoneBegins edge_bytes (IsEdgeRecord (level_of h.id))) rest)) (edges_at end h rest)
  unfolding edges_at
  edges_tell end h rest fits le =
      let item = edge_record_at (level_of h.id) end in
      let good = IsEdgeRecord (level_of h.id) in
      let reader = edge_reader (level_of h.id) end in
      many_tells item edge_bytes good reader 9 end (NoneBegins edge_bytes good) (λ before rest fits le. none_tells item edge_bytes good reader 9 end (record_says edge_read (edge_passes (level_of h.id)) 9 end) before rest fits) h.edges rest fits le

  -- what follows the nodes and the edges that were read
  behind_nodes : (end : ℕ) (h : Header) (rest : List ℕ) (x : List NodeFields × List ℕ) → IsByteList rest → nodes_at end h rest ≡ Ok x → drop (32 * h.nodes) rest ≡ x.1
  unfolding nodes_at
  behind_nodes end h rest x fits e =
      let item = node_record_at (level_of h.id) (tile_of_id h.id) end in
      let a = bind_ok (read_many item h.nodes [] rest) (λ x. cond (eqb (edges_of_nodes x.0) h.edges && eqb (transitions_of_nodes x.0) h.transitions) (Ok x) (Err (Check 8 (place_of end x.1)))) x e in
      let g = passed_ok (eqb (edges_of_nodes a.0.0) h.edges && eqb (transitions_of_nodes a.0.0) h.transitions) (Check 8 (place_of end a.0.1)) (Ok a.0) x a.2 in
      let f = (section_of item node_bytes (IsNodeRecord (level_of h.id) (tile_of_id h.id)) (node_reader (level_of h.id) (tile_of_id h.id) end)).found h.nodes rest a.0.0 a.0.1 fits a.1 in
      ap (drop (32 * h.nodes)) f.1 ∙ drop_at (flat_map node_bytes a.0.0) a.0.1 (32 * h.nodes) (nodes_bytes-length a.0.0 ∙ ap (λ n. 32 * n) f.2) ∙ ap (λ (p : List NodeFields × List ℕ). p.1) (ok_is {F = FailedCheck} a.0 x g.1)

  behind_edges : (end : ℕ) (h : Header) (rest : List ℕ) (x : List EdgeFields × List ℕ) → IsByteList rest → edges_at end h rest ≡ Ok x → drop (32 * h.edges) rest ≡ x.1
  unfolding edges_at
  behind_edges end h rest x fits e =
      let f = (section_of (edge_record_at (level_of h.id) end) edge_bytes (IsEdgeRecord (level_of h.id)) (edge_reader (level_of h.id) end)).found h.edges rest x.0 x.1 fits e in
      ap (drop (32 * h.edges)) f.1 ∙ drop_at (flat_map edge_bytes x.0) x.1 (32 * h.edges) (edges_bytes-length x.0 ∙ ap (λ n. 32 * n) f.2)

  pub records_judge : (bytes : List ℕ) → IsByteList bytes → Judges check_number (CheckFails bytes) 8 11 (records_at (length bytes) (header_in bytes) (from_nodes bytes))
  unfolding records_at transitions_at
  records_judge bytes fits =
      let end = length bytes in
      let h = header_in bytes in
      let r0 = from_nodes bytes in
      let r1 = from_edges bytes in
      let r2 = from_transitions bytes in
      let f0 = IsByteList-drop 64 bytes fits in
      let f1 = IsByteList-drop (32 * h.nodes) r0 f0 in
      let f2 = IsByteList-drop (32 * h.edges) r1 f1 in
      let l0 : length r0 ≤ end = omega (arith, length-drop 64 bytes) in
      let l1 : length r1 ≤ end = omega (arith, length-drop (32 * h.nodes) r0, l0) in
      let l2 : length r2 ≤ end = omega (arith, length-drop (32 * h.edges) r1, l1) in
      judges_bind check_number (CheckFails bytes) 8 9 11 (nodes_at end h r0) (λ x. with_edges end h x.0 x.1) (omega arith) (omega arith)
      (judges_one check_number (CheckFails bytes) NodesGood (nodes_at end h r0) (λ other e. one_check other NodesGood e) (nodes_tell end h r0 f0 l0))
      (λ x e. subst (λ (r : List ℕ). Judges check_number (CheckFails bytes) 9 11 (with_edges end h x.0 r)) (behind_nodes end h r0 x f0 e)
      (judges_bind check_number (CheckFails bytes) 9 10 11 (edges_at end h r1) (λ y. with_transitions end h x.0 y.0 y.1) (omega arith) (omega arith)
      (judges_one check_number (CheckFails bytes) EdgesGood (edges_at end h r1) (λ other k. one_check other EdgesGood k) (edges_tell end h r1 f1 l1))
      (λ y k. subst (λ (r : List ℕ). Judges check_number (CheckFails bytes) 10 11 (with_transitions end h x.0 y.0 r)) (behind_edges end h r1 y f1 k)
      (judges_made check_number (CheckFails bytes) 10 11 (transitions_at end h r2) (λ z. (record { nodes = x.0; edges = y.0; transitions = z.0 }, z.1)) (omega arith)
      (judges_one check_number (CheckFails bytes) TransitionsGood (transitions_at end h r2) (λ other m. one_check other TransitionsGood m) (ids_tell (rules.Except (level_of h.id)) 10 end h.transitions r2 f2 l2))))))
