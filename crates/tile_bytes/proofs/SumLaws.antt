-- Sums over nodes, and one node more.
use Rattle.std.proofs.Common.{◌≡◌, ℕ, ℤ, ◌+◌, Bool, true, false, List, [], ◌∷◌, ◌++◌, length, Some, None, refl, sym, ap, ◌∙◌, cond, arith}
use Rattle.std.specs.Int.{from_bool}
use Rattle.std.proofs.lemmas.List.Sums.{sum_by-append}
use Rattle.tile_records.specs.Nodes.{NodeFields}
use Rattle.tile_records.specs.Edges.{EdgeFields}
use Rattle.tile_bytes.specs.declared.items.Sums.{Sums}
use Rattle.tile_bytes.specs.Items.{rises, has_lower_id}
use Rattle.tile_bytes.specs.Chains.{named_chains}
use Rattle.tile_bytes.specs.Sums.{SumsUp, above_last}

pub rises-push : {A : Type 0} (less : A → A → Bool) (before : List A) (y x : A) → rises less (before ++ y ∷ []) x ≡ less y x
rises-push less [] y x = refl
rises-push less (z ∷ []) y x = refl
rises-push less (z ∷ w ∷ ws) y x = rises-push less (w ∷ ws) y x

pub sums_none : (before : List NodeFields) → before ≡ [] → SumsUp before (record { edges = 0; transitions = 0; last = None })
sums_none before e = rw e (record { edge_sum = refl; transition_sum = refl; last_id = λ n. refl })

pub sums_push : (before : List NodeFields) (node : NodeFields) (sums : Sums) (e t : ℕ) (osm : ℤ) → e ≡ node.edge_count → t ≡ node.transition_count → osm ≡ node.osm → SumsUp before sums
    → SumsUp (before ++ node ∷ []) (record { edges = sums.edges + e; transitions = sums.transitions + t; last = Some osm })
sums_push before node sums e t osm e-is t-is osm-is s = record {
  edge_sum = (let a = sum_by-append (λ (n : NodeFields). n.edge_count) before (node ∷ []) in omega (arith, a, s.edge_sum, e-is));
  transition_sum = (let a = sum_by-append (λ (n : NodeFields). n.transition_count) before (node ∷ []) in omega (arith, a, s.transition_sum, t-is));
  last_id = λ n. rises-push has_lower_id before node n ∙ ap (λ o. above_last (Some o) n.osm) (sym osm-is);
}

named_one : (e : EdgeFields) (b : Bool) (rest : List ℕ) → length (cond b (e.chain ∷ rest) rest) ≡ length rest + from_bool b
named_one e true rest = omega arith
named_one e false rest = omega arith

pub shortcuts_push : (before : List EdgeFields) (e : EdgeFields) → length (named_chains (before ++ e ∷ [])) ≡ length (named_chains before) + from_bool e.shortcut
shortcuts_push [] e = named_one e e.shortcut []
shortcuts_push (b ∷ bs) e =
    let more = shortcuts_push bs e in
    omega (arith, named_one b b.shortcut (named_chains (bs ++ e ∷ [])), named_one b b.shortcut (named_chains bs))
