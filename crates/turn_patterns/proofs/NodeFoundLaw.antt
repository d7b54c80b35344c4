-- What is found for a turn restriction with a via node.
use Rattle.std.proofs.Common.{◌≡◌, refl, sym, ◌∙◌, subst, List, [], ◌∷◌, ℤ, ◌≤◌, Bool, true, false, cond, length, map, take, inl, inr, arith, Err}
use Rattle.std.specs.Prelude.{not, filter}
use Rattle.std.specs.List.{Contains, list_any}
use Rattle.osm_model.specs.declared.extract.Extract.{Extract}
use Rattle.osm_restrictions.specs.declared.rows.SkipReason.TheVariants as skips
use Rattle.road_pieces.specs.DirectedPiece.{DirectedPiece}
use Rattle.road_pieces.specs.Pieces.{IsPiece, piece_end}
use Rattle.road_pieces.specs.Matches.{via_node, TurnRule, IsRowPattern}
use Rattle.road_walks.specs.NodePatterns.{TakesTurn, EndsTurn, IsNodePattern, SameNodePatterns}
use Rattle.pattern_search.specs.Words.{Includes, Rising, Before}
use Rattle.pattern_search.proofs.Inclusion.{among_filter, among_unfilter, among_flat, among_unflat, among_map, among_unmap, rising_filter, rising_flat, rising_map}
use Rattle.pattern_search.proofs.MemberLaw.{differ}
use Rattle.pattern_search.proofs.NumberLaw.{any_of, any_is}
use Rattle.turn_patterns.specs.Counted.{forbidding}
use Rattle.turn_patterns.specs.Found.{ComesBefore, HasRuns, HasMatch, AreShort, IsFound}
use Rattle.turn_patterns.specs.NodeFound.{AreNodeTests, has_turn, ends_after, node_pairs, node_found, NodeFound}
use Rattle.turn_patterns.specs.WaysFound.{unless_many}
use Rattle.turn_patterns.proofs.CountLaw.{matches_tell}
use Rattle.turn_patterns.proofs.UnlessLaw.{unless_found}

not_true : (b : Bool) → not b ≡ true → b ≡ false
not_true true h = absurd (differ h)
not_true false h = refl

true_not : (b : Bool) → (b ≡ true → ⊥) → not b ≡ true
true_not true h = absurd (h refl)
true_not false h = refl

module _ (same : SameNodePatterns) (x : Extract) (row : TurnRule) (n : ℤ) (via : row.via ≡ via_node n) (runs : HasRuns x row) (letters : DirectedPiece → List DirectedPiece) (takes : DirectedPiece → DirectedPiece → Bool) (firsts : List DirectedPiece) (t : AreNodeTests x row n letters takes firsts) where
  -- the pieces with which a pattern ends
  to_ends : (p q : DirectedPiece) (only : Bool) → Includes (ends_after only letters takes p) q → Includes (letters p) q × EndsTurn x only row p q
  to_ends p q only h = by (has_turn letters takes p) refl only h
    where
      by : (b : Bool) → has_turn letters takes p ≡ b → (o : Bool) → Includes (cond b (filter (λ r. cond o (not (takes p r)) (takes p r)) (letters p)) []) q → Includes (letters p) q × EndsTurn x o row p q
      by false none o k = absurd k
      by true some false k =
          let found : Includes (letters p) q × (takes p q ≡ true) = among_unfilter (takes p) (letters p) q k in
          (found.0, (t.turns p q found.0).0 found.1)
      by true some true k =
          let found : Includes (letters p) q × (not (takes p q) ≡ true) = among_unfilter (λ r. not (takes p r)) (letters p) q k in
          let other : (r : DirectedPiece) × (Includes (letters p) r × (takes p r ≡ true)) = any_is (takes p) (letters p) some in
          (found.0, (λ turn. differ (sym (not_true (takes p q) found.1) ∙ (t.turns p q found.0).1 turn), (other.0, ((t.joins p other.0).0 other.1.0, (t.turns p other.0 other.1.0).0 other.1.1))))

  from_ends : (p q : DirectedPiece) (only : Bool) → Includes (letters p) q → EndsTurn x only row p q → Includes (ends_after only letters takes p) q
  from_ends p q false there turn =
      let takes_it : takes p q ≡ true = (t.turns p q there).1 turn in
      subst (λ b. Includes (cond b (filter (takes p) (letters p)) []) q) (sym (any_of (takes p) (letters p) q there takes_it)) (among_filter (takes p) (letters p) q there takes_it)
  from_ends p q true there (never, (other, (joins, turn))) =
      let other_there : Includes (letters p) other = (t.joins p other).1 joins in
      let some : has_turn letters takes p ≡ true = any_of (takes p) (letters p) other other_there ((t.turns p other other_there).1 turn) in
      subst (λ b. Includes (cond b (filter (λ r. not (takes p r)) (letters p)) []) q) (sym some)
      (among_filter (λ r. not (takes p r)) (letters p) q there (true_not (takes p q) (λ takes_it. never ((t.turns p q there).0 takes_it))))

  abbrev pairs_of : DirectedPiece → List (List DirectedPiece)
  pairs_of p = map (λ q. p ∷ (q ∷ [])) (ends_after row.only letters takes p)

  abbrev pairs : List (List DirectedPiece)
  pairs = node_pairs row.only letters takes firsts

  to_pattern : (pattern : List DirectedPiece) → Includes pairs pattern → IsRowPattern x row pattern
  to_pattern pattern h =
      let found : (p : DirectedPiece) × (Includes firsts p × Includes (pairs_of p) pattern) = among_unflat pairs_of firsts pattern h in
      let p : DirectedPiece = found.0 in
      let pair : (q : DirectedPiece) × (Includes (ends_after row.only letters takes found.0) q × ((found.0 ∷ (q ∷ [])) ≡ pattern)) = among_unmap (λ q. found.0 ∷ (q ∷ [])) (ends_after row.only letters takes found.0) pattern found.1.1 in
      let turn : Includes (letters found.0) pair.0 × EndsTurn x row.only row found.0 pair.0 = to_ends found.0 pair.0 row.only pair.1.0 in
      let begin : IsPiece x found.0 × (piece_end x found.0 ≡ n) × Contains row.from found.0.way = (t.begin found.0).0 found.1.0 in
      (same x row n via pattern).1 (record { first = found.0; last = pair.0; is = sym pair.1.1; exists = begin.0; ends = begin.1; from = begin.2; joins = (t.joins found.0 pair.0).0 turn.0; turns = turn.1 })

  from_pattern : (pattern : List DirectedPiece) → IsRowPattern x row pattern → Includes pairs pattern
  from_pattern pattern is =
      let w : IsNodePattern x row.only row n pattern = (same x row n via pattern).0 is in
      let there : Includes firsts w.first = (t.begin w.first).1 (w.exists, w.ends, w.from) in
      let ends : Includes (ends_after row.only letters takes w.first) w.last = from_ends w.first w.last row.only ((t.joins w.first w.last).1 w.joins) w.turns in
      subst (Includes pairs) (sym w.is) (among_flat pairs_of firsts w.first (w.first ∷ (w.last ∷ [])) there (among_map (λ q. w.first ∷ (q ∷ [])) (ends_after row.only letters takes w.first) w.last ends))

  ends_rise : (p : DirectedPiece) → Rising ComesBefore (ends_after row.only letters takes p)
  ends_rise p = by (has_turn letters takes p)
    where
      by : (b : Bool) → Rising ComesBefore (cond b (filter (λ q. cond row.only (not (takes p q)) (takes p q)) (letters p)) [])
      by true = rising_filter ComesBefore (λ q. cond row.only (not (takes p q)) (takes p q)) (letters p) (t.letters_rise p)
      by false = tt

  pairs_rise : Rising (Before ComesBefore) pairs
  pairs_rise =
      rising_flat ComesBefore (Before ComesBefore) pairs_of firsts t.firsts_rise (λ p. rising_map ComesBefore (Before ComesBefore) (λ q. p ∷ (q ∷ [])) (ends_after row.only letters takes p) (ends_rise p) (λ q r low. inr (refl, inl low))) (λ p q low v w h k.
      let one = among_unmap (λ r. p ∷ (r ∷ [])) (ends_after row.only letters takes p) v h in
      let other = among_unmap (λ r. q ∷ (r ∷ [])) (ends_after row.only letters takes q) w k in
      subst (λ u. Before ComesBefore u w) one.1.1 (subst (Before ComesBefore (p ∷ (one.0 ∷ []))) other.1.1 (inl low)))

  are_short : AreShort x row
  are_short pattern is =
      let w : IsNodePattern x row.only row n pattern = (same x row n via pattern).0 is in
      subst (λ l. length l ≤ 33) (sym w.is) (omega arith)

  -- matches are the pairs with a piece that is as the restriction says
  matched : list_any (has_turn letters takes) firsts ≡ true → HasMatch x row
  matched h =
      let found : (p : DirectedPiece) × (Includes firsts p × (has_turn letters takes p ≡ true)) = any_is (has_turn letters takes) firsts h in
      let other : (q : DirectedPiece) × (Includes (letters found.0) q × (takes found.0 q ≡ true)) = any_is (takes found.0) (letters found.0) found.1.1 in
      let begin : IsPiece x found.0 × (piece_end x found.0 ≡ n) × Contains row.from found.0.way = (t.begin found.0).0 found.1.0 in
      let turn : TakesTurn row found.0 other.0 = (t.turns found.0 other.0 other.1.0).0 other.1.1 in
      (matches_tell x row).1 (found.0 ∷ (other.0 ∷ []), (same x (forbidding row) n via (found.0 ∷ (other.0 ∷ []))).1 (record { first = found.0; last = other.0; is = refl; exists = begin.0; ends = begin.1; from = begin.2; joins = (t.joins found.0 other.0).0 other.1.0; turns = turn }))

  unmatched : list_any (has_turn letters takes) firsts ≡ false → HasMatch x row → ⊥
  unmatched h its =
      let pattern : (pattern : List DirectedPiece) × IsRowPattern x (forbidding row) pattern = (matches_tell x row).0 its in
      let w : IsNodePattern x false (forbidding row) n pattern.0 = (same x (forbidding row) n via pattern.0).0 pattern.1 in
      let there : Includes (letters w.first) w.last = (t.joins w.first w.last).1 w.joins in
      let turn : TakesTurn row w.first w.last = w.turns in
      let some : has_turn letters takes w.first ≡ true = any_of (takes w.first) (letters w.first) w.last there ((t.turns w.first w.last there).1 turn) in
      differ (sym h ∙ any_of (has_turn letters takes) firsts w.first ((t.begin w.first).1 (w.exists, w.ends, w.from)) some)

  pub is_found : IsFound x row (node_found row.only letters takes firsts)
  is_found = by (list_any (has_turn letters takes) firsts) refl
    where
      by : (a : Bool) → list_any (has_turn letters takes) firsts ≡ a → IsFound x row (cond (not a) (Err skips.NoMatch) (unless_many (take 257 pairs)))
      by false p = (runs, unmatched p)
      by true p = unless_found x row pairs pairs_rise (λ pattern. (to_pattern pattern, from_pattern pattern)) runs (matched p) are_short

pub node_is_found : SameNodePatterns → NodeFound
node_is_found same x row n via runs letters takes firsts t = is_found same x row n via runs letters takes firsts t
