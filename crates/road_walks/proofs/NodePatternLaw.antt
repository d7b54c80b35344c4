-- The patterns of a row with a via node are two pieces that meet there.
use Rattle.std.proofs.Common.{◌≡◌, refl, sym, ◌∙◌, ap, subst, List, [], ◌∷◌, ◌++◌, ℤ, Bool, true, false}
use Rattle.std.specs.Prelude.{◌↔◌, ⊤}
use Rattle.std.specs.List.{flat_map}
use Rattle.osm_model.specs.declared.extract.Extract.{Extract}
use Rattle.road_pieces.specs.DirectedPiece.{DirectedPiece}
use Rattle.road_pieces.specs.Paths.{Leads}
use Rattle.road_pieces.specs.Pieces.{IsPiece, piece_start, piece_end}
use Rattle.road_pieces.specs.Matches.{via_node, TurnRule}
use Rattle.road_walks.specs.PieceMatches.{AreViaParts, PieceTurnsBack, IsPieceMatch, IsPieceOther, PieceForbidden}
use Rattle.road_walks.specs.Readings.{Joins}
use Rattle.road_walks.specs.NodePatterns.{TakesTurn, IsNodePattern, SameNodePatterns}
use Rattle.road_walks.proofs.PieceMatchLaw.{pieces_tell}

abbrev flat : List (List DirectedPiece) → List DirectedPiece
flat parts = flat_map (λ part. part) parts

abbrev head_or : {E : Type 0} → E → List E → E
head_or d [] = d
head_or d (e ∷ es) = e

abbrev tail_of : {E : Type 0} → List E → List E
tail_of [] = []
tail_of (e ∷ es) = es

module _ (x : Extract) (row : TurnRule) (n : ℤ) (via : row.via ≡ via_node n) where
  abbrev PiecesLead : ℤ → List DirectedPiece → ℤ → Type 0
  PiecesLead a ps b = Leads (IsPiece x) (piece_start x) (piece_end x) (λ p q. ⊤) a ps b

  at_it : (pattern : List DirectedPiece) (m : IsPieceMatch x row pattern) → (m.parts ≡ []) × (piece_end x m.first ≡ n) × (m.first.way ≡ m.last.way → PieceTurnsBack row.u_turn m.first m.last)
  at_it pattern m = subst (λ v. AreViaParts x row.u_turn v m.first m.parts m.last) via m.via

  abbrev match_to_word : (pattern : List DirectedPiece) → IsPieceMatch x row pattern → IsNodePattern x false row n pattern
  match_to_word pattern m =
      let v = at_it pattern m in
      let is : pattern ≡ m.first ∷ (m.last ∷ []) = m.is ∙ ap (λ ps. m.first ∷ (flat ps ++ m.last ∷ [])) v.0 in
      let lead : PiecesLead (piece_start x m.first) (m.first ∷ (m.last ∷ [])) (piece_end x m.last) = subst (λ l. PiecesLead (piece_start x m.first) l (piece_end x m.last)) is m.leads in
      record { first = m.first; last = m.last; is = is; exists = lead.0; ends = v.1; from = m.from; joins = record { exists = lead.3.0; begins = lead.3.1 }; turns = (m.to, v.2) }

  abbrev word_to_match : (pattern : List DirectedPiece) → IsNodePattern x false row n pattern → IsPieceMatch x row pattern
  word_to_match pattern w = record {
    first = w.first;
    parts = [];
    last = w.last;
    is = w.is;
    from = w.from;
    via = subst (λ v. AreViaParts x row.u_turn v w.first [] w.last) (sym via) (refl, w.ends, w.turns.1);
    to = w.turns.0;
    leads = subst (λ l. PiecesLead (piece_start x w.first) l (piece_end x w.last)) (sym w.is) (w.exists, refl, tt, (w.joins.exists, w.joins.begins, tt, refl));
  }

  other_to_word : (pattern : List DirectedPiece) → IsPieceOther x row pattern → IsNodePattern x true row n pattern
  other_to_word pattern o =
      let w : IsNodePattern x false row n o.matched = match_to_word o.matched o.match in
      let v = at_it o.matched o.match in
      let is : pattern ≡ o.match.first ∷ (o.other ∷ []) = o.is ∙ ap (λ ps. o.match.first ∷ (flat ps ++ o.other ∷ [])) v.0 in
      let joins : Joins x o.match.first o.other = record { exists = o.exists; begins = o.begins ∙ w.joins.begins } in
      record {
        first = o.match.first;
        last = o.other;
        is = is;
        exists = w.exists;
        ends = v.1;
        from = o.match.from;
        joins = joins;
        turns = (λ turn. o.unmatched (word_to_match pattern (record { first = o.match.first; last = o.other; is = is; exists = w.exists; ends = v.1; from = o.match.from; joins = joins; turns = turn })), (o.match.last, (w.joins, w.turns)));
      }

  word_to_other : (pattern : List DirectedPiece) → IsNodePattern x true row n pattern → IsPieceOther x row pattern
  word_to_other pattern w =
      let last : DirectedPiece = w.turns.1.0 in
      let matched : List DirectedPiece = w.first ∷ (last ∷ []) in
      record {
        matched = matched;
        match = word_to_match matched (record { first = w.first; last = last; is = refl; exists = w.exists; ends = w.ends; from = w.from; joins = w.turns.1.1.0; turns = w.turns.1.1.1 });
        other = w.last;
        is = w.is;
        exists = w.joins.exists;
        begins = w.joins.begins ∙ sym w.turns.1.1.0.begins;
        unmatched = λ m.
            let v : IsNodePattern x false row n pattern = match_to_word pattern m in
            let same : v.first ∷ (v.last ∷ []) ≡ w.first ∷ (w.last ∷ []) = sym v.is ∙ w.is in
            w.turns.0 (subst (λ q. TakesTurn row w.first q) (ap (head_or v.last) (ap tail_of same)) (subst (λ p. TakesTurn row p v.last) (ap (head_or v.first) same) v.turns));
      }

  tell_by : (only : Bool) (pattern : List DirectedPiece) → PieceForbidden x only row pattern ↔ IsNodePattern x only row n pattern
  tell_by true pattern = (other_to_word pattern, word_to_other pattern)
  tell_by false pattern = (match_to_word pattern, word_to_match pattern)

pub same_node_patterns : SameNodePatterns
same_node_patterns x row n via pattern =
    (λ is. (tell_by x row n via row.only pattern).0 ((pieces_tell x row pattern).0 is), λ w. (pieces_tell x row pattern).1 ((tell_by x row n via row.only pattern).1 w))
