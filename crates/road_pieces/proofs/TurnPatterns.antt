-- Each list of steps that a row forbids has a pattern.
use Rattle.std.proofs.Common.{◌≡◌, ℕ, zero, suc, ◌+◌, ◌-◌, ◌<◌, refl, sym, ◌∙◌, ap, subst, List, [], ◌∷◌, ◌++◌, ℤ, Bool, true, false, arith, append_assoc}
use Rattle.std.specs.Prelude.{⊤, All}
use Rattle.std.specs.List.{flat_map}
use Rattle.std.proofs.lemmas.List.Elements.{All-head, All-tail}
use Rattle.osm_model.specs.declared.extract.Extract.{Extract}
use Rattle.road_pieces.specs.declared.steps.Step.{Step}
use Rattle.road_pieces.specs.DirectedPiece.{DirectedPiece}
use Rattle.road_pieces.specs.Paths.{Follows, Leads}
use Rattle.road_pieces.specs.Runs.{run, is_junction}
use Rattle.road_pieces.specs.Steps.{IsStep, Joined, GoesOn, step_start, step_end}
use Rattle.road_pieces.specs.Pieces.{IsPiece, piece_start, piece_end, up, down, steps}
use Rattle.road_pieces.specs.Turns.{Written, EndsWith}
use Rattle.road_pieces.specs.Matches.{TurnRule, IsMatch, EndsAtJunction, Forbidden, ForbiddenBy}
use Rattle.road_pieces.specs.Walks.{OpenStep, OpenPiece}
use Rattle.road_pieces.proofs.Lists.{all_weaken, leads_all, leads_follow, leads_with}
use Rattle.road_pieces.proofs.Splits.{to_pieces}
use Rattle.road_pieces.proofs.Nearest.{piece_ahead, piece_back}
use Rattle.road_pieces.proofs.Along.{opens, goes_on_only}

-- parts of lists that lead
pub leads_after : {N E : Type 0} (Is : E → Type 0) (start finish : E → N) (Next : E → E → Type 0) (before rest : List E) (e : E) (a b : N) → Leads Is start finish Next a (before ++ e ∷ rest) b → Leads Is start finish Next (finish e) rest b
leads_after Is start finish Next [] rest e a b lead = lead.3
leads_after Is start finish Next (f ∷ before) rest e a b lead =
    leads_after Is start finish Next before rest e (finish f) b lead.3

follows_front : {E : Type 0} (Next : E → E → Type 0) (e : E) (es rest : List E) → Follows Next e (es ++ rest) → Follows Next e es
follows_front Next e [] rest h = tt
follows_front Next e (f ∷ es) rest h = h

pub leads_front : {N E : Type 0} (Is : E → Type 0) (start finish : E → N) (Next : E → E → Type 0) (es : List E) (e : E) (a b : N) → Leads Is start finish Next a (es ++ e ∷ []) b → Leads Is start finish Next a es (start e)
leads_front Is start finish Next [] e a b lead = sym lead.1
leads_front Is start finish Next (f ∷ es) e a b lead =
    (lead.0, lead.1, follows_front Next f es (e ∷ []) lead.2, leads_front Is start finish Next es e (finish f) b lead.3)

leads_last : {N E : Type 0} (Is : E → Type 0) (start finish : E → N) (Next : E → E → Type 0) (es : List E) (e : E) (a b : N) → Leads Is start finish Next a (es ++ e ∷ []) b → Is e
leads_last Is start finish Next [] e a b lead = lead.0
leads_last Is start finish Next (f ∷ es) e a b lead = leads_last Is start finish Next es e (finish f) b lead.3

-- the last step of the steps along a part of a run
up_ends : (way : ℤ) (number from count : ℕ) → EndsWith (record { way = way; run = number; segment = from + count; forward = true }) (up way number from (suc count))
up_ends way number from zero =
    ([], ap (λ k. record { way = way; run = number; segment = k; forward = true } ∷ []) {x = from} {y = from + 0} (omega arith))
up_ends way number from (suc count) =
    let (rest, e) = up_ends way number (from + 1) count in
    let first : Step = record { way = way; run = number; segment = from; forward = true } in
    (first ∷ rest, ap (λ l. first ∷ l) e ∙ ap (λ k. first ∷ (rest ++ record { way = way; run = number; segment = k; forward = true } ∷ [])) {x = from + 1 + count} {y = from + suc count} (omega arith))

down_ends : (way : ℤ) (number to count : ℕ) → EndsWith (record { way = way; run = number; segment = to; forward = false }) (down way number to (suc count))
down_ends way number to zero =
    ([], ap (λ k. record { way = way; run = number; segment = k; forward = false } ∷ []) {x = to + 0} {y = to} (omega arith))
down_ends way number to (suc count) =
    let (rest, e) = down_ends way number to count in
    let first : Step = record { way = way; run = number; segment = to + suc count; forward = false } in
    (first ∷ rest, ap (λ l. first ∷ l) e)

module _ (x : Extract) where
  -- the piece that ends with a step to a junction
  closes_at : (way : ℤ) (number k : ℕ) (forward : Bool) → k + 1 < Rattle.std.specs.Prelude.length (run x way number) → is_junction x (step_end x (record { way = way; run = number; segment = k; forward = forward })) ≡ true → (p : DirectedPiece) × (IsPiece x p × EndsWith (record { way = way; run = number; segment = k; forward = forward }) (steps p))
  closes_at way number k true inside there =
      let (from, is) = piece_back x way number k inside there in
      let (rest, e) = up_ends way number from (k - from) in
      (record { way = way; run = number; from = from; to = k + 1; forward = true }, (record { rises = is.rises; inside = is.inside; begins = is.begins; ends = is.ends; plain = is.plain }, (rest, ap (up way number from) {x = k + 1 - from} {y = suc (k - from)} (omega (arith, is.rises)) ∙ (e ∙ ap (λ j. rest ++ record { way = way; run = number; segment = j; forward = true } ∷ []) {x = from + (k - from)} {y = k} (omega (arith, is.rises))))))
  closes_at way number k false inside there =
      let (to, is) = piece_ahead x way number k inside there in
      let (rest, e) = down_ends way number k (to - k - 1) in
      (record { way = way; run = number; from = k; to = to; forward = false }, (record { rises = is.rises; inside = is.inside; begins = is.begins; ends = is.ends; plain = is.plain }, (rest, ap (down way number k) {x = to - k} {y = suc (to - k - 1)} (omega (arith, is.rises)) ∙ e)))

  pub closes : (s : Step) → IsStep x s → is_junction x (step_end x s) ≡ true → (p : DirectedPiece) × (IsPiece x p × EndsWith s (steps p))
  closes s is there = closes_at s.way s.run s.segment s.forward is.inside there

  abbrev StepsLead : ℤ → List Step → ℤ → Type 0
  StepsLead a ss b = Leads (IsStep x) (step_start x) (step_end x) (Joined x) a ss b

  -- the last step of a match begins at a junction
  pub begins_at : (parts : List (List Step)) (last : Step) (a b : ℤ) → All (EndsAtJunction x) parts → is_junction x a ≡ true → StepsLead a (flat_map (λ part. part) parts ++ last ∷ []) b → is_junction x (step_start x last) ≡ true
  begins_at [] last a b changes here lead = subst (λ n. is_junction x n ≡ true) (sym lead.1) here
  begins_at (part ∷ parts) last a b changes here lead =
      let (before, (s, (e, there))) = All-head (EndsAtJunction x) part parts changes in
      let more : List Step = flat_map (λ part. part) parts ++ last ∷ [] in
      let whole : (part ++ flat_map (λ part. part) parts) ++ last ∷ [] ≡ before ++ (s ∷ more) =
      append_assoc part (flat_map (λ part. part) parts) (last ∷ []) ∙ (ap (λ l. l ++ more) e ∙ append_assoc before (s ∷ []) more) in
      begins_at parts last (step_end x s) b (All-tail (EndsAtJunction x) part parts changes) there
      (leads_after (IsStep x) (step_start x) (step_end x) (Joined x) before more s a b (subst (λ l. StepsLead a l b) whole lead))

  -- steps between two junctions are those of pieces
  pub pieces_between : (ss : List Step) (a b : ℤ) → is_junction x a ≡ true → is_junction x b ≡ true → StepsLead a ss b → (ps : List DirectedPiece) × (All (IsPiece x) ps × (flat_map steps ps ≡ ss))
  pieces_between ss a b here there lead =
      let may : Leads (OpenStep x (λ way forward. ⊤)) (step_start x) (step_end x) (Joined x) a ss b =
      leads_with (IsStep x) (OpenStep x (λ way forward. ⊤)) (step_start x) (step_end x) (Joined x) (Joined x) ss a b lead (all_weaken (IsStep x) (OpenStep x (λ way forward. ⊤)) ss (λ s is. record { exists = is; may = tt }) (leads_all (IsStep x) (step_start x) (step_end x) (Joined x) ss a b lead)) (leads_follow (IsStep x) (step_start x) (step_end x) (Joined x) ss a b lead) in
      let (ps, (leads, e)) =
      to_pieces (is_junction x) (λ n. ⊤) (OpenStep x (λ way forward. ⊤)) (step_start x) (step_end x) GoesOn (Joined x) (OpenPiece x (λ way forward. ⊤)) (piece_start x) (piece_end x) steps (λ s t joined. (joined, tt)) (λ s t joined ok. joined) (λ s is inside. tt) (opens x (λ way forward. ⊤)) goes_on_only ss a b here there may in
      (ps, (all_weaken (OpenPiece x (λ way forward. ⊤)) (IsPiece x) ps (λ p ride. ride.exists) (leads_all (OpenPiece x (λ way forward. ⊤)) (piece_start x) (piece_end x) (λ p q. ⊤) ps a b leads), e))

  -- a match with its last step, or another one in its place, has a pattern
  written_from : (row : TurnRule) (list matched : List Step) (m : IsMatch x row matched) (last : Step) → list ≡ m.first ∷ (flat_map (λ part. part) m.parts ++ last ∷ []) → IsStep x last → step_start x last ≡ step_start x m.last → (pattern : List DirectedPiece) × Written x list pattern
  written_from row list matched m last is exists begins =
      let middle : List Step = flat_map (λ part. part) m.parts in
      let lead : StepsLead (step_start x m.first) (m.first ∷ (middle ++ m.last ∷ [])) (step_end x m.last) =
      subst (λ l. StepsLead (step_start x m.first) l (step_end x m.last)) m.is m.leads in
      let there : is_junction x (step_start x m.last) ≡ true =
      begins_at m.parts m.last (step_end x m.first) (step_end x m.last) m.changes m.turns lead.3 in
      let (between, (are, e)) =
      pieces_between middle (step_end x m.first) (step_start x m.last) m.turns there (leads_front (IsStep x) (step_start x) (step_end x) (Joined x) middle m.last (step_end x m.first) (step_end x m.last) lead.3) in
      let (from, (is_from, ends)) = closes m.first lead.0 m.turns in
      let (to, (ride, (ts, made))) =
      opens x (λ way forward. ⊤) last (record { exists = exists; may = tt }) (subst (λ n. is_junction x n ≡ true) (sym begins) there) in (
        from ∷ (between ++ to ∷ []),
        record {
          first = m.first;
          last = last;
          from = from;
          between = between;
          to = to;
          turn_is = is ∙ ap (λ l. m.first ∷ (l ++ last ∷ [])) (sym e);
          pattern_is = refl;
          from_exists = is_from;
          between_exist = are;
          to_exists = ride.exists;
          ends_with_first = ends;
          begins_with_last = (ts, made.is);
        },
      )

  pub by_kind : (only : Bool) (row : TurnRule) (list : List Step) → ForbiddenBy x only row list → (pattern : List DirectedPiece) × Written x list pattern
  by_kind true row list other = written_from row list other.matched other.match other.other other.is other.exists other.begins
  by_kind false row list m =
      let lead : StepsLead (step_start x m.first) (m.first ∷ (flat_map (λ part. part) m.parts ++ m.last ∷ [])) (step_end x m.last) =
      subst (λ l. StepsLead (step_start x m.first) l (step_end x m.last)) m.is m.leads in
      written_from row list list m m.last m.is (leads_last (IsStep x) (step_start x) (step_end x) (Joined x) (flat_map (λ part. part) m.parts) m.last (step_end x m.first) (step_end x m.last) lead.3) refl

pub pattern_of_turn : (x : Extract) (row : TurnRule) (list : List Step) → Forbidden x row list → (pattern : List DirectedPiece) × Written x list pattern
pattern_of_turn x row list forbidden = by_kind x row.only row list forbidden
