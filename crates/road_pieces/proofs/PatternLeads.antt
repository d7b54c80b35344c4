-- The pieces of a pattern, where there are two: the second starts where the first ends.
use Rattle.std.proofs.Common.{◌≡◌, ℕ, refl, sym, ◌∙◌, ap, subst, List, [], ◌∷◌, ◌++◌, ℤ, Bool, true, false, inr}
use Rattle.std.specs.Prelude.{⊤}
use Rattle.std.specs.List.{flat_map}
use Rattle.osm_model.specs.declared.extract.Extract.{Extract}
use Rattle.road_pieces.specs.declared.steps.Step.{Step}
use Rattle.road_pieces.specs.DirectedPiece.{DirectedPiece}
use Rattle.road_pieces.specs.Paths.{Follows, Leads}
use Rattle.road_pieces.specs.Runs.{is_junction}
use Rattle.road_pieces.specs.Steps.{IsStep, Joined, step_start, step_end}
use Rattle.road_pieces.specs.Pieces.{IsPiece, piece_start, piece_end, steps}
use Rattle.road_pieces.specs.Turns.{Written, BeginsWith, EndsWith}
use Rattle.road_pieces.specs.Matches.{TurnRule, IsMatch, ForbiddenBy, IsPattern}
use Rattle.road_pieces.proofs.Lists.{same_head, same_tail, not_nil}
use Rattle.road_pieces.proofs.Splits.{last_end}
use Rattle.road_pieces.proofs.Along.{shape}
use Rattle.road_pieces.proofs.TurnPatterns.{begins_at}

-- another last thing
swap_follows : {N E : Type 0} (start finish : E → N) (Next : E → E → Type 0) (d : E) (es : List E) (e f : E) → ((d : E) → finish d ≡ start e → Next d f) → (es ≡ [] → finish d ≡ start e) → Follows Next d (es ++ e ∷ []) → Follows Next d (es ++ f ∷ [])
swap_follows start finish Next d [] e f may here follows = may d (here refl)
swap_follows start finish Next d (g ∷ es) e f may here follows = follows

swap_here : {N E : Type 0} (Is : E → Type 0) (start finish : E → N) (Next : E → E → Type 0) (es : List E) (e : E) (a b : N) → Leads Is start finish Next a (es ++ e ∷ []) b → es ≡ [] → a ≡ start e
swap_here Is start finish Next [] e a b lead none = sym lead.1
swap_here Is start finish Next (g ∷ es) e a b lead none = absurd (not_nil [] es g (sym none))

leads_swap : {N E : Type 0} (Is : E → Type 0) (start finish : E → N) (Next : E → E → Type 0) (es : List E) (e f : E) (a b : N) → Leads Is start finish Next a (es ++ e ∷ []) b → Is f → start f ≡ start e → ((d : E) → finish d ≡ start e → Next d f) → Leads Is start finish Next a (es ++ f ∷ []) (finish f)
leads_swap Is start finish Next [] e f a b lead is begins may = (is, begins ∙ lead.1, tt, refl)
leads_swap Is start finish Next (d ∷ es) e f a b lead is begins may =
    (lead.0, lead.1, swap_follows start finish Next d es e f may (swap_here Is start finish Next es e (finish d) b lead.3) lead.2, leads_swap Is start finish Next es e f (finish d) b lead.3 is begins may)

last_end_is : {N S : Type 0} (finish : S → N) (rest : List S) (t : S) (ts : List S) (s : S) → t ∷ ts ≡ rest ++ s ∷ [] → last_end finish t ts ≡ finish s
last_end_is finish [] t [] s h = ap finish (same_head t s [] [] h)
last_end_is finish [] t (u ∷ ts) s h = absurd (not_nil [] ts u (sym (same_tail t s (u ∷ ts) [] h)))
last_end_is finish (r ∷ rest) t [] s h = absurd (not_nil rest [] s (same_tail t r [] (rest ++ s ∷ []) h))
last_end_is finish (r ∷ rest) t (u ∷ ts) s h =
    last_end_is finish rest u ts s (same_tail t r (u ∷ ts) (rest ++ s ∷ []) h)

short : {E : Type 0} (f to : E) (between : List E) → f ∷ [] ≡ between ++ to ∷ [] → (f ≡ to) × (between ≡ [])
short f to [] h = (same_head f to [] [] h, refl)
short f to (b ∷ between) h = absurd (not_nil between [] to (same_tail f b [] (between ++ to ∷ []) h))

module _ (x : Extract) where
  abbrev StepsLead : ℤ → List Step → ℤ → Type 0
  StepsLead a ss b = Leads (IsStep x) (step_start x) (step_end x) (Joined x) a ss b

  turn_leads : (only : Bool) (row : TurnRule) (list : List Step) → ForbiddenBy x only row list → (a : ℤ) × ((b : ℤ) × StepsLead a list b)
  turn_leads false row list m = (step_start x m.first, (step_end x m.last, m.leads))
  turn_leads true row list o =
      let m : IsMatch x row o.matched = o.match in
      let middle : List Step = flat_map (λ part. part) m.parts in
      let lead : StepsLead (step_start x m.first) (m.first ∷ (middle ++ m.last ∷ [])) (step_end x m.last) =
      subst (λ l. StepsLead (step_start x m.first) l (step_end x m.last)) m.is m.leads in
      let there : is_junction x (step_start x m.last) ≡ true =
      begins_at x m.parts m.last (step_end x m.first) (step_end x m.last) m.changes m.turns lead.3 in
      let other : StepsLead (step_start x m.first) (m.first ∷ (middle ++ o.other ∷ [])) (step_end x o.other) =
      leads_swap (IsStep x) (step_start x) (step_end x) (Joined x) (m.first ∷ middle) m.last o.other (step_start x m.first) (step_end x m.last) lead o.exists o.begins (λ d e. inr (subst (λ n. is_junction x n ≡ true) (sym e) there)) in
      (step_start x m.first, (step_end x o.other, subst (λ l. StepsLead (step_start x m.first) l (step_end x o.other)) (sym o.is) other))

  pub piece_begins : (p : DirectedPiece) (s : Step) → IsPiece x p → BeginsWith s (steps p) → step_start x s ≡ piece_start x p
  piece_begins p s is (rest, e) =
      let (t, (ts, made)) = shape x (λ way forward. ⊤) p (record { exists = is; may = tt }) in
      ap (step_start x) (same_head s t rest ts (sym e ∙ made.is)) ∙ made.begins

  pub piece_ends : (p : DirectedPiece) (s : Step) → IsPiece x p → EndsWith s (steps p) → step_end x s ≡ piece_end x p
  piece_ends p s is (rest, e) =
      let (t, (ts, made)) = shape x (λ way forward. ⊤) p (record { exists = is; may = tt }) in
      sym (last_end_is (step_end x) rest t ts s (sym made.is ∙ e)) ∙ made.ends

pub pattern_joined : (x : Extract) (e f : DirectedPiece) (modes : ℕ) → IsPattern x (e ∷ (f ∷ [])) modes → IsPiece x f × (piece_start x f ≡ piece_end x e)
pattern_joined x e f modes is =
    let w : Written x is.turn (e ∷ (f ∷ [])) = is.written in
    let one : e ≡ w.from = same_head e w.from (f ∷ []) (w.between ++ w.to ∷ []) w.pattern_is in
    let (two, none) = short f w.to w.between (same_tail e w.from (f ∷ []) (w.between ++ w.to ∷ []) w.pattern_is) in
    let (a, (b, leads)) = turn_leads x is.row.only is.row is.turn is.forbidden in
    let lead : StepsLead x a (w.first ∷ (w.last ∷ [])) b =
    subst (λ l. StepsLead x a l b) (w.turn_is ∙ ap (λ m. w.first ∷ (flat_map steps m ++ w.last ∷ [])) none) leads in
    let starts : step_start x w.last ≡ piece_start x w.to = piece_begins x w.to w.last w.to_exists w.begins_with_last in
    let ends : step_end x w.first ≡ piece_end x w.from =
    piece_ends x w.from w.first w.from_exists w.ends_with_first in
    (subst (IsPiece x) (sym two) w.to_exists, ap (piece_start x) two ∙ (sym starts ∙ (lead.3.1 ∙ (ends ∙ sym (ap (piece_end x) one)))))
