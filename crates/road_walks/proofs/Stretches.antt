-- A stretch of steps that go on in one run and direction, and pieces that go on: the same thing between junctions.
use Rattle.std.proofs.Common.{◌≡◌, ℕ, zero, suc, ◌+◌, ◌-◌, ◌<◌, refl, sym, ◌∙◌, ap, subst, List, [], ◌∷◌, ◌++◌, ℤ, Bool, true, false, arith, append_assoc}
use Rattle.std.specs.Prelude.{All}
use Rattle.std.specs.List.{flat_map}
use Rattle.std.proofs.lemmas.List.Elements.{All-head, All-tail}
use Rattle.osm_model.specs.declared.extract.Extract.{Extract}
use Rattle.road_pieces.specs.declared.steps.Step.{Step}
use Rattle.road_pieces.specs.DirectedPiece.{DirectedPiece}
use Rattle.road_pieces.specs.Paths.{Follows}
use Rattle.road_pieces.specs.Following.{AllFollow}
use Rattle.road_pieces.specs.Steps.{NextAlong, GoesOn}
use Rattle.road_pieces.specs.Pieces.{IsPiece, up, down, steps}
use Rattle.road_pieces.proofs.Lists.{pair_at}
use Rattle.road_walks.specs.PieceMatches.{MeetsAt, PieceGoesOn}

abbrev pub step : ℤ → ℕ → Bool → ℕ → Step
step way number forward k = record { way = way; run = number; segment = k; forward = forward }

abbrev pub piece : ℤ → ℕ → Bool → ℕ → ℕ → DirectedPiece
piece way number forward from to = record { way = way; run = number; from = from; to = to; forward = forward }

-- the segment of the first and of the last step of a piece
abbrev pub first_at : Bool → ℕ → ℕ → ℕ
first_at true from to = from
first_at false from to = to - 1

abbrev pub last_at : Bool → ℕ → ℕ → ℕ
last_at true from to = to - 1
last_at false from to = from

-- steps with a first and a last one
pub record Runs (way : ℤ) (number : ℕ) (forward : Bool) (from to : ℕ) (ss : List Step) : Type 0 where
  pub tail : List Step
  pub front : List Step
  pub begins : ss ≡ step way number forward (first_at forward from to) ∷ tail
  pub ends : ss ≡ front ++ step way number forward (last_at forward from to) ∷ []
  pub goes : AllFollow GoesOn ss

up_front : (way : ℤ) (number from count : ℕ) → (front : List Step) × (up way number from (suc count) ≡ front ++ step way number true (from + count) ∷ [])
up_front way number from zero = ([], ap (λ k. step way number true k ∷ []) {x = from} {y = from + 0} (omega arith))
up_front way number from (suc count) =
    let (front, e) = up_front way number (from + 1) count in
    (step way number true from ∷ front, ap (λ l. step way number true from ∷ l) e ∙ ap (λ k. step way number true from ∷ (front ++ step way number true k ∷ [])) {x = from + 1 + count} {y = from + suc count} (omega arith))

down_front : (way : ℤ) (number to count : ℕ) → (front : List Step) × (down way number to (suc count) ≡ front ++ step way number false to ∷ [])
down_front way number to zero = ([], ap (λ k. step way number false k ∷ []) {x = to + 0} {y = to} (omega arith))
down_front way number to (suc count) =
    let (front, e) = down_front way number to count in
    (step way number false (to + suc count) ∷ front, ap (λ l. step way number false (to + suc count) ∷ l) e)

up_goes : (way : ℤ) (number from count : ℕ) → AllFollow GoesOn (up way number from count)
up_goes way number from zero = tt
up_goes way number from (suc zero) = (tt, tt)
up_goes way number from (suc (suc count)) =
    (record { same_way = refl; same_run = refl; same_direction = refl; next = refl }, up_goes way number (from + 1) (suc count))

down_goes : (way : ℤ) (number to count : ℕ) → AllFollow GoesOn (down way number to count)
down_goes way number to zero = tt
down_goes way number to (suc zero) = (tt, tt)
down_goes way number to (suc (suc count)) =
    (record { same_way = refl; same_run = refl; same_direction = refl; next = omega arith }, down_goes way number to (suc count))

runs_at : (way : ℤ) (number : ℕ) (forward : Bool) (from to : ℕ) → from < to → Runs way number forward from to (steps (piece way number forward from to))
runs_at way number true from to h =
    let (front, e) = up_front way number from (to - from - 1) in
    let count : to - from ≡ suc (to - from - 1) = omega arith in
    record {
      tail = up way number (from + 1) (to - from - 1);
      front = front;
      begins = ap (up way number from) count;
      ends = ap (up way number from) count ∙ (e ∙ ap (λ k. front ++ step way number true k ∷ []) {x = from + (to - from - 1)} {y = to - 1} (omega arith));
      goes = up_goes way number from (to - from);
    }
runs_at way number false from to h =
    let (front, e) = down_front way number from (to - from - 1) in
    let count : to - from ≡ suc (to - from - 1) = omega arith in
    record {
      tail = down way number from (to - from - 1);
      front = front;
      begins = ap (down way number from) count ∙ ap (λ k. step way number false k ∷ down way number from (to - from - 1)) {x = from + (to - from - 1)} {y = to - 1} (omega arith);
      ends = ap (down way number from) count ∙ e;
      goes = down_goes way number from (to - from);
    }

-- a last step goes on to a first one exactly where the pieces do
meets : (forward : Bool) (a b c d : ℕ) (p q : DirectedPiece) → p.from ≡ a → p.to ≡ b → q.from ≡ c → q.to ≡ d → a < b → c < d → NextAlong forward (last_at forward a b) (first_at forward c d) → MeetsAt forward p q
meets true a b c d p q ea eb ec ed h k next = ec ∙ (let same : c ≡ b = omega (arith, next, h) in same ∙ sym eb)
meets false a b c d p q ea eb ec ed h k next = ea ∙ (let same : a ≡ d = omega (arith, next, k) in same ∙ sym ed)

parts_meet : (forward : Bool) (p q : DirectedPiece) → p.from < p.to → q.from < q.to → MeetsAt forward p q → NextAlong forward (last_at forward p.from p.to) (first_at forward q.from q.to)
parts_meet true p q h k next = omega (arith, next, h)
parts_meet false p q h k next = omega (arith, next, k)

pub runs : (p : DirectedPiece) → p.from < p.to → Runs p.way p.run p.forward p.from p.to (steps p)
runs p h = runs_at p.way p.run p.forward p.from p.to h

piece_on : (p q : DirectedPiece) → p.from < p.to → q.from < q.to → GoesOn (step p.way p.run p.forward (last_at p.forward p.from p.to)) (step q.way q.run q.forward (first_at q.forward q.from q.to)) → PieceGoesOn p q
piece_on p q h k g = record {
  same_way = g.same_way;
  same_run = g.same_run;
  same_direction = g.same_direction;
  next = meets p.forward p.from p.to q.from q.to p q refl refl refl refl h k (subst (λ f. NextAlong p.forward (last_at p.forward p.from p.to) (first_at f q.from q.to)) (sym g.same_direction) g.next);
}

step_on : (p q : DirectedPiece) → p.from < p.to → q.from < q.to → PieceGoesOn p q → GoesOn (step p.way p.run p.forward (last_at p.forward p.from p.to)) (step q.way q.run q.forward (first_at q.forward q.from q.to))
step_on p q h k g = record {
  same_way = g.same_way;
  same_run = g.same_run;
  same_direction = g.same_direction;
  next = subst (λ f. NextAlong p.forward (last_at p.forward p.from p.to) (first_at f q.from q.to)) g.same_direction (parts_meet p.forward p q h k g.next);
}

-- along lists
follow_back : {E : Type 0} (Next : E → E → Type 0) (before after : List E) → AllFollow Next (before ++ after) → AllFollow Next after
follow_back Next [] after h = h
follow_back Next (e ∷ before) after h = follow_back Next before after h.1

follows_side : {E : Type 0} (Next : E → E → Type 0) (e f : E) (es rest : List E) → Follows Next e (es ++ f ∷ []) → Follows Next e (es ++ f ∷ rest)
follows_side Next e f [] rest h = h
follows_side Next e f (g ∷ es) rest h = h

follow_side : {E : Type 0} (Next : E → E → Type 0) (front : List E) (s t : E) (rest : List E) → AllFollow Next (front ++ s ∷ []) → Next s t → AllFollow Next (t ∷ rest) → AllFollow Next (front ++ (s ∷ (t ∷ rest)))
follow_side Next [] s t rest h next after = (next, after)
follow_side Next (e ∷ front) s t rest h next after =
    (follows_side Next e s front (t ∷ rest) h.0, follow_side Next front s t rest h.1 next after)

module _ (x : Extract) where
  -- pieces whose steps go on do so themselves
  pub pieces_go_on : (ps : List DirectedPiece) → All (IsPiece x) ps → AllFollow GoesOn (flat_map steps ps) → AllFollow PieceGoesOn ps
  pieces_go_on [] are h = tt
  pieces_go_on (p ∷ []) are h = (tt, tt)
  pieces_go_on (p ∷ (q ∷ ps)) are h =
      let is_p : IsPiece x p = All-head (IsPiece x) p (q ∷ ps) are in
      let rest : All (IsPiece x) (q ∷ ps) = All-tail (IsPiece x) p (q ∷ ps) are in
      let is_q : IsPiece x q = All-head (IsPiece x) q ps rest in
      let r = runs p is_p.rises in
      let o = runs q is_q.rises in
      let s : Step = step p.way p.run p.forward (last_at p.forward p.from p.to) in
      let t : Step = step q.way q.run q.forward (first_at q.forward q.from q.to) in
      let more : List Step = o.tail ++ flat_map steps ps in
      let whole : steps p ++ (steps q ++ flat_map steps ps) ≡ r.front ++ (s ∷ (t ∷ more)) =
      ap (λ l. l ++ (steps q ++ flat_map steps ps)) r.ends ∙ (append_assoc r.front (s ∷ []) (steps q ++ flat_map steps ps) ∙ ap (λ l. r.front ++ (s ∷ (l ++ flat_map steps ps))) o.begins) in
      (piece_on p q is_p.rises is_q.rises (pair_at GoesOn r.front more s t (subst (AllFollow GoesOn) whole h)), pieces_go_on (q ∷ ps) rest (follow_back GoesOn (steps p) (steps q ++ flat_map steps ps) h))

  -- and the other way round
  pub steps_go_on : (ps : List DirectedPiece) → All (IsPiece x) ps → AllFollow PieceGoesOn ps → AllFollow GoesOn (flat_map steps ps)
  steps_go_on [] are h = tt
  steps_go_on (p ∷ []) are h =
      subst (AllFollow GoesOn) (sym (append_none (steps p))) (runs p (All-head (IsPiece x) p [] are).rises).goes
    where
      append_none : (l : List Step) → l ++ [] ≡ l
      append_none [] = refl
      append_none (e ∷ l) = ap (λ m. e ∷ m) (append_none l)
  steps_go_on (p ∷ (q ∷ ps)) are h =
      let is_p : IsPiece x p = All-head (IsPiece x) p (q ∷ ps) are in
      let rest : All (IsPiece x) (q ∷ ps) = All-tail (IsPiece x) p (q ∷ ps) are in
      let is_q : IsPiece x q = All-head (IsPiece x) q ps rest in
      let r = runs p is_p.rises in
      let o = runs q is_q.rises in
      let s : Step = step p.way p.run p.forward (last_at p.forward p.from p.to) in
      let t : Step = step q.way q.run q.forward (first_at q.forward q.from q.to) in
      let more : List Step = o.tail ++ flat_map steps ps in
      let whole : steps p ++ (steps q ++ flat_map steps ps) ≡ r.front ++ (s ∷ (t ∷ more)) =
      ap (λ l. l ++ (steps q ++ flat_map steps ps)) r.ends ∙ (append_assoc r.front (s ∷ []) (steps q ++ flat_map steps ps) ∙ ap (λ l. r.front ++ (s ∷ (l ++ flat_map steps ps))) o.begins) in
      let after : AllFollow GoesOn (t ∷ more) =
      subst (λ l. AllFollow GoesOn (l ++ flat_map steps ps)) o.begins (steps_go_on (q ∷ ps) rest h.1) in
      subst (AllFollow GoesOn) (sym whole) (follow_side GoesOn r.front s t more (subst (AllFollow GoesOn) r.ends r.goes) (step_on p q is_p.rises is_q.rises h.0) after)
