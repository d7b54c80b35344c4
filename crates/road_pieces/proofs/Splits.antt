-- A list of steps from one junction to another is the steps of a list of pieces, and that list leads the same
-- way; and the steps of a list of pieces lead as the pieces do. Nothing here is about roads.
use Rattle.std.proofs.Common.{◌≡◌, refl, sym, ◌∙◌, ap, subst, List, [], ◌∷◌, ◌++◌, Bool, true, false, inl, inr}
use Rattle.std.specs.Prelude.{◌⊎◌, ⊤}
use Rattle.std.specs.List.{flat_map}
use Rattle.std.proofs.lemmas.Bool.{both_ways}
use Rattle.road_pieces.specs.Paths.{Follows, Leads}

-- the node may be passed, if anything comes after it
abbrev pub Beyond : {N E : Type 0} → (N → Type 0) → N → List E → Type 0
Beyond Ok n [] = ⊤
Beyond Ok n (e ∷ es) = Ok n

any_beyond : {N E : Type 0} (Ok : N → Type 0) (n : N) (es : List E) → Ok n → Beyond Ok n es
any_beyond Ok n [] ok = tt
any_beyond Ok n (e ∷ es) ok = ok

beyond_from_follows : {N E : Type 0} (Ok : N → Type 0) (finish : E → N) (e : E) (es : List E) → Follows (λ p q. Ok (finish p)) e es → Beyond Ok (finish e) es
beyond_from_follows Ok finish e [] h = tt
beyond_from_follows Ok finish e (f ∷ fs) h = h

follows_from_beyond : {N E : Type 0} (Ok : N → Type 0) (finish : E → N) (e : E) (es : List E) → Beyond Ok (finish e) es → Follows (λ p q. Ok (finish p)) e es
follows_from_beyond Ok finish e [] h = tt
follows_from_beyond Ok finish e (f ∷ fs) h = h

-- where a list of steps ends that begins with s
abbrev pub last_end : {N S : Type 0} → (S → N) → S → List S → N
last_end finish s [] = finish s
last_end finish s (t ∷ ts) = last_end finish t ts

-- ts are the steps after s up to the first junction: where s doesn't end at one, the next step goes on
abbrev pub Rest : {N S : Type 0} → (N → Bool) → (S → Type 0) → (S → N) → (S → N) → (S → S → Type 0) → S → List S → Type 0
Rest at Is start finish Next s [] = at (finish s) ≡ true
Rest at Is start finish Next s (t ∷ ts) =
    (at (finish s) ≡ false) × Next s t × Is t × (start t ≡ finish s) × Rest at Is start finish Next t ts

-- a piece is the step s, which starts at a junction, and ts after it
pub record Made {N S P : Type 0} (at : N → Bool) (Is : S → Type 0) (start finish : S → N) (Next : S → S → Type 0) (pstart pend : P → N) (steps : P → List S) (p : P) (s : S) (ts : List S) : Type 0 where
  pub is : steps p ≡ s ∷ ts
  pub first : Is s
  pub begins : start s ≡ pstart p
  pub rest : Rest at Is start finish Next s ts
  pub ends : last_end finish s ts ≡ pend p

module _
    {N S P : Type 0}
    (at : N → Bool)
    (Ok : N → Type 0)
    (Is : S → Type 0) (start finish : S → N)
    (Next R : S → S → Type 0)
    (IsP : P → Type 0) (pstart pend : P → N)
    (steps : P → List S)
    (goes : (s t : S) → R s t → (Next s t ⊎ (at (finish s) ≡ true)) × Ok (finish s))
    (may : (s t : S) → Next s t ⊎ (at (finish s) ≡ true) → Ok (finish s) → R s t)
    (inner : (s : S) → Is s → at (finish s) ≡ false → Ok (finish s)) where
  abbrev SLead : N → List S → N → Type 0
  SLead a ss b = Leads Is start finish R a ss b

  abbrev PLead : N → List P → N → Type 0
  PLead a ps b = Leads IsP pstart pend (λ p q. Ok (pend p)) a ps b

  abbrev After : S → List S → Type 0
  After s ts = Rest at Is start finish Next s ts

  at_last : (s : S) (ss : List S) → at (finish s) ≡ true → Beyond Ok (finish s) ss → Follows R s ss
  at_last s [] h ok = tt
  at_last s (t ∷ ss) h ok = may s t (inr h) ok

  -- from the first step of a piece on, through the piece
  through : (ts : List S) (s : S) (a b : N) (more : List S) → Is s → start s ≡ a → After s ts → Beyond Ok (last_end finish s ts) more → SLead (last_end finish s ts) more b → SLead a (s ∷ (ts ++ more)) b
  through [] s a b more is begins rest ok lead = (is, begins, at_last s more rest ok, lead)
  through (t ∷ ts) s a b more is begins rest ok lead =
      (is, begins, may s t (inl rest.1) (inner s is rest.0), through ts t (finish s) b more rest.2 rest.3 rest.4 ok lead)

  beyond_flat : (ps : List P) (n : N) → Beyond Ok n ps → Beyond Ok n (flat_map steps ps)
  beyond_flat [] n ok = tt
  beyond_flat (p ∷ ps) n ok = any_beyond Ok n (flat_map steps (p ∷ ps)) ok

  module _
      (shape : (p : P) → IsP p → (s : S) × ((ts : List S) × Made at Is start finish Next pstart pend steps p s ts)) where
    -- the steps of pieces that lead from a to b lead from a to b
    pub to_steps : (ps : List P) (a b : N) → PLead a ps b → SLead a (flat_map steps ps) b
    to_steps [] a b lead = lead
    to_steps (p ∷ ps) a b (is, begins, follows, lead) =
        let (s, (ts, made)) = shape p is in
        let more : List S = flat_map steps ps in
        let passes : Beyond Ok (pend p) more = beyond_flat ps (pend p) (beyond_from_follows Ok pend p ps follows) in
        let after : SLead (pend p) more b = to_steps ps (pend p) b lead in
        subst (λ l. SLead a (l ++ more) b) (sym made.is)
        (through ts s a b more made.first (made.begins ∙ begins) made.rest
        (subst (λ n. Beyond Ok n more) (sym made.ends) passes) (subst (λ n. SLead n more b) (sym made.ends) after))

  module _
      (opens : (s : S) → Is s → at (start s) ≡ true → (p : P) × (IsP p × ((ts : List S) × Made at Is start finish Next pstart pend steps p s ts)))
      (only : (s t u : S) → Next s t → Next s u → t ≡ u) where
    -- what is left of the steps after those of the piece of s, in pieces
    record Split (s : S) (ts ss : List S) (b : N) : Type 0 where
      more : List S
      pieces : List P
      is : ss ≡ ts ++ more
      same : flat_map steps pieces ≡ more
      passes : Beyond Ok (last_end finish s ts) pieces
      leads : PLead (last_end finish s ts) pieces b

    abbrev Within : List S → N → Type 0
    Within ss b = (s : S) (ts : List S) → After s ts → Follows R s ss → SLead (finish s) ss b → Split s ts ss b

    -- at a junction a new piece begins
    at_node : (t : S) (ss : List S) (a b : N) → Within ss b → at a ≡ true → SLead a (t ∷ ss) b → (ps : List P) × (PLead a ps b × (flat_map steps ps ≡ t ∷ ss))
    at_node t ss a b within here (is, begins, follows, lead) =
        let (p, (is_piece, (ts, made))) = opens t is (subst (λ n. at n ≡ true) (sym begins) here) in
        let left : Split t ts ss b = within t ts made.rest follows lead in
        let passes : Beyond Ok (pend p) left.pieces = subst (λ n. Beyond Ok n left.pieces) made.ends left.passes in
        let leads : PLead (pend p) left.pieces b = subst (λ n. PLead n left.pieces b) made.ends left.leads in
        let same : flat_map steps (p ∷ left.pieces) ≡ t ∷ ss =
        ap (λ l. l ++ flat_map steps left.pieces) made.is ∙ (ap (λ l. t ∷ (ts ++ l)) left.same ∙ ap (λ l. t ∷ l) (sym left.is)) in
        (p ∷ left.pieces, ((is_piece, sym made.begins ∙ begins, follows_from_beyond Ok pend p left.pieces passes, leads), same))

    within : (ss : List S) (b : N) → at b ≡ true → Within ss b
    within [] b there s [] rest follows lead =
        record { more = []; pieces = []; is = refl; same = refl; passes = tt; leads = lead }
    within [] b there s (t ∷ ts) rest follows lead = absurd (both_ways (at b) (ap at (sym lead) ∙ rest.0) there)
    within (t ∷ ss) b there s [] rest follows lead =
        let (pieces, (leads, same)) = at_node t ss (finish s) b (within ss b there) rest lead in
        record {
          more = t ∷ ss;
          pieces = pieces;
          is = refl;
          same = same;
          passes = any_beyond Ok (finish s) pieces (goes s t follows).1;
          leads = leads;
        }
    within (t ∷ ss) b there s (u ∷ ts) rest follows lead =
        let e : t ≡ u = elim ((goes s t follows).0) [ inl next ↦ only s t u next rest.1 | inr h ↦ absurd (both_ways (at (finish s)) rest.0 h) ] in
        let left : Split u ts ss b =
        within ss b there u ts rest.4 (subst (λ v. Follows R v ss) e lead.2) (subst (λ v. SLead (finish v) ss b) e lead.3) in
        record {
          more = left.more;
          pieces = left.pieces;
          is = ap (λ l. t ∷ l) left.is ∙ ap (λ v. v ∷ (ts ++ left.more)) e;
          same = left.same;
          passes = left.passes;
          leads = left.leads;
        }

    -- steps that lead from one junction to another are the steps of pieces that lead from one to the other
    pub to_pieces : (ss : List S) (a b : N) → at a ≡ true → at b ≡ true → SLead a ss b → (ps : List P) × (PLead a ps b × (flat_map steps ps ≡ ss))
    to_pieces [] a b here there lead = ([], (lead, refl))
    to_pieces (t ∷ ss) a b here there lead = at_node t ss a b (within ss b there) here lead
