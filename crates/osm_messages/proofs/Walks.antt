-- Walks over the fields that a reader has left, one call after the other.
use Rattle.std.proofs.Common.{◌≡◌, ℕ, Bool, true, false, List, [], ◌∷◌, Option, Some, None, Result, Ok, Err, refl, sym, ap, ◌∙◌, inl, inr}
use Rattle.wire_read.specs.declared.fault.WireFault.{WireFault}
use Rattle.wire_read.specs.declared.fields.Field.{Field}
use Rattle.wire_read.specs.Numbers.{Unread}
use Rattle.wire_read.specs.Fields.{WireField, seen, NextField, Listed, with_item, message_of}
use Rattle.wire_read.proofs.Lists.{message_of-nil, message_of-field, message_of-fault}
use Rattle.osm_messages.specs.declared.fault.MessageFault.{MessageFault}
use Rattle.osm_messages.specs.declared.fault.MessageFault.TheVariants as faults
use Rattle.osm_messages.specs.Walks.{◌>>=◌, steps, with_end, walk, message}

-- ---- results

pub bind_assoc : {A B C : Type 0} (r : Result A MessageFault) (f : A → Result B MessageFault) (g : B → Result C MessageFault) → ((r >>= f) >>= g) ≡ (r >>= λ x. f x >>= g)
bind_assoc (Ok x) f g = refl
bind_assoc (Err d) f g = refl

pub bind_same : {A B : Type 0} (r : Result A MessageFault) (f g : A → Result B MessageFault) → ((x : A) → f x ≡ g x) → (r >>= f) ≡ (r >>= g)
bind_same (Ok x) f g same = same x
bind_same (Err d) f g same = refl

pub bind_ok : {A : Type 0} (r : Result A MessageFault) → (r >>= λ x. Ok x) ≡ r
bind_ok (Ok x) = refl
bind_ok (Err d) = refl

-- ---- one item

pub walk-item : {S A : Type 0} (step : S → A → Result S MessageFault) (s : S) (x : A) (list : Listed A) → walk step s (with_item x list) ≡ (step s x >>= λ t. walk step t list)
walk-item step s x list = bind_assoc (step s x) (λ t. steps step t list.items) (with_end list.fault)

-- ---- the same walk over what is seen of the states

pub with_end-seen : {S T : Type 0} (f : S → T) (fault : Option WireFault) (s : S) → (with_end fault s >>= λ t. Ok (f t)) ≡ with_end fault (f s)
with_end-seen f None s = refl
with_end-seen f (Some d) s = refl

-- each step of the one is, as it is seen, a step of the other
abbrev pub IsSeenAs : {S T A : Type 0} → (S → T) → (S → A → Result S MessageFault) → (T → A → Result T MessageFault) → Type 0
IsSeenAs {S = S} {A = A} f step other = (s : S) (x : A) → (step s x >>= λ t. Ok (f t)) ≡ other (f s) x

steps-seen : {S T A : Type 0} (f : S → T) (step : S → A → Result S MessageFault) (other : T → A → Result T MessageFault) → IsSeenAs f step other → (s : S) (xs : List A) → (steps step s xs >>= λ t. Ok (f t)) ≡ steps other (f s) xs
steps-seen f step other same s [] = refl
steps-seen f step other same s (x ∷ xs) =
    bind_assoc (step s x) (λ t. steps step t xs) (λ t. Ok (f t))
    ∙ bind_same (step s x) (λ t. steps step t xs >>= λ u. Ok (f u)) (λ t. steps other (f t) xs) (λ t. steps-seen f step other same t xs)
    ∙ sym (bind_assoc (step s x) (λ t. Ok (f t)) (λ t. steps other t xs))
    ∙ ap (λ r. r >>= λ t. steps other t xs) (same s x)

pub walk-seen : {S T A : Type 0} (f : S → T) (step : S → A → Result S MessageFault) (other : T → A → Result T MessageFault) → IsSeenAs f step other → (s : S) (list : Listed A) → (walk step s list >>= λ t. Ok (f t)) ≡ walk other (f s) list
walk-seen f step other same s list =
    let now = steps step s list.items in
    bind_assoc now (with_end list.fault) (λ t. Ok (f t))
    ∙ bind_same now (λ t. with_end list.fault t >>= λ u. Ok (f u)) (λ t. with_end list.fault (f t)) (λ t. with_end-seen f list.fault t)
    ∙ sym (bind_assoc now (λ t. Ok (f t)) (with_end list.fault))
    ∙ ap (λ r. r >>= with_end list.fault) (steps-seen f step other same s list.items)

-- ---- one field

next_field : (old new : Unread) (field : Field) → NextField old (Some (Ok field)) new → message_of old.at old.rest ≡ with_item (seen field) (message_of new.at new.rest)
next_field old new field next = message_of-field old.at new.at old.rest (seen field, new.rest) next.1 next.2

-- what is left of a walk
abbrev pub left_of : {S : Type 0} → (S → WireField → Result S MessageFault) → S → Unread → Result S MessageFault
left_of step s left = message step s left.at left.rest

pub left-field : {S : Type 0} (step : S → WireField → Result S MessageFault) (s : S) (old new : Unread) (field : Field) → NextField old (Some (Ok field)) new → left_of step s old ≡ (step s (seen field) >>= λ t. left_of step t new)
left-field step s old new field next =
    ap (walk step s) (next_field old new field next) ∙ walk-item step s (seen field) (message_of new.at new.rest)

pub left-ok : {S : Type 0} (step : S → WireField → Result S MessageFault) (s t : S) (old new : Unread) (field : Field) → NextField old (Some (Ok field)) new → step s (seen field) ≡ Ok t → left_of step s old ≡ left_of step t new
left-ok step s t old new field next e =
    left-field step s old new field next ∙ ap (λ r. r >>= λ u. left_of step u new) e

pub left-stop : {S : Type 0} (step : S → WireField → Result S MessageFault) (s : S) (old new : Unread) (field : Field) (d : MessageFault) → NextField old (Some (Ok field)) new → step s (seen field) ≡ Err d → left_of step s old ≡ Err d
left-stop step s old new field d next e =
    left-field step s old new field next ∙ ap (λ r. r >>= λ u. left_of step u new) e

pub left-fault : {S : Type 0} (step : S → WireField → Result S MessageFault) (s : S) (old new : Unread) (fault : WireFault) → NextField old (Some (Err fault)) new → left_of step s old ≡ Err (faults.Wire fault)
left-fault step s old new fault next = ap (walk step s) (message_of-fault old.at old.rest fault next.1 next.2)

not_both : (b : Bool) → b ≡ true → b ≡ false → ⊥
not_both b p q = cc

pub left-end : {S : Type 0} (step : S → WireField → Result S MessageFault) (s : S) (old new : Unread) → old.broken ≡ false → NextField old None new → left_of step s old ≡ Ok s
left-end step s old new e next =
    let empty : old.rest ≡ [] = elim next.0 [ inl empty ↦ empty | inr broken ↦ absurd (not_both old.broken broken e) ] in
    ap (λ (bytes : List ℕ). message step s old.at bytes) empty ∙ ap (walk step s) (message_of-nil old.at)

-- ---- the invariant of a loop over fields

-- the whole is what is left gives; the reader isn't broken
pub record Going {A : Type 0} (whole now : A) (left : Unread) : Type 0 where
  pub unbroken : left.broken ≡ false
  pub same : whole ≡ now

-- a reader that stands at the first byte
abbrev pub begun : ℕ → List ℕ → Unread
begun at bytes = record { rest = bytes; at = at; broken = false }

-- ---- the steps of such a loop

pub Going-ok : {S B : Type 0} (step : S → WireField → Result S MessageFault) (k : Result S MessageFault → B) (whole : B) (s t : S) (old new : Unread) (field : Field) → Going whole (k (left_of step s old)) old → NextField old (Some (Ok field)) new → step s (seen field) ≡ Ok t → Going whole (k (left_of step t new)) new
Going-ok step k whole s t old new field going next e = record { unbroken = next.3; same = going.same ∙ ap k (left-ok step s t old new field next e) }

-- where all fields are read
pub Going-end : {S B : Type 0} (step : S → WireField → Result S MessageFault) (k : Result S MessageFault → B) (whole : B) (s : S) (old new : Unread) → Going whole (k (left_of step s old)) old → NextField old None new → whole ≡ k (Ok s)
Going-end step k whole s old new going next = going.same ∙ ap k (left-end step s old new going.unbroken next)

-- where no field comes
pub Going-fault : {S B : Type 0} (step : S → WireField → Result S MessageFault) (k : Result S MessageFault → B) (whole : B) (s : S) (old new : Unread) (fault : WireFault) → Going whole (k (left_of step s old)) old → NextField old (Some (Err fault)) new → whole ≡ k (Err (faults.Wire fault))
Going-fault step k whole s old new fault going next = going.same ∙ ap k (left-fault step s old new fault next)

-- where a step has a fault
pub Going-stop : {S B : Type 0} (step : S → WireField → Result S MessageFault) (k : Result S MessageFault → B) (whole : B) (s : S) (old new : Unread) (field : Field) (d : MessageFault) → Going whole (k (left_of step s old)) old → NextField old (Some (Ok field)) new → step s (seen field) ≡ Err d → whole ≡ k (Err d)
Going-stop step k whole s old new field d going next e = going.same ∙ ap k (left-stop step s old new field d next e)
