-- Steps over the fields of a message lead there exactly where a relation holds.
use Rattle.std.proofs.Common.{◌≡◌, ℕ, ◌+◌, ◌<◌, List, [], ◌∷◌, ◌++◌, length, take, Some, Result, Ok, Err, ◌↔◌, refl, sym, ap, ◌∙◌, subst, inl, inr, append_assoc}
use Rattle.std.proofs.lemmas.List.{take_at, append-nil}
use Rattle.std.proofs.lemmas.List.Elements.{All-take}
use Rattle.wire_read.specs.declared.fault.WireFault.{WireFault}
use Rattle.wire_read.specs.Varint.{AreBytes}
use Rattle.wire_read.specs.Fields.{Content, Varint, Fixed64, Bytes, Fixed32, WireField, IsBody, IsField, SpellsFields}
use Rattle.wire_read.proofs.Packed.{AreBytes-rest}
use Rattle.wire_read.proofs.MessageLaw.{message_of-spelled, message_of-broken, is_message_one_way}
use Rattle.osm_messages.specs.declared.fault.MessageFault.{MessageFault}
use Rattle.osm_messages.specs.Walks.{◌>>=◌, steps, with_end, walk, message}
use Rattle.osm_messages.specs.Means.{Together}
use Rattle.osm_messages.proofs.Walks.{bind_ok}

-- ---- results

pub ok_is : {A : Type 0} (x y : A) → ◌≡◌ {A = Result A MessageFault} (Ok x) (Ok y) → x ≡ y
ok_is x y e = cc

pub err_not_ok : {A : Type 0} (d : MessageFault) (x : A) → ◌≡◌ {A = Result A MessageFault} (Err d) (Ok x) → ⊥
err_not_ok d x e = cc

-- where the whole has no fault, the part has none
pub parts_of : {A B : Type 0} (r : Result A MessageFault) (f : A → Result B MessageFault) (t : B) → (r >>= f) ≡ Ok t → (x : A) × (r ≡ Ok x) × (f x ≡ Ok t)
parts_of (Ok x) f t e = (x, refl, e)
parts_of (Err d) f t e = absurd (err_not_ok d t e)

pub not_broken : {S : Type 0} (r : Result S MessageFault) (fault : WireFault) (t : S) → (r >>= with_end (Some fault)) ≡ Ok t → ⊥
not_broken (Ok x) fault t e = cc
not_broken (Err d) fault t e = cc

-- ---- each of a list

abbrev pub Each : {A : Type 0} → (A → Type 0) → List A → Type 0
Each P [] = Unit {0}
Each P (x ∷ xs) = P x × Each P xs

-- ---- steps

-- from one state over items to another one: what the first item does, and then the others
pub record IsMeant {S A : Type 0} (step : S → A → Result S MessageFault) (P : A → Type 0) (Rel : S → List A → S → Type 0) : Type 0 where
  pub here : (s t : S) → (s ≡ t) ↔ Rel s [] t
  pub there : (s t : S) (x : A) (xs : List A) → P x → ((u : S) × (step s x ≡ Ok u) × Rel u xs t) ↔ Rel s (x ∷ xs) t

pub steps_mean : {S A : Type 0} (step : S → A → Result S MessageFault) (P : A → Type 0) (Rel : S → List A → S → Type 0) → IsMeant step P Rel
    → (s t : S) (xs : List A) → Each P xs → (steps step s xs ≡ Ok t) ↔ Rel s xs t
steps_mean step P Rel meant s t [] each = (λ e. (meant.here s t).0 (ok_is s t e), λ r. ap Ok ((meant.here s t).1 r))
steps_mean step P Rel meant s t (x ∷ xs) each = (
  λ e.
      let u = parts_of (step s x) (λ v. steps step v xs) t e in
      (meant.there s t x xs each.0).0 (u.0, u.1, (steps_mean step P Rel meant u.0 t xs each.1).0 u.2),
  λ r.
      let u = (meant.there s t x xs each.0).1 r in
      ap (λ q. q >>= λ v. steps step v xs) u.1 ∙ (steps_mean step P Rel meant u.0 t xs each.1).1 u.2,
)

-- ---- the bytes that fields hold

abbrev pub InBytes : Content → Type 0
InBytes (Varint n) = Unit {0}
InBytes (Fixed64 n) = Unit {0}
InBytes (Bytes bytes) = AreBytes bytes
InBytes (Fixed32 n) = Unit {0}

abbrev pub HoldsBytes : WireField → Type 0
HoldsBytes field = InBytes field.content

in_body : (kind : ℕ) (body : List ℕ) (content : Content) → AreBytes body → IsBody kind body content → InBytes content
in_body kind body (Varint n) are is = tt
in_body kind body (Fixed64 n) are is = tt
in_body kind body (Bytes bytes) are is = AreBytes-rest body is.1.0 bytes are is.1.2
in_body kind body (Fixed32 n) are is = tt

pub front_bytes : (bytes front rest : List ℕ) → AreBytes bytes → bytes ≡ front ++ rest → AreBytes front
front_bytes bytes front rest are e =
    let first : take (length front) bytes ≡ front = ap (take (length front)) e ∙ take_at front rest (length front) refl in
    subst (λ (xs : List ℕ). AreBytes xs) first (All-take (λ b. b < 256) (length front) bytes are)

pub in_field : (bytes : List ℕ) (field : WireField) → AreBytes bytes → IsField bytes field → HoldsBytes field
in_field bytes field are is = in_body is.kind is.body field.content (AreBytes-rest bytes is.tag is.body are is.parts) is.is_body

pub holds_bytes : (bytes : List ℕ) (base : ℕ) (fields : List WireField) → AreBytes bytes → SpellsFields bytes base fields → Each HoldsBytes fields
holds_bytes bytes base [] are spells = tt
holds_bytes bytes base (field ∷ fields) are (front, rest, is, place, split, spells) = (
  in_field front field (front_bytes bytes front rest are split) is,
  holds_bytes rest (base + length front) fields (AreBytes-rest bytes front rest are split) spells,
)

-- ---- messages

-- the bytes are fields, over which this leads from one state to the other
pub record LeadsBy {S : Type 0} (Rel : S → List WireField → S → Type 0) (start : S) (at : ℕ) (bytes : List ℕ) (t : S) : Type 0 where
  pub fields : List WireField
  pub spells : SpellsFields bytes at fields
  pub leads : Rel start fields t

pub message_means : {S : Type 0} (step : S → WireField → Result S MessageFault) (Rel : S → List WireField → S → Type 0) → IsMeant step HoldsBytes Rel
    → (start t : S) (at : ℕ) (bytes : List ℕ) → AreBytes bytes → (message step start at bytes ≡ Ok t) ↔ LeadsBy Rel start at bytes t
message_means {S = S} step Rel meant start t at bytes are = (
  λ e. elim (is_message_one_way bytes at are).some [
    | inl found ↦ forth found.0 found.1 e
    | inr found ↦ absurd (not_broken (steps step start found.0) found.1 t (sym (ap (walk step start) (message_of-broken bytes at found.0 found.1 found.2)) ∙ e))
  ],
  λ by.
      ap (walk step start) (message_of-spelled bytes at by.fields by.spells)
      ∙ bind_ok (steps step start by.fields)
      ∙ (steps_mean step HoldsBytes Rel meant start t by.fields (holds_bytes bytes at by.fields are by.spells)).1 by.leads,
)
  where
    forth : (fields : List WireField) → SpellsFields bytes at fields → message step start at bytes ≡ Ok t → LeadsBy Rel start at bytes t
    forth fields spells e =
        let same : steps step start fields ≡ Ok t =
        sym (bind_ok (steps step start fields)) ∙ sym (ap (walk step start) (message_of-spelled bytes at fields spells)) ∙ e in
        record {
          fields = fields;
          spells = spells;
          leads = (steps_mean step HoldsBytes Rel meant start t fields (holds_bytes bytes at fields are spells)).0 same;
        }

-- ---- steps that put behind a list what their item gives

-- the list with what all items give behind it
abbrev pub Behind : {A B : Type 0} → (A → List B → Type 0) → List B → List A → List B → Type 0
Behind {B = B} gives s xs t = (whole : List B) × Together gives xs whole × (t ≡ s ++ whole)

abbrev pub Appends : {A B : Type 0} → (List B → A → Result (List B) MessageFault) → (A → Type 0) → (A → List B → Type 0) → Type 0
Appends {A = A} {B = B} step P gives = (s u : List B) (x : A) → P x → (step s x ≡ Ok u) ↔ ((given : List B) × gives x given × (u ≡ s ++ given))

pub appends_meant : {A B : Type 0} (step : List B → A → Result (List B) MessageFault) (P : A → Type 0) (gives : A → List B → Type 0) → Appends step P gives → IsMeant step P (Behind gives)
appends_meant {A = A} {B = B} step P gives appends = record {
  here = λ s t. (λ e. ([], refl, sym e ∙ sym (append-nil s)), λ r. sym (append-nil s) ∙ sym (ap (λ w. s ++ w) r.1) ∙ sym r.2);
  there = λ s t x xs p. (
    λ w.
        let one = (appends s w.0 x p).0 w.1 in
        (one.0 ++ w.2.0, (one.0, w.2.0, one.1, refl, w.2.1), w.2.2 ∙ ap (λ l. l ++ w.2.0) one.2 ∙ append_assoc s one.0 w.2.0),
    λ r.
        let first = r.1.0 in
        let others = r.1.1 in (
          s ++ first,
          (appends s (s ++ first) x p).1 (first, r.1.2, refl),
          (others, r.1.4, r.2 ∙ ap (λ w. s ++ w) r.1.3 ∙ sym (append_assoc s first others)),
        ),
  );
}

-- nothing more, and exactly this more
pub gives_none : {B : Type 0} (s u : List B) → ◌≡◌ {A = Result (List B) MessageFault} (Ok s) (Ok u) ↔ ((given : List B) × (given ≡ []) × (u ≡ s ++ given))
gives_none s u = (
  λ e. ([], refl, sym (ok_is s u e) ∙ sym (append-nil s)),
  λ r. ap Ok (sym (append-nil s) ∙ sym (ap (λ w. s ++ w) r.1) ∙ sym r.2),
)

pub gives_this : {B : Type 0} (s u more : List B) → ◌≡◌ {A = Result (List B) MessageFault} (Ok (s ++ more)) (Ok u) ↔ ((given : List B) × (given ≡ more) × (u ≡ s ++ given))
gives_this s u more = (
  λ e. (more, refl, sym (ok_is (s ++ more) u e)),
  λ r. ap Ok (sym (ap (λ w. s ++ w) r.1) ∙ sym r.2),
)

-- ---- both ways

pub via : {A B C : Type 0} → A ↔ B → B ↔ C → A ↔ C
via p q = (λ a. q.0 (p.0 a), λ c. p.1 (q.1 c))

-- a step that leads to one state
pub moved : {S : Type 0} (s : S) (R : S → Type 0) → ((u : S) × ◌≡◌ {A = Result S MessageFault} (Ok s) (Ok u) × R u) ↔ R s
moved s R = (λ w. subst R (sym (ok_is s w.0 w.1)) w.2, λ r. (s, refl, r))

-- a step that has a fault
pub stopped : {S T : Type 0} (d : MessageFault) (R : S → Type 0) → (T → ⊥) → ((u : S) × ◌≡◌ {A = Result S MessageFault} (Err d) (Ok u) × R u) ↔ T
stopped d R none = (λ w. absurd (err_not_ok d w.0 w.1), λ r. absurd (none r))

-- one more behind a list, before others
pub one_more : {B : Type 0} (s others t : List B) (x : B) → (t ≡ (s ++ x ∷ []) ++ others) ↔ (t ≡ s ++ x ∷ others)
one_more s others t x = (λ e. e ∙ append_assoc s (x ∷ []) others, λ e. e ∙ sym (append_assoc s (x ∷ []) others))
