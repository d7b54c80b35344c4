-- what a step told, as the seat's fields and the calls' clauses want it
use Rattle.std.proofs.Common.{◌≡◌, ℕ, zero, suc, ◌-◌, ◌<◌, ◌≤◌, ◌≢◌, Bool, true, false, List, [], ◌∷◌, length, map, refl, ap, sym, ◌∙◌, subst, arith}
use Rattle.std.specs.Prelude.{Option, Some, None}
use Rattle.std.proofs.lemmas.Bool.Decides.{nat_tests}
use Rattle.tile_machine.specs.At.{At}
use Rattle.tile_table.specs.declared.view.View.{View}
use Rattle.tile_table.specs.declared.view.Hand.{Hand}
use Rattle.tile_table.specs.declared.view.Hand.TheVariants.{Empty, Holds}
use Rattle.tile_table.specs.declared.answer.Claim.TheVariants.{Mine, Taken}
use Rattle.tile_table.specs.declared.seat.Turn.{Turn}
use Rattle.tile_table.specs.Counts.{bit, times_in, pair_times}
use Rattle.tile_table.specs.Inner.OutSlots.{slots_fit, is_none, is_only}
use Rattle.tile_table.specs.Views.{tiles_by, with_claim, with_seen, with_take, with_known, knowing, with_lost, IsAnother}
use Rattle.tile_table.specs.Inner.Steps.{Sat, claim_read, claim_told, lock_told, Took, LostTo}
use Rattle.tile_table.specs.Seats.{turn_place, turn_tile, turn_marked}
use Rattle.tile_table.specs.Calls.{Claimed, TurnHad, LockMissed, PartSeen}
use Rattle.tile_machine.proofs.Bridges.{at-map}
use Rattle.tile_table.proofs.Bits.{same-eq, both-eq}
use Rattle.tile_table.proofs.Sums.{times-append, pairs-append}

is-only : (T : Type 0) (j : ℕ) (m : Bool) → slots_fit {T = T} (Holds j m) ((j, None) ∷ []) ≡ true
is-only T j m = grind (arith, nat_tests)

module _ {T : Type 0} where
  none-of : (xs : List (ℕ × Option T)) → is_none xs ≡ true → xs ≡ []
  none-of [] e = refl
  none-of (x ∷ xs) e = grind arith

  -- no slot is out with an empty hand
  pub none-out : (h : Hand) (xs : List (ℕ × Option T)) → h ≡ Empty → slots_fit h xs ≡ true → xs ≡ []
  none-out h xs e fits = none-of xs (subst (λ g. slots_fit g xs ≡ true) e fits)

  pub fits-none : (h : Hand) (xs : List (ℕ × Option T)) → h ≡ Empty → xs ≡ [] → slots_fit h xs ≡ true
  fits-none h xs e nil = subst (λ g. slots_fit g xs ≡ true) (sym e) (subst (λ ys. is_none ys ≡ true) (sym nil) refl)

  only-of : (j : ℕ) (xs : List (ℕ × Option T)) → is_only j xs ≡ true → xs ≡ (j, None) ∷ []
  only-of j [] e = absurd (grind arith)
  only-of j ((k, None) ∷ []) e = let q : k ≡ j = grind (arith, nat_tests) in ap (λ n. (n, None) ∷ []) q
  only-of j ((k, Some t) ∷ xs) e = absurd (grind (arith, nat_tests))
  only-of j ((k, None) ∷ y ∷ ys) e = absurd (grind (arith, nat_tests))

  -- the slot of the place in hand is out, without its value, and no other
  pub only-out : (h : Hand) (xs : List (ℕ × Option T)) (j : ℕ) (m : Bool) → h ≡ Holds j m → slots_fit h xs ≡ true → xs ≡ (j, None) ∷ []
  only-out h xs j m e fits = only-of j xs (subst (λ g. slots_fit g xs ≡ true) e fits)

  pub fits-only : (h : Hand) (xs : List (ℕ × Option T)) (j : ℕ) (m : Bool) → h ≡ Holds j m → xs ≡ (j, None) ∷ [] → slots_fit h xs ≡ true
  fits-only h xs j m e out = subst (λ g. slots_fit g xs ≡ true) (sym e) (subst (λ ys. slots_fit (Holds j m) ys ≡ true) (sym out) (is-only T j m))

module _ {T : Type 0} where
  -- what each step of one seat leaves, as far as the seat's fields go
  pub record Stays (m r : Sat T) : Type 0 where
    pub first : r.0.first ≡ m.0.first
    pub end : r.0.end ≡ m.0.end
    pub world : r.0.world ≡ m.0.world

  stays-by : (m r x : Sat T) → r ≡ x → x.0.first ≡ m.0.first → x.0.end ≡ m.0.end → x.0.world ≡ m.0.world → Stays m r
  stays-by m r x e a b w = record { first = ap (λ y. y.0.first) e ∙ a; end = ap (λ y. y.0.end) e ∙ b; world = ap (λ y. y.0.world) e ∙ w }

  fits-by : (m r x : Sat T) → r ≡ x → x.0.hand ≡ m.0.hand → x.1 ≡ m.1 → slots_fit m.0.hand m.1 ≡ true → slots_fit r.0.hand r.1 ≡ true
  fits-by m r x e hand out fits =
      subst (λ y. slots_fit y.0.hand y.1 ≡ true) (sym e) (subst (λ h. slots_fit h x.1 ≡ true) (sym hand) (subst (λ c. slots_fit m.0.hand c ≡ true) (sym out) fits))

  pub claim-stays : (i : ℕ) (m r : Sat T) (n : ℕ) → claim_told i m n r → Stays m r
  claim-stays i m r zero t = stays-by m r (with_claim m.0 i, m.1) t.0 refl refl refl
  claim-stays i m r (suc by) t = stays-by m r (with_seen m.0 i by, m.1) t refl refl refl

  pub claim-fits : (i : ℕ) (m r : Sat T) (n : ℕ) → slots_fit m.0.hand m.1 ≡ true → claim_told i m n r → slots_fit r.0.hand r.1 ≡ true
  claim-fits i m r zero fits t = fits-by m r (with_claim m.0 i, m.1) t.0 refl refl fits
  claim-fits i m r (suc by) fits t = fits-by m r (with_seen m.0 i by, m.1) t refl refl fits

  pub read-stays : (i : ℕ) (m r : Sat T) (n : ℕ) → claim_read i m n r → Stays m r
  read-stays i m r zero t = stays-by m r m t refl refl refl
  read-stays i m r (suc by) t = stays-by m r (with_seen m.0 i by, m.1) t refl refl refl

  pub seen-fits : (i : ℕ) (m r : Sat T) (n : ℕ) → slots_fit m.0.hand m.1 ≡ true → claim_read i m n r → slots_fit r.0.hand r.1 ≡ true
  seen-fits i m r zero fits t = fits-by m r m t refl refl fits
  seen-fits i m r (suc by) fits t = fits-by m r (with_seen m.0 i by, m.1) t refl refl fits

  pub read-nobody : (i : ℕ) (m r : Sat T) (n : ℕ) → n ≡ 0 → claim_read i m n r → r.0 ≡ m.0
  read-nobody i m r zero e t = ap (λ y. y.0) t
  read-nobody i m r (suc by) e t = absurd (omega arith)

  pub read-claimant : (i : ℕ) (m r : Sat T) (n : ℕ) → 0 < n → claim_read i m n r → r.0 ≡ with_seen m.0 i (n - 1)
  read-claimant i m r zero some t = absurd (omega arith)
  read-claimant i m r (suc by) some t = ap (λ y. y.0) t ∙ ap (λ n. with_seen m.0 i n) (omega arith)

  pub claim-mine : (i : ℕ) (m r : Sat T) (n : ℕ) → n ≡ 0 → claim_told i m n r → Claimed m.0 i Mine r.0
  claim-mine i m r zero e t = (ap (λ y. y.0) t.0, t.1, t.2)
  claim-mine i m r (suc by) e t = absurd (omega arith)

  pub claim-taken : (i : ℕ) (m r : Sat T) (n : ℕ) → n ≢ 0 → claim_told i m n r → Claimed m.0 i (Taken (n - 1)) r.0
  claim-taken i m r zero ne t = absurd (ne refl)
  claim-taken i m r (suc by) ne t = ap (λ y. y.0) t ∙ ap (λ n. with_seen m.0 i n) (omega arith)

  -- the claim that was just made
  pub has-claim : (i : ℕ) (m r : Sat T) (n : ℕ) → n ≡ 0 → claim_told i m n r → 0 < pair_times r.0.first i r.0.claims
  has-claim i m r zero e t =
      subst (λ y. 0 < pair_times y.0.first i y.0.claims) (sym t.0)
      (omega (arith, pairs-append m.0.first i m.0.claims ((m.0.first, i) ∷ []), both-eq m.0.first i m.0.first i refl refl))
  has-claim i m r (suc by) e t = absurd (omega arith)

  had-stays : (j : ℕ) (m r : Sat T) (b : Bool) → Took m j b r → Stays m r
  had-stays j m r b t = stays-by m r (with_take m.0 j b, (j, Some t.tile) ∷ m.1) t.after refl refl refl

  pub lock-stays : (b : Bool) (j : ℕ) (m r : Sat T) (n : ℕ) → lock_told b j m n r → Stays m r
  lock-stays false j m r zero t = had-stays j m r false t
  lock-stays false j m r (suc zero) t = stays-by m r (with_known m.0 j, m.1) t refl refl refl
  lock-stays true j m r zero t = absurd t
  lock-stays true j m r (suc zero) t = had-stays j m r true t
  lock-stays false j m r (suc (suc h)) t = stays-by m r (with_lost m.0 j h, m.1) t.0 refl refl refl
  lock-stays true j m r (suc (suc h)) t = stays-by m r (with_lost m.0 j h, m.1) t.0 refl refl refl

  pub lost-fits : (j h : ℕ) (m r : Sat T) → slots_fit m.0.hand m.1 ≡ true → LostTo m j h r → slots_fit r.0.hand r.1 ≡ true
  lost-fits j h m r fits t = fits-by m r (with_lost m.0 j h, m.1) t.0 refl refl fits

  pub read-fits : (j : ℕ) (m r : Sat T) → slots_fit m.0.hand m.1 ≡ true → r ≡ (with_known m.0 j, m.1) → slots_fit r.0.hand r.1 ≡ true
  read-fits j m r fits t = fits-by m r (with_known m.0 j, m.1) t refl refl fits

  -- the slot is out, without its value, of a lock that was had
  pub took-fits : (j : ℕ) (b : Bool) (m r : Sat T) (v : View T) (xs : List (ℕ × Option T)) → Took m j b r → v ≡ r.0 → xs ≡ (j, None) ∷ [] → slots_fit v.hand xs ≡ true
  took-fits j b m r v xs t e out = fits-only v.hand xs j b (ap (λ u. u.hand) e ∙ ap (λ y. y.0.hand) t.after) out

  -- the word was free, with the spelling that was tried
  pub lock-had : (b : Bool) (j : ℕ) (m r : Sat T) (n : ℕ) → n ≡ bit b → lock_told b j m n r → Took m j b r
  lock-had false j m r zero e t = t
  lock-had true j m r zero e t = absurd (omega arith)
  lock-had false j m r (suc zero) e t = absurd (omega arith)
  lock-had true j m r (suc zero) e t = t
  lock-had false j m r (suc (suc h)) e t = absurd (omega arith)
  lock-had true j m r (suc (suc h)) e t = absurd (omega arith)

  -- it wasn't free
  pub lock-missed : (b : Bool) (j : ℕ) (m r : Sat T) (n : ℕ) → 1 < n → lock_told b j m n r → LostTo m j (n - 2) r
  lock-missed b j m r zero h t = absurd (omega arith)
  lock-missed b j m r (suc zero) h t = absurd (omega arith)
  lock-missed false j m r (suc (suc x)) h t = subst (λ n. LostTo m j n r) (omega arith) t
  lock-missed true j m r (suc (suc x)) h t = subst (λ n. LostTo m j n r) (omega arith) t

  -- it was read as "free, marked" by the try for the other spelling
  pub lock-known : (j : ℕ) (m r : Sat T) (n : ℕ) → n ≡ 1 → lock_told false j m n r → r ≡ (with_known m.0 j, m.1)
  lock-known j m r zero e t = absurd (omega arith)
  lock-known j m r (suc zero) e t = t
  lock-known j m r (suc (suc x)) e t = absurd (omega arith)

  pub lock-marked : (j : ℕ) (m r : Sat T) (n : ℕ) → n ≤ 1 → lock_told true j m n r → Took m j true r
  lock-marked j m r zero h t = absurd t
  lock-marked j m r (suc zero) h t = t
  lock-marked j m r (suc (suc x)) h t = absurd (omega arith)

  -- the place that was just read as marked is known
  pub knows-it : (j : ℕ) (m r : Sat T) → r ≡ (with_known m.0 j, m.1) → 0 < times_in j r.0.known
  knows-it j m r e =
      subst (λ y. 0 < times_in j y.0.known) (sym e) (omega (arith, times-append j m.0.known (j ∷ []), same-eq j j refl))

  -- a try that was lost, after the word was read as "free, marked" or at once
  pub missed : (knew : Bool) (j h : ℕ) (v : View T) (m r : Sat T) → m.0 ≡ knowing knew v j → LostTo m j h r → LockMissed v j h r.0
  missed knew j h v m r e t =
      record {
        knew = knew;
        view = ap (λ y. y.0) t.0 ∙ ap (λ u. with_lost u j h) e;
        another = subst (λ u. IsAnother h u) e t.1;
      }

  abbrev tile-in : T → List (ℕ × Option T) → T
  tile-in d [] = d
  tile-in d ((k, None) ∷ xs) = d
  tile-in d ((k, Some t) ∷ xs) = t

module _ {X T Q : Type 0} where
  -- a lock that was had, after the word was read as "free, marked" or at once
  pub had : (b : Bool) (j : ℕ) (v : View T) (m r : Sat T) (turn : Turn X T Q) (c : List (ℕ × Option T)) → m.0 ≡ knowing b v j → Took m j b r → r.1 ≡ (j, Some (turn_tile turn)) ∷ c
      → turn_place turn ≡ j → turn_marked turn ≡ b → j < length v.world → TurnHad v j turn r.0
  had b j v m r turn c e t out place marked inside =
      let after : r.0 ≡ with_take (knowing b v j) j b = ap (λ y. y.0) t.after ∙ ap (λ u. with_take u j b) e in
      let world : r.0.world ≡ v.world = ap (λ u. u.world) after in
      let one : (j, Some t.tile) ∷ m.1 ≡ (j, Some (turn_tile turn)) ∷ c = sym (ap (λ y. y.1) t.after) ∙ out in
      let tile : t.tile ≡ turn_tile turn = ap (tile-in t.tile) one in
      let stands : At (tiles_by b r.0.world r.0.goal) j (turn_tile turn) =
      subst (λ x. At (tiles_by b r.0.world r.0.goal) j x) tile
      (subst (λ u. At (tiles_by b u.world u.goal) j t.tile) (sym (ap (λ y. y.0) t.after)) t.stands) in
      record {
        place = place;
        view = after ∙ ap (λ a. with_take (knowing a v j) j a) (sym marked);
        turn =
            record {
              hand = ap (λ u. u.hand) after ∙ ap (λ i. Holds i b) (sym place) ∙ ap (λ a. Holds (turn_place turn) a) (sym marked);
              inside = omega (arith, place, inside, ap length world);
              stands = subst (λ a. At (tiles_by a r.0.world r.0.goal) (turn_place turn) (turn_tile turn)) (sym marked) (subst (λ i. At (tiles_by b r.0.world r.0.goal) i (turn_tile turn)) (sym place) stands);
            };
        own_mark = λ p. marked ∙ t.own_mark (subst (λ xs. 0 < times_in j xs) (sym (ap (λ u. u.marks) e)) p);
        own_claim =
            λ p nil. marked ∙ t.own_claim
            (subst (λ n. 0 < pair_times n j m.0.claims) (sym (ap (λ u. u.first) e)) (subst (λ xs. 0 < pair_times v.first j xs) (sym (ap (λ u. u.claims) e)) p))
            (ap (times_in j) (ap (λ u. u.marks) e) ∙ nil);
      }

  -- the part of a tile whose lock was had
  pub part-seen : {R : Type 0} (readable : T → R) (v w : View T) (j : ℕ) (turn : Turn X T Q) (part : R) → TurnHad v j turn w → part ≡ readable (turn_tile turn) → PartSeen readable v j part
  part-seen readable v w j turn part had is =
      let m = turn_marked turn in
      let e = had.view in
      record {
        marked = m;
        stands =
            subst (λ p. At (map readable (tiles_by m v.world v.goal)) j p) (sym is)
            (at-map readable (tiles_by m v.world v.goal) j (turn_tile turn)
            (subst (λ ts. At (tiles_by m ts v.goal) j (turn_tile turn)) (ap (λ u. u.world) e)
            (subst (λ ts. At (tiles_by m w.world ts) j (turn_tile turn)) (ap (λ u. u.goal) e)
            (subst (λ n. At (tiles_by m w.world w.goal) n (turn_tile turn)) had.place had.turn.stands))));
      }
