use Rattle.std.proofs.Common.{◌≡◌, ℕ, ◌≢◌, ◌≤◌, [], ◌∷◌, length, false, true, refl, ap, sym, ◌∙◌, subst, arith}
use Rattle.std.specs.Prelude.{Some}
use Rattle.tile_table.specs.Calls.{TurnHad}
use Rattle.tile_table.proofs.Moves.{tries}
use Rattle.tile_table.proofs.Told.{lock-stays, lock-had, lock-missed, lock-known, lock-marked, knows-it, missed, had, none-out, lost-fits, read-fits, took-fits}
use Rattle.tile_table.proofs.table.TileTable.reached.Goals as goal

one : (n : ℕ) → n ≢ 0 → n ≤ 1 → n ≡ 1
one n ne le = omega arith

pub compare_exchange-found-requires : goal.compare_exchange-found-requires
compare_exchange-found-requires g c =
    let seat = c.args.seat.now in
    let table = c.args.self.now in
    let slots : seat.seat.table_id.slots ≡ table.table.shared.table_id.slots = ap (λ n. n.slots) c.requires.table in (
      c.requires.table,
      omega (arith, table.words, table.slots, slots, seat.placed, seat.counted, c.requires.place),
      tries table.table.shared.table_id.slots seat.seat.id seat.seat.me false c.args.j seat.number (omega (arith, seat.live, seat.numbered)) c.requires.hand seat.numbered (omega (arith, slots, seat.placed, seat.counted, c.requires.place)) (λ e. grind arith),
    )

pub brought_out-requires-clause-slot : goal.brought_out-requires-clause-slot
brought_out-requires-clause-slot g c =
    let seat = c.args.seat.now in
    let new = c.compare_exchange-found.new.seat in
    let t = lock-had false c.args.j seat.seat.me new.me c.compare_exchange-found.result c.if-found-eq0.true (c.compare_exchange-found.ensures.2 c.args.j refl) in
    (t.tile, ap (λ y. y.1) t.after ∙ ap (λ xs. (c.args.j, Some t.tile) ∷ xs) (none-out seat.seat.me.0.hand seat.seat.me.1 c.requires.hand seat.slots))

pub returns-then-found-gt1-clause-busy : goal.returns-then-found-gt1-clause-busy
returns-then-found-gt1-clause-busy g c =
    let seat = c.args.seat.now in
    let new = c.compare_exchange-found.new.seat in
    missed false c.args.j _ seat.seat.me.0 seat.seat.me new.me refl (lock-missed false c.args.j seat.seat.me new.me c.compare_exchange-found.result c.if-found-gt1.true (c.compare_exchange-found.ensures.2 c.args.j refl))

pub compare_exchange-again-requires : goal.compare_exchange-again-requires
compare_exchange-again-requires g c =
    let seat = c.args.seat.now in
    let new = c.compare_exchange-found.new.seat in
    let table = c.args.self.now in
    let told = c.compare_exchange-found.ensures in
    let slots : seat.seat.table_id.slots ≡ table.table.shared.table_id.slots = ap (λ n. n.slots) c.requires.table in
    let k = lock-known c.args.j seat.seat.me new.me c.compare_exchange-found.result (one c.compare_exchange-found.result c.if-found-eq0.false c.if-found-gt1.false) (told.2 c.args.j refl) in
    let first : new.me.0.first ≡ seat.seat.me.0.first = ap (λ y. y.0.first) k in
    let end : new.me.0.end ≡ seat.seat.me.0.end = ap (λ y. y.0.end) k in (
      told.0 ∙ c.requires.table,
      omega (arith, table.words, table.slots, slots, seat.placed, seat.counted, c.requires.place),
      tries table.table.shared.table_id.slots new.id new.me true c.args.j seat.number (omega (arith, seat.live, seat.numbered, first, end)) (ap (λ y. y.0.hand) k ∙ c.requires.hand) (seat.numbered ∙ sym first) (omega (arith, slots, seat.placed, seat.counted, c.requires.place)) (λ e. knows-it c.args.j seat.seat.me new.me k),
    )

pub returns-then-again-gt1-clause-busy : goal.returns-then-again-gt1-clause-busy
returns-then-again-gt1-clause-busy g c =
    let seat = c.args.seat.now in
    let mid = c.compare_exchange-found.new.seat in
    let new = c.compare_exchange-again.new.seat in
    let k = lock-known c.args.j seat.seat.me mid.me c.compare_exchange-found.result (one c.compare_exchange-found.result c.if-found-eq0.false c.if-found-gt1.false) (c.compare_exchange-found.ensures.2 c.args.j refl) in
    missed true c.args.j _ seat.seat.me.0 mid.me new.me (ap (λ y. y.0) k) (lock-missed true c.args.j mid.me new.me c.compare_exchange-again.result c.if-again-gt1.true (c.compare_exchange-again.ensures.2 c.args.j refl))

pub brought_out-requires-2-clause-slot : goal.brought_out-requires-2-clause-slot
brought_out-requires-2-clause-slot g c =
    let seat = c.args.seat.now in
    let mid = c.compare_exchange-found.new.seat in
    let new = c.compare_exchange-again.new.seat in
    let k = lock-known c.args.j seat.seat.me mid.me c.compare_exchange-found.result (one c.compare_exchange-found.result c.if-found-eq0.false c.if-found-gt1.false) (c.compare_exchange-found.ensures.2 c.args.j refl) in
    let t = lock-marked c.args.j mid.me new.me c.compare_exchange-again.result c.if-again-gt1.false (c.compare_exchange-again.ensures.2 c.args.j refl) in
    (t.tile, ap (λ y. y.1) t.after ∙ ap (λ xs. (c.args.j, Some t.tile) ∷ xs) (ap (λ y. y.1) k ∙ none-out seat.seat.me.0.hand seat.seat.me.1 c.requires.hand seat.slots))

pub invariant_of-seat : goal.invariant_of-seat
invariant_of-seat g c =
    let seat = c.args.seat.now in
    let mid = c.compare_exchange-found.new.seat in
    let new = c.brought_out.new.place in
    let told = c.compare_exchange-found.ensures in
    let out = c.brought_out.ensures in
    let stays = lock-stays false c.args.j seat.seat.me mid.me c.compare_exchange-found.result (told.2 c.args.j refl) in
    let t = lock-had false c.args.j seat.seat.me mid.me c.compare_exchange-found.result c.if-found-eq0.true (told.2 c.args.j refl) in
    record {
      numbered = seat.numbered ∙ sym (ap (λ u. u.first) out.view ∙ stays.first);
      live = omega (arith, seat.live, stays.end, ap (λ u. u.end) out.view);
      few = omega (arith, seat.few, stays.end, ap (λ u. u.end) out.view);
      counted = seat.counted ∙ sym (ap (λ u. length u.world) out.view ∙ ap length stays.world);
      placed = ap (λ n. n.slots) (out.table ∙ told.0) ∙ seat.placed;
      slots = took-fits c.args.j false seat.seat.me mid.me new.me.0 new.me.1 t out.view out.out;
    }

pub returns-then-found-eq0-clause-turn : goal.returns-then-found-eq0-clause-turn
returns-then-found-eq0-clause-turn g c =
    let seat = c.args.seat.now in
    let mid = c.compare_exchange-found.new.seat in
    let out = c.brought_out.ensures in
    let t = lock-had false c.args.j seat.seat.me mid.me c.compare_exchange-found.result c.if-found-eq0.true (c.compare_exchange-found.ensures.2 c.args.j refl) in
    subst (λ u. TurnHad seat.seat.me.0 c.args.j c.brought_out.result u) (sym out.view)
    (had false c.args.j seat.seat.me.0 seat.seat.me mid.me c.brought_out.result [] refl t out.tile out.place out.marked c.requires.place)

pub invariant_of-seat-then-found-gt1 : goal.invariant_of-seat-then-found-gt1
invariant_of-seat-then-found-gt1 g c =
    let seat = c.args.seat.now in
    let new = c.compare_exchange-found.new.seat in
    let told = c.compare_exchange-found.ensures in
    let stays = lock-stays false c.args.j seat.seat.me new.me c.compare_exchange-found.result (told.2 c.args.j refl) in
    record {
      numbered = seat.numbered ∙ sym stays.first;
      live = omega (arith, seat.live, stays.end);
      few = omega (arith, seat.few, stays.end);
      counted = seat.counted ∙ sym (ap length stays.world);
      placed = ap (λ n. n.slots) told.0 ∙ seat.placed;
      slots = lost-fits c.args.j _ seat.seat.me new.me seat.slots (lock-missed false c.args.j seat.seat.me new.me c.compare_exchange-found.result c.if-found-gt1.true (told.2 c.args.j refl));
    }

pub invariant_of-seat-then-again-gt1 : goal.invariant_of-seat-then-again-gt1
invariant_of-seat-then-again-gt1 g c =
    let seat = c.args.seat.now in
    let mid = c.compare_exchange-found.new.seat in
    let new = c.compare_exchange-again.new.seat in
    let told = c.compare_exchange-found.ensures in
    let more = c.compare_exchange-again.ensures in
    let k = lock-known c.args.j seat.seat.me mid.me c.compare_exchange-found.result (one c.compare_exchange-found.result c.if-found-eq0.false c.if-found-gt1.false) (told.2 c.args.j refl) in
    let before = lock-stays false c.args.j seat.seat.me mid.me c.compare_exchange-found.result (told.2 c.args.j refl) in
    let stays = lock-stays true c.args.j mid.me new.me c.compare_exchange-again.result (more.2 c.args.j refl) in
    record {
      numbered = seat.numbered ∙ sym before.first ∙ sym stays.first;
      live = omega (arith, seat.live, before.end, stays.end);
      few = omega (arith, seat.few, before.end, stays.end);
      counted = seat.counted ∙ sym (ap length before.world) ∙ sym (ap length stays.world);
      placed = ap (λ n. n.slots) (more.0 ∙ told.0) ∙ seat.placed;
      slots =
          lost-fits c.args.j _ mid.me new.me (read-fits c.args.j seat.seat.me mid.me seat.slots k)
          (lock-missed true c.args.j mid.me new.me c.compare_exchange-again.result c.if-again-gt1.true (more.2 c.args.j refl));
    }

pub invariant_of-seat-2 : goal.invariant_of-seat-2
invariant_of-seat-2 g c =
    let seat = c.args.seat.now in
    let mid = c.compare_exchange-found.new.seat in
    let had = c.compare_exchange-again.new.seat in
    let new = c.brought_out-2.new.place in
    let told = c.compare_exchange-found.ensures in
    let more = c.compare_exchange-again.ensures in
    let out = c.brought_out-2.ensures in
    let before = lock-stays false c.args.j seat.seat.me mid.me c.compare_exchange-found.result (told.2 c.args.j refl) in
    let stays = lock-stays true c.args.j mid.me had.me c.compare_exchange-again.result (more.2 c.args.j refl) in
    let t = lock-marked c.args.j mid.me had.me c.compare_exchange-again.result c.if-again-gt1.false (more.2 c.args.j refl) in
    record {
      numbered = seat.numbered ∙ sym (ap (λ u. u.first) out.view ∙ stays.first ∙ before.first);
      live = omega (arith, seat.live, before.end, stays.end, ap (λ u. u.end) out.view);
      few = omega (arith, seat.few, before.end, stays.end, ap (λ u. u.end) out.view);
      counted = seat.counted ∙ sym (ap (λ u. length u.world) out.view ∙ ap length stays.world ∙ ap length before.world);
      placed = ap (λ n. n.slots) (out.table ∙ more.0 ∙ told.0) ∙ seat.placed;
      slots = took-fits c.args.j true mid.me had.me new.me.0 new.me.1 t out.view out.out;
    }

pub returns-clause-turn : goal.returns-clause-turn
returns-clause-turn g c =
    let seat = c.args.seat.now in
    let mid = c.compare_exchange-found.new.seat in
    let new = c.compare_exchange-again.new.seat in
    let out = c.brought_out-2.ensures in
    let k = lock-known c.args.j seat.seat.me mid.me c.compare_exchange-found.result (one c.compare_exchange-found.result c.if-found-eq0.false c.if-found-gt1.false) (c.compare_exchange-found.ensures.2 c.args.j refl) in
    let t = lock-marked c.args.j mid.me new.me c.compare_exchange-again.result c.if-again-gt1.false (c.compare_exchange-again.ensures.2 c.args.j refl) in
    subst (λ u. TurnHad seat.seat.me.0 c.args.j c.brought_out-2.result u) (sym out.view)
    (had true c.args.j seat.seat.me.0 mid.me new.me c.brought_out-2.result [] (ap (λ y. y.0) k) t out.tile out.place out.marked c.requires.place)
