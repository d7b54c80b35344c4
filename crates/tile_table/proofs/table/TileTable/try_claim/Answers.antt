use Rattle.std.proofs.Common.{◌≡◌, length, refl, ap, sym, ◌∙◌, arith}
use Rattle.tile_table.proofs.Moves.{claims}
use Rattle.tile_table.proofs.Told.{claim-stays, claim-fits, claim-mine, claim-taken, has-claim}
use Rattle.tile_table.proofs.table.TileTable.try_claim.Goals as goal

pub compare_exchange-found-requires : goal.compare_exchange-found-requires
compare_exchange-found-requires g c =
    let seat = c.args.seat.now in
    let table = c.args.self.now in
    let slots : seat.seat.table_id.slots ≡ table.table.shared.table_id.slots = ap (λ n. n.slots) c.requires.table in (
      c.requires.table,
      omega (arith, table.words, table.slots, slots, seat.placed, seat.counted, c.requires.place),
      claims table.table.shared.table_id.slots seat.seat.id seat.seat.me c.args.i seat.number (omega (arith, seat.live, seat.numbered)) seat.numbered (omega (arith, slots, seat.placed, seat.counted, c.requires.place)),
    )

pub invariant_of-seat : goal.invariant_of-seat
invariant_of-seat g c =
    let seat = c.args.seat.now in
    let new = c.compare_exchange-found.new.seat in
    let told = c.compare_exchange-found.ensures in
    let stays = claim-stays c.args.i seat.seat.me new.me c.compare_exchange-found.result (told.2 c.args.i refl) in
    record {
      numbered = seat.numbered ∙ sym stays.first;
      live = omega (arith, seat.live, stays.end);
      few = omega (arith, seat.few, stays.end);
      counted = seat.counted ∙ sym (ap length stays.world);
      placed = ap (λ n. n.slots) told.0 ∙ seat.placed;
      slots = claim-fits c.args.i seat.seat.me new.me c.compare_exchange-found.result seat.slots (told.2 c.args.i refl);
    }

pub returns-then-found-eq0-clause-view : goal.returns-then-found-eq0-clause-view
returns-then-found-eq0-clause-view g c =
    claim-mine c.args.i c.args.seat.now.seat.me c.compare_exchange-found.new.seat.me c.compare_exchange-found.result c.if-found-eq0.true (c.compare_exchange-found.ensures.2 c.args.i refl)

pub returns-else-found-eq0-clause-view : goal.returns-else-found-eq0-clause-view
returns-else-found-eq0-clause-view g c =
    claim-taken c.args.i c.args.seat.now.seat.me c.compare_exchange-found.new.seat.me c.compare_exchange-found.result c.if-found-eq0.false (c.compare_exchange-found.ensures.2 c.args.i refl)

pub returns-then-found-eq0-clause-mine : goal.returns-then-found-eq0-clause-mine
returns-then-found-eq0-clause-mine g c mine =
    has-claim c.args.i c.args.seat.now.seat.me c.compare_exchange-found.new.seat.me c.compare_exchange-found.result c.if-found-eq0.true (c.compare_exchange-found.ensures.2 c.args.i refl)
