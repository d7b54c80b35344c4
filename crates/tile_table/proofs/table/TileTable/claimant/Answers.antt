use Rattle.std.proofs.Common.{◌≡◌, length, refl, ap, sym, ◌∙◌, arith}
use Rattle.tile_table.proofs.Moves.{sees-claim}
use Rattle.tile_table.proofs.Told.{read-stays, seen-fits, read-nobody, read-claimant}
use Rattle.tile_table.proofs.table.TileTable.claimant.Goals as goal

pub load-read-requires : goal.load-read-requires
load-read-requires g c =
    let seat = c.args.seat.now in
    let table = c.args.self.now in
    let slots : seat.seat.table_id.slots ≡ table.table.shared.table_id.slots = ap (λ n. n.slots) c.requires.table in (
      c.requires.table,
      omega (arith, table.words, table.slots, slots, seat.placed, seat.counted, c.requires.place),
      sees-claim table.table.shared.table_id.slots seat.seat.id seat.seat.me c.args.i (omega (arith, seat.live, seat.numbered)),
    )

pub invariant_of-seat : goal.invariant_of-seat
invariant_of-seat g c =
    let seat = c.args.seat.now in
    let new = c.load-read.new.seat in
    let told = c.load-read.ensures in
    let stays = read-stays c.args.i seat.seat.me new.me c.load-read.result (told.2 c.args.i refl) in
    record {
      numbered = seat.numbered ∙ sym stays.first;
      live = omega (arith, seat.live, stays.end);
      few = omega (arith, seat.few, stays.end);
      counted = seat.counted ∙ sym (ap length stays.world);
      placed = ap (λ n. n.slots) told.0 ∙ seat.placed;
      slots = seen-fits c.args.i seat.seat.me new.me c.load-read.result seat.slots (told.2 c.args.i refl);
    }

pub returns-then-read-gt0-clause-view : goal.returns-then-read-gt0-clause-view
returns-then-read-gt0-clause-view g c =
    read-claimant c.args.i c.args.seat.now.seat.me c.load-read.new.seat.me c.load-read.result c.if-read-gt0.true (c.load-read.ensures.2 c.args.i refl)

pub returns-else-read-gt0-clause-view : goal.returns-else-read-gt0-clause-view
returns-else-read-gt0-clause-view g c =
    read-nobody c.args.i c.args.seat.now.seat.me c.load-read.new.seat.me c.load-read.result (omega (arith, c.if-read-gt0.false)) (c.load-read.ensures.2 c.args.i refl)
