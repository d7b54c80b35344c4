-- What stays while a seat looks at the tiles of others, over one look and over several.
use Rattle.std.specs.Prelude.{◌≡◌, true, List, length, map, refl}
use Rattle.std.proofs.Common.{◌∙◌, ap, sym}
use Rattle.std.proofs.lemmas.List.{length-map}
use Rattle.std.proofs.Math.Nat.{le_refl, le_trans}
use Rattle.tile_machine.specs.declared.phase.Phase.{Ghosts}
use Rattle.tile_table.specs.declared.view.View.{View}
use Rattle.tile_table.specs.declared.view.Hand.{Hand}
use Rattle.tile_table.specs.declared.view.Hand.TheVariants.{Empty, Holds}
use Rattle.tile_table.specs.declared.seat.Seat.{Seat}
use Rattle.tile_table.specs.Seats.{view}
use Rattle.tile_table.specs.Stays.{is_empty, IsAlone, Loses, Unchanged, Looked, Shown}

pub no-hand : (hand : Hand) → is_empty hand ≡ true → hand ≡ Empty
no-hand Empty e = refl
no-hand (Holds j marked) e = absurd (cc e)

module _ {T : Type 0} where
  pub unchanged-same : (v : View T) → Unchanged v v
  unchanged-same v =
      record { world = refl; goal = refl; first = refl; end = refl; all = refl; claims = refl; marks = refl; seen = refl }

  pub unchanged-on : (u v w : View T) → Unchanged u v → Unchanged v w → Unchanged u w
  unchanged-on u v w h k =
      record {
        world = k.world ∙ h.world;
        goal = k.goal ∙ h.goal;
        first = k.first ∙ h.first;
        end = k.end ∙ h.end;
        all = k.all ∙ h.all;
        claims = k.claims ∙ h.claims;
        marks = k.marks ∙ h.marks;
        seen = k.seen ∙ h.seen;
      }

  alone-still : (v w : View T) → Unchanged v w → IsAlone v → IsAlone w
  alone-still v w h alone = (h.first ∙ alone.0, h.end ∙ alone.1 ∙ sym h.all)

  pub loses-same : (v : View T) → Loses v v
  loses-same v = record { more = le_refl (length v.lost); alone = λ alone. refl }

  pub loses-before : (u v w : View T) → (IsAlone u → IsAlone v) → Loses u v → Loses v w → Loses u w
  loses-before u v w still h k = record { more = le_trans h.more k.more; alone = λ alone. k.alone (still alone) ∙ h.alone alone }

  pub loses-on : (u v w : View T) → Unchanged u v → Loses u v → Loses v w → Loses u w
  loses-on u v w same h k = loses-before u v w (alone-still u v same) h k

  pub shown-again : {X Q : Type 0} (readable : X → T → Q) (p q : X) (v w : View T) (ps : List Q) → q ≡ p → Unchanged v w
      → Shown (readable p) v ps → Shown (readable q) w ps
  shown-again readable p q v w ps e h shown =
      let back : readable p ≡ readable q = ap readable (sym e) in (
        shown.0 ∙ ap (λ ts. map (readable p) ts) (sym h.world) ∙ ap (λ r. map r w.world) back,
        shown.1 ∙ ap (λ ts. map (readable p) ts) (sym h.goal) ∙ ap (λ r. map r w.goal) back,
      )

  pub shown-many : {Q : Type 0} (readable : T → Q) (v : View T) (ps : List Q) → Shown readable v ps → length ps ≡ length v.world
  shown-many readable v ps shown = ap length shown.0 ∙ length-map v.world readable

module _ {X T Q : Type 0} {g : Ghosts X T Q} where
  pub looked-same : (seat : Seat X T Q g) → is_empty (view seat).hand ≡ true → Looked seat seat
  looked-same seat empty = record { table = refl; hand = no-hand (view seat).hand empty; unchanged = unchanged-same (view seat); loses = loses-same (view seat) }

  pub looked-on : (a b c : Seat X T Q g) → Looked a b → Looked b c → Looked a c
  looked-on a b c h k =
      record {
        table = k.table ∙ h.table;
        hand = k.hand;
        unchanged = unchanged-on (view a) (view b) (view c) h.unchanged k.unchanged;
        loses = loses-on (view a) (view b) (view c) h.unchanged h.loses k.loses;
      }
