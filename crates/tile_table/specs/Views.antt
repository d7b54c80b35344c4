-- What a seat knows, and how each step changes it.
use Rattle.std.specs.Prelude.{ℕ, ◌<◌, ◌≤◌, Bool, true, false, ◌&&◌, List, [], ◌∷◌, ◌++◌, ◌==◌, nat_lt, nat_le, ◌⊎◌}
use Rattle.tile_table.specs.declared.view.View.{View}
use Rattle.tile_table.specs.declared.view.Hand.{Hand}
use Rattle.tile_table.specs.declared.view.Hand.TheVariants.{Empty, Holds}
use Rattle.tile_table.specs.Counts.{bit, times_in, pair_times}

-- the finished tiles where marked, else the world's
abbrev pub tiles_by : {T : Type 0} → Bool → List T → List T → List T
tiles_by true world goal = goal
tiles_by false world goal = world

-- 1 where the hand of the seat with this number holds the lock of place i for worker w
abbrev pub held : ℕ → ℕ → ℕ → Hand → ℕ
held w i number Empty = 0
held w i number (Holds j marked) = bit ((number == w) && (j == i))

-- the places that are known as marked, with one more if it was read so
abbrev pub known_by : Bool → List ℕ → ℕ → List ℕ
known_by true known j = known ++ j ∷ []
known_by false known j = known

module _ {T : Type 0} where
  -- the first view of a table: all numbers, and nothing done
  abbrev pub opening_view : List T → List T → ℕ → View T
  opening_view world goal workers =
      record {
        world = world;
        goal = goal;
        first = 0;
        end = workers;
        all = workers;
        hand = Empty;
        claims = [];
        takes = [];
        marks = [];
        seen = [];
        lost = [];
        known = [];
      }

  -- what is left of a seat that was joined to another
  abbrev pub nobody : View T
  nobody = opening_view [] [] 0

  abbrev pub with_claim : View T → ℕ → View T
  with_claim v i = record v { claims = v.claims ++ (v.first, i) ∷ [] }

  abbrev pub with_seen : View T → ℕ → ℕ → View T
  with_seen v i by = record v { seen = v.seen ++ (i, by) ∷ [] }

  abbrev pub with_take : View T → ℕ → Bool → View T
  with_take v j marked = record v { hand = Holds j marked; takes = v.takes ++ (v.first, j) ∷ [] }

  abbrev pub with_known : View T → ℕ → View T
  with_known v j = record v { known = v.known ++ j ∷ [] }

  -- the place is known as marked, if it was read so
  abbrev pub knowing : Bool → View T → ℕ → View T
  knowing read v j = record v { known = known_by read v.known j }

  abbrev pub with_lost : View T → ℕ → ℕ → View T
  with_lost v j holder = record v { lost = v.lost ++ (j, holder) ∷ [] }

  abbrev pub with_mark : View T → ℕ → View T
  with_mark v i = record v { hand = Holds i true; marks = v.marks ++ i ∷ [] }

  abbrev pub with_no_hand : View T → View T
  with_no_hand v = record v { hand = Empty }

  -- the numbers below the cut stay with the seat
  abbrev pub lower : ℕ → View T → View T
  lower at v = record v { end = at }

  -- the others go to a new seat, which has done nothing
  abbrev pub upper : ℕ → View T → View T
  upper at v =
      record v {
        first = at;
        hand = Empty;
        claims = [];
        takes = [];
        marks = [];
        seen = [];
        lost = [];
        known = [];
      }

  -- the range of the next seat is added, and its six lists are appended
  abbrev pub joined_views : View T → View T → View T
  joined_views v w =
      record v {
        end = w.end;
        claims = v.claims ++ w.claims;
        takes = v.takes ++ w.takes;
        marks = v.marks ++ w.marks;
        seen = v.seen ++ w.seen;
        lost = v.lost ++ w.lost;
        known = v.known ++ w.known;
      }

  -- 1 where the number is in the seat's range
  abbrev pub covering : ℕ → View T → ℕ
  covering x v = bit (nat_le v.first x && nat_lt x v.end)

  -- how often the view has this claim, this take, this mark
  abbrev pub claiming : ℕ → ℕ → View T → ℕ
  claiming w i v = pair_times w i v.claims

  abbrev pub taking : ℕ → ℕ → View T → ℕ
  taking w i v = pair_times w i v.takes

  abbrev pub marking : ℕ → View T → ℕ
  marking i v = times_in i v.marks

  -- 1 where the seat of worker w holds the lock of place i
  abbrev pub holding : ℕ → ℕ → View T → ℕ
  holding w i v = held w i v.first v.hand

  -- a worker of the table that isn't in the seat's range
  abbrev pub IsAnother : ℕ → View T → Type 0
  IsAnother w v = (w < v.all) × ((w < v.first) ⊎ (v.end ≤ w))
