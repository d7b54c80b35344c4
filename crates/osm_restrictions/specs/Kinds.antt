-- The kinds of restrictions.
use Rattle.std.specs.Prelude.{ℕ, ◌==◌, nat_le, Bool, true, false, List, [], ◌∷◌, Option, codes, find, if◌then◌else◌}
use Rattle.std.specs.Str.{bytes_eq}

-- a value, whether it says the only turn that is allowed or a turn that isn't, whether it speaks of turning
-- back, and whether it may have several members in the role `from` and in the role `to`
pub record KindRow : Type 0 where
  pub value : List ℕ
  pub only : Bool
  pub u_turn : Bool
  pub many_from : Bool
  pub many_to : Bool

abbrev pub turn_kinds : List KindRow
turn_kinds =
    record { value = codes "no_right_turn"; only = false; u_turn = false; many_from = false; many_to = false }
    ∷ record { value = codes "no_left_turn"; only = false; u_turn = false; many_from = false; many_to = false }
    ∷ record { value = codes "no_u_turn"; only = false; u_turn = true; many_from = false; many_to = false }
    ∷ record { value = codes "no_straight_on"; only = false; u_turn = false; many_from = false; many_to = false }
    ∷ record { value = codes "no_entry"; only = false; u_turn = false; many_from = true; many_to = false }
    ∷ record { value = codes "no_exit"; only = false; u_turn = false; many_from = false; many_to = true }
    ∷ record { value = codes "only_right_turn"; only = true; u_turn = false; many_from = false; many_to = false }
    ∷ record { value = codes "only_left_turn"; only = true; u_turn = false; many_from = false; many_to = false }
    ∷ record { value = codes "only_straight_on"; only = true; u_turn = false; many_from = false; many_to = false }
    ∷ record { value = codes "only_u_turn"; only = true; u_turn = true; many_from = false; many_to = false }
    ∷ []

-- the kind of a value
abbrev pub turn_kind : List ℕ → Option KindRow
turn_kind value = find (λ row. bytes_eq value row.value) turn_kinds

-- whether there are as many members as the kind asks: one, or one or more where several are allowed
abbrev pub is_right_count : Bool → ℕ → Bool
is_right_count many count = if many then nat_le 1 count else count == 1
