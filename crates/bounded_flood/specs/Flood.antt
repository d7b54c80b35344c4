-- what lies on one side of a piece: a flood from one junction over the neighbours of each, with a bound, and what it decides
use Rattle.std.specs.Prelude.{◌≡◌, ℕ, ◌≤◌, Option, Some, None, Bool, not, ◌&&◌, List, [], ◌∷◌, ◌++◌, length, ◌⊎◌, nat_le, slice_get, if◌then◌else◌}
use Rattle.std.specs.List.{list_any}
use Rattle.std.proofs.Common.{zero, suc}

-- x stands in the list
abbrev pub Occurs : {J : Type 0} → J → List J → Type 0
Occurs x [] = ⊥
Occurs x (y ∷ ys) = (y ≡ x) ⊎ Occurs x ys

-- a junction is linked to itself, and to each neighbour of one that it is linked to: the least such relation
pub data Linked {J : Type 0} (near : J → List J) (v : J) : J → Type 0 where
  to_itself : Linked near v v
  by_link : {x y : J} → Linked near v x → Occurs y (near x) → Linked near v y

-- v is on a side of its own: at most so many junctions are linked to it, and u isn't one of them
pub record CutOff {J : Type 0} (near : J → List J) (limit : ℕ) (u v : J) : Type 0 where
  pub side : List J
  pub few : length side ≤ limit
  pub whole : (x : J) → Linked near v x → Occurs x side
  pub apart : Linked near v u → ⊥

-- the same as a computation

-- whether x is one of these
abbrev pub is_seen : {J : Type 0} → (J → J → Bool) → J → List J → Bool
is_seen same x seen = list_any (λ y. same y x) seen

-- x behind those that were seen, if it isn't one of them
abbrev pub seen_too : {J : Type 0} → (J → J → Bool) → List J → J → List J
seen_too same seen x = if is_seen same x seen then seen else seen ++ x ∷ []

abbrev pub seen_all : {J : Type 0} → (J → J → Bool) → List J → List J → List J
seen_all same seen [] = seen
seen_all same seen (x ∷ xs) = seen_all same (seen_too same seen x) xs

abbrev pub near_of : {J : Type 0} → (J → List J) → Option J → List J
near_of near None = []
near_of near (Some x) = near x

-- those that were seen after n of them were looked at, in the order in which they were seen
unfoldable pub spread : {J : Type 0} → (J → J → Bool) → (J → List J) → J → ℕ → List J
spread same near v zero = v ∷ []
spread same near v (suc n) = seen_all same (spread same near v n) (near_of near (slice_get (spread same near v n) n))

-- whether v is on a side of its own
unfoldable pub cut_off : {J : Type 0} → (J → J → Bool) → (J → List J) → ℕ → J → J → Bool
cut_off same near limit u v =
    nat_le (length (spread same near v limit)) limit && not (is_seen same u (spread same near v limit))
