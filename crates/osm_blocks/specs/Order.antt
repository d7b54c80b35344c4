-- Objects in order of id, and ids that stand twice.
use Rattle.std.specs.Prelude.{◌≤◌, ◌≤ℤ◌, ℕ, ℤ, List, IsPermutation, count_by}
use Rattle.std.specs.Ordering.{int_eq}
use Rattle.osm_model.specs.Extract.{IdsRise}

-- how many objects have this id
abbrev pub times : {A : Type 0} → (A → ℤ) → List A → ℤ → ℕ
times id_of all id = count_by (λ object. int_eq (id_of object) id) all

-- The list has exactly these objects, in order of id, each id once.
pub record InOrder {A : Type 0} (id_of : A → ℤ) (all list : List A) : Type 0 where
  pub same : IsPermutation all list
  pub rises : IdsRise id_of list

-- no two of them have one id
abbrev pub AreUnlike : {A : Type 0} → (A → ℤ) → List A → Type 0
AreUnlike id_of all = (id : ℤ) → times id_of all id ≤ 1

-- the least id that two of them have
pub record IsLeastTwice {A : Type 0} (id_of : A → ℤ) (all : List A) (id : ℤ) : Type 0 where
  pub twice : 2 ≤ times id_of all id
  pub least : (other : ℤ) → 2 ≤ times id_of all other → id ≤ℤ other
