-- One thing after the other, up to the first fault.
use Rattle.std.specs.Prelude.{List, [], ◌∷◌, ◌++◌, Result, Ok, Err}
use Rattle.osm_objects.specs.declared.fault.ObjectFault.{ObjectFault}

-- what follows, where there was no fault
infixl 10 ◌>>=◌
abbrev pub ◌>>=◌ : {A B : Type 0} → Result A ObjectFault → (A → Result B ObjectFault) → Result B ObjectFault
(Ok x) >>= f = f x
(Err fault) >>= f = Err fault

-- what f gives of each, in their order
abbrev pub each : {A B : Type 0} → (A → Result B ObjectFault) → List A → Result (List B) ObjectFault
each f [] = Ok []
each f (x ∷ xs) = do
  y ← f x
  ys ← each f xs
  Ok (y ∷ ys)

-- the same, where f gives a list of each
abbrev pub each_joined : {A B : Type 0} → (A → Result (List B) ObjectFault) → List A → Result (List B) ObjectFault
each_joined f [] = Ok []
each_joined f (x ∷ xs) = do
  ys ← f x
  more ← each_joined f xs
  Ok (ys ++ more)
