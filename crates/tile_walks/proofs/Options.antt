-- What equations of options tell.
use Rattle.std.proofs.Common.{◌≡◌, Option, Some, None, ap, subst}
use Rattle.std.specs.Prelude.{⊤}

abbrev or : {T : Type 0} → T → Option T → T
or d None = d
or d (Some x) = x

pub told : {T : Type 0} (x y : T) → ◌≡◌ {A = Option T} (Some x) (Some y) → x ≡ y
told x y e = ap (or x) e

abbrev IsNothing : {T : Type 0} → Option T → Type 0
IsNothing None = ⊤
IsNothing (Some x) = ⊥

pub none_some : {T : Type 0} (x : T) → ◌≡◌ {A = Option T} None (Some x) → ⊥
none_some x e = subst IsNothing e tt
