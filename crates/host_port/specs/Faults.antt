-- When a call of a host answers a fault: exactly where the count of that kind of fault rose in the call.
use Rattle.std.specs.Prelude.{◌≡◌, ℕ, ◌+◌, ◌-◌, ◌^◌, ◌≤◌, min, Result, Ok, Err}
use Rattle.host_port.specs.declared.host.HostFault.{HostFault}
use Rattle.host_port.specs.declared.host.HostFault.TheVariants.{Failed, OutOfMemory}

-- The count rose: it never falls, and one that stands at the end of its type stays there.
pub record Rose (before now : ℕ) : Type 0 where
  pub later : before ≤ now
  pub risen : min (before + 1) (2 ^ 64 - 1) ≤ now

-- The answer is Failed exactly where the count rose.
abbrev pub Counted : {A : Type 0} → ℕ → ℕ → Result A HostFault → Type 0
Counted before now (Ok _) = now ≡ before
Counted before now (Err Failed) = Rose before now
Counted before now (Err OutOfMemory) = now ≡ before

-- where the answer is Failed, the fact holds
abbrev pub IfFailed : {A : Type 0} → Result A HostFault → Type 0 → Type 0
IfFailed (Ok _) fact = Unit {0}
IfFailed (Err Failed) fact = fact
IfFailed (Err OutOfMemory) fact = Unit {0}

-- the call takes no memory, so it never answers for want of it
abbrev pub NeedsNone : {A : Type 0} → Result A HostFault → Type 0
NeedsNone (Ok _) = Unit {0}
NeedsNone (Err Failed) = Unit {0}
NeedsNone (Err OutOfMemory) = ⊥
