-- What MemHost tells after it opened or put a file.
use Rattle.std.proofs.Common.{◌≡◌, ℕ, ◌<◌, List, [], refl, ◌∙◌, ap, subst, inl, inr}
use Rattle.std.specs.Cmp.{below_irrefl}
use Rattle.std.specs.Prelude.{Option, Some, None, IsSome, is_some, unwrap_or, Result, Ok, Err, OnOk}
use Rattle.host_port.specs.declared.host.HostFault.{HostFault}
use Rattle.host_port.specs.declared.host.HostFault.TheVariants.{Failed, OutOfMemory}
use Rattle.host_port.specs.declared.mem_host.MemHost.{MemHost}
use Rattle.std.specs.Option.{option_map}
use Rattle.host_port.specs.Told.{Opened, Stored, file_at, named}
use Rattle.host_port.specs.Bytes.{as_bytes}
use Rattle.host_port.specs.ByteFacts.{file_told}
use Rattle.host_port.specs.MemHost.{told_of, IsWilling, IsFailing, Opens, OpensFile, Puts}
use Rattle.host_port.specs.Faults.{IfFailed}
use Rattle.host_port.proofs.AsTold.{stored_as_told}
use Rattle.host_port.proofs.Numbered.{found_bytes}

-- the list in an option that has one
inner : (o : Option (List ℕ)) → IsSome o → Some (unwrap_or o []) ≡ o
inner None h = cc
inner (Some xs) h = refl

-- a file is there where it is told
told_some : (o : Option (List ℕ)) → IsSome o → IsSome (option_map as_bytes o)
told_some None h = h
told_some (Some xs) h = h

-- the file opened is the file of that path
pub opened : (path : List ℕ) (old new : MemHost) → OpensFile path old new → Opened path (told_of old) (told_of new)
opened path old new h = rw h.leaves (record {
  files = refl;
  is_open = ap Some (ap is_some (found_bytes path old.files) ∙ h.found);
  place = refl;
  puts = refl;
  said = refl;
  found = λ _. rw (file_told path old.files) (told_some (file_at path old.files) h.found);
  bytes = λ _. rw (found_bytes path old.files, file_told path old.files) (ap (option_map as_bytes) (inner (file_at path old.files) h.found));
})

-- by cases on the answer
pub opens_told : (path : List ℕ) (old new : MemHost) (result : Result Unit HostFault) → Opens path old result new → OnOk result (Opened path (told_of old) (told_of new))
opens_told path old new (Ok _) h = opened path old new h
opens_told path old new (Err Failed) h = tt
opens_told path old new (Err OutOfMemory) h = tt

-- a call that fails isn't one of a willing host
willing_calls : (host : MemHost) → IsWilling host → IsFailing host → ⊥
willing_calls host willing failing = absurd (below_irrefl host.calls (subst (λ n. n < host.calls) failing.2 (willing failing.0 host.calls failing.1)))

-- a willing host fails to open only where no file has the path
pub opens_cause : (path : List ℕ) (old new : MemHost) (result : Result Unit HostFault) → Opens path old result new → IsWilling old → IfFailed result (named path (told_of old) ≡ None)
opens_cause path old new (Ok _) h willing = tt
opens_cause path old new (Err Failed) h willing = elim h.cause [
  | inl failing ↦ absurd (willing_calls old willing failing)
  | inr none ↦ file_told path old.files ∙ ap (option_map as_bytes) none
]
opens_cause path old new (Err OutOfMemory) h willing = tt

-- what is told after a put
pub puts_told : (path bytes : List ℕ) (old new : MemHost) (result : Result Unit HostFault) → Puts path bytes old result new → OnOk result (Stored path bytes (told_of old) (told_of new))
puts_told path bytes old new (Ok _) h = rw h.leaves (record {
  files = ap Some (stored_as_told path bytes old.files h.are_bytes);
  is_open = refl;
  place = refl;
  puts = refl;
  said = refl;
})
puts_told path bytes old new (Err Failed) h = tt
puts_told path bytes old new (Err OutOfMemory) h = tt
