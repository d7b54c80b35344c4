-- The host in memory: what it tells, and what each of its calls answers and leaves.
-- It answers Failed exactly where the number of the call is one of those that fail, or where what the call
-- needs isn't there. Each relation below says of every answer when it comes and what the host is then.
use Rattle.std.specs.Prelude.{◌≡◌, ℕ, ◌+◌, ◌<◌, ◌⊎◌, min, max, List, [], ◌∷◌, ◌++◌, length, take, drop, Option, Some, None, IsSome, is_some, unwrap_or, All, Contains, Result, Ok, Err}
use Rattle.host_port.specs.declared.host.HostFault.{HostFault}
use Rattle.host_port.specs.declared.host.HostFault.TheVariants.{Failed, OutOfMemory}
use Rattle.host_port.specs.declared.mem_host.MemHost.{MemHost}
use Rattle.host_port.specs.Told.{Told, file_at, stored}
use Rattle.host_port.specs.HostState.{HostState}
use Rattle.host_port.specs.Bytes.{as_bytes, as_byte_files}
use Rattle.host_port.specs.Counts.{one_more}
use Rattle.host_port.specs.HostFiles.{number_of, open_bytes}

-- the bytes of the open file, where one is open
abbrev pub open_in : MemHost → Option (List ℕ)
open_in host = open_bytes host.files host.input

-- All that it tells: everything. Its files are of bytes; that is said here, since a definition ranges over all lists
-- of numbers.
abbrev pub told_of : MemHost → Told
told_of host = record {
  files = Some (as_byte_files host.files);
  is_open = Some (is_some (open_in host));
  input = Some (as_bytes (unwrap_or (open_in host) []));
  place = Some host.place;
  puts = Some host.puts;
  said = Some host.said;
}

-- no call from now on is one that fails
abbrev pub IsWilling : MemHost → Type 0
IsWilling host = All (λ number. number < host.calls) host.failing

-- what contracts see of it
abbrev pub state_of : MemHost → HostState
state_of host = record {
  told = told_of host;
  read_faults = host.read_faults;
  put_faults = host.put_faults;
  say_faults = host.say_faults;
  willing = IsWilling host;
}

-- the call that begins is one that fails
abbrev pub IsFailing : MemHost → Type 0
IsFailing host = Contains host.failing host.calls

-- the bytes from the place on, up to the end of the open file
abbrev pub bytes_left : MemHost → List ℕ
bytes_left host = drop host.place (unwrap_or (open_in host) [])

-- how many bytes a read gives: as many as there are and the buffer and the piece have room for
abbrev pub given : MemHost → List ℕ → ℕ
given host buf = min (length buf) (min (max host.piece 1) (length (bytes_left host)))

-- the host after a call that failed to open or to read, and did nothing else
abbrev pub after_read_fault : MemHost → MemHost
after_read_fault host = record host { calls = one_more host.calls; read_faults = one_more host.read_faults }

-- An Ok of open_input: the first file of that path is open, at place 0.
pub record OpensFile (path : List ℕ) (old new : MemHost) : Type 0 where
  pub not_failing : IsFailing old → ⊥
  pub found : IsSome (file_at path old.files)
  pub leaves : new ≡ record old { input = number_of path old.files; place = 0; calls = one_more old.calls }

-- A failed open_input: the call is one that fails, or no file has that path.
pub record OpensNone (path : List ℕ) (old new : MemHost) : Type 0 where
  pub cause : IsFailing old ⊎ (file_at path old.files ≡ None)
  pub leaves : new ≡ after_read_fault old

-- open_input
abbrev pub Opens : List ℕ → MemHost → Result Unit HostFault → MemHost → Type 0
Opens path old (Ok _) new = OpensFile path old new
Opens path old (Err Failed) new = OpensNone path old new
Opens path old (Err OutOfMemory) new = ⊥

-- An Ok of read with the count n: the next n bytes are at the front of the buffer, whose rest is as it was. What is
-- left of the file is bytes.
pub record ReadsBytes (old : MemHost) (buf : List ℕ) (n : ℕ) (got : List ℕ) (new : MemHost) : Type 0 where
  pub not_failing : IsFailing old → ⊥
  pub is_open : IsSome (open_in old)
  pub are_bytes : All (λ byte. byte < 256) (bytes_left old)
  pub count : n ≡ given old buf
  pub bytes : got ≡ take n (bytes_left old) ++ drop n buf
  pub leaves : new ≡ record old { place = old.place + n; calls = one_more old.calls }

-- A failed read: the call is one that fails, or no input is open. The buffer is as it was.
pub record ReadsNone (old : MemHost) (buf got : List ℕ) (new : MemHost) : Type 0 where
  pub cause : IsFailing old ⊎ (open_in old ≡ None)
  pub bytes : got ≡ buf
  pub leaves : new ≡ after_read_fault old

-- read: the buffer as it was, and as the call left it
abbrev pub Reads : MemHost → List ℕ → Result ℕ HostFault → List ℕ → MemHost → Type 0
Reads old buf (Ok n) got new = ReadsBytes old buf n got new
Reads old buf (Err Failed) got new = ReadsNone old buf got new
Reads old buf (Err OutOfMemory) got new = ⊥

-- An Ok of put: the file of that path holds these bytes, and no input is open.
pub record PutsFile (path bytes : List ℕ) (old new : MemHost) : Type 0 where
  pub not_failing : IsFailing old → ⊥
  pub are_bytes : All (λ byte. byte < 256) bytes
  pub leaves : new ≡ record old { files = stored path bytes old.files; input = None; puts = old.puts ++ path ∷ []; calls = one_more old.calls }

-- A failed put: the call is one that fails.
pub record PutsNone (old new : MemHost) : Type 0 where
  pub cause : IsFailing old
  pub leaves : new ≡ record old { calls = one_more old.calls; put_faults = one_more old.put_faults }

-- No memory for it: nothing has changed, and the call, which isn't one that fails, doesn't count.
pub record FindsNoMemory (old new : MemHost) : Type 0 where
  pub not_failing : IsFailing old → ⊥
  pub leaves : new ≡ old

-- put
abbrev pub Puts : List ℕ → List ℕ → MemHost → Result Unit HostFault → MemHost → Type 0
Puts path bytes old (Ok _) new = PutsFile path bytes old new
Puts path bytes old (Err Failed) new = PutsNone old new
Puts path bytes old (Err OutOfMemory) new = FindsNoMemory old new

-- An Ok of say: the bytes stand behind those said before.
pub record SaysBytes (bytes : List ℕ) (old new : MemHost) : Type 0 where
  pub not_failing : IsFailing old → ⊥
  pub leaves : new ≡ record old { said = old.said ++ bytes; calls = one_more old.calls }

-- A failed say: the call is one that fails.
pub record SaysNone (old new : MemHost) : Type 0 where
  pub cause : IsFailing old
  pub leaves : new ≡ record old { calls = one_more old.calls; say_faults = one_more old.say_faults }

-- say
abbrev pub Says : List ℕ → MemHost → Result Unit HostFault → MemHost → Type 0
Says bytes old (Ok _) new = SaysBytes bytes old new
Says bytes old (Err Failed) new = SaysNone old new
Says bytes old (Err OutOfMemory) new = FindsNoMemory old new
