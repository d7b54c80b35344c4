-- What contracts see of a host, and what the calls of each kind leave of it as it was.
use Rattle.std.specs.Prelude.{◌≡◌, ℕ}
use Rattle.host_port.specs.Told.{Told}

-- The state of a host: what it tells, its three counts of faults, and whether it is willing.
pub record HostState : Type 1 where
  pub told : Told
  pub read_faults : ℕ
  pub put_faults : ℕ
  pub say_faults : ℕ
  -- it fails only where what it tells shows the cause, now and after each call
  pub willing : Type 0

-- Calls that read on in the input that is open. Whatever they answer, nothing that is told changed but the place, no
-- fault of putting or saying was counted, and a willing host still is.
pub record OnlyReads (old new : HostState) : Type 0 where
  pub files : new.told.files ≡ old.told.files
  pub is_open : new.told.is_open ≡ old.told.is_open
  pub input : new.told.input ≡ old.told.input
  pub puts : new.told.puts ≡ old.told.puts
  pub said : new.told.said ≡ old.told.said
  pub put_faults : new.put_faults ≡ old.put_faults
  pub say_faults : new.say_faults ≡ old.say_faults
  pub willing : old.willing → new.willing

-- Calls that open an input and read in it: of what is told only the input may have changed, with the place in it and
-- whether it is open.
pub record OnlyOpens (old new : HostState) : Type 0 where
  pub files : new.told.files ≡ old.told.files
  pub puts : new.told.puts ≡ old.told.puts
  pub said : new.told.said ≡ old.told.said
  pub put_faults : new.put_faults ≡ old.put_faults
  pub say_faults : new.say_faults ≡ old.say_faults
  pub willing : old.willing → new.willing

-- Calls that put files: of what is told only the files and the paths put may have changed, and the input that was open.
pub record OnlyPuts (old new : HostState) : Type 0 where
  pub place : new.told.place ≡ old.told.place
  pub said : new.told.said ≡ old.told.said
  pub read_faults : new.read_faults ≡ old.read_faults
  pub say_faults : new.say_faults ≡ old.say_faults
  pub willing : old.willing → new.willing

-- Calls that say: nothing that is told changed but the bytes said.
pub record OnlySays (old new : HostState) : Type 0 where
  pub files : new.told.files ≡ old.told.files
  pub is_open : new.told.is_open ≡ old.told.is_open
  pub input : new.told.input ≡ old.told.input
  pub place : new.told.place ≡ old.told.place
  pub puts : new.told.puts ≡ old.told.puts
  pub read_faults : new.read_faults ≡ old.read_faults
  pub put_faults : new.put_faults ≡ old.put_faults
  pub willing : old.willing → new.willing
