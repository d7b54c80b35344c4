-- What a host over real files tells.
use Rattle.std.specs.Prelude.{ℕ, None}
use Rattle.std.proofs.lemmas.Option.{none-some}
use Rattle.host_port.specs.Told.{Told, TellsBytes}
use Rattle.host_port.specs.HostState.{HostState}

-- nothing is told
abbrev pub nothing : Told
nothing = record { files = None; is_open = None; input = None; place = None; puts = None; said = None }

-- nothing but the counts of faults; such a host is never willing
abbrev pub untold : ℕ → ℕ → ℕ → HostState
untold read_faults put_faults say_faults = record { told = nothing; read_faults = read_faults; put_faults = put_faults; say_faults = say_faults; willing = ⊥ }

-- so nothing is told that could be no byte
pub no_bytes_told : TellsBytes nothing
no_bytes_told = record { file = λ path bytes e. absurd (none-some bytes e); input = λ input e. absurd (none-some input e) }
