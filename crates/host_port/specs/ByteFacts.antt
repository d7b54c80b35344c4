-- What a host in memory tells of its files and of its input is bytes.
use Rattle.std.specs.Prelude.{◌≡◌, ℕ, ◌<◌, Bool, true, false, cond, List, [], ◌∷◌, All, Option, Some, None, unwrap_or}
use Rattle.std.specs.Option.{option_map}
use Rattle.std.specs.Str.{bytes_eq}
use Rattle.std.specs.List.{slice_index_or}
use Rattle.std.proofs.Common.{refl, ap, ◌∙◌, sym, subst}
use Rattle.std.proofs.Math.Nat.{mod-lt, zero-lt-suc}
use Rattle.std.proofs.lemmas.Option.{none-some}
use Rattle.std.proofs.lemmas.List.Elements.{All-map}
use Rattle.host_port.specs.declared.mem_host.MemHost.{MemHost}
use Rattle.host_port.specs.Told.{TellsBytes, file_at, named}
use Rattle.host_port.specs.Bytes.{as_byte, as_bytes, as_byte_files}
use Rattle.host_port.specs.MemHost.{open_in, told_of}

abbrev AreBytes : List ℕ → Type 0
AreBytes bytes = All (λ byte. byte < 256) bytes

are_bytes : (numbers : List ℕ) → AreBytes (as_bytes numbers)
are_bytes numbers = All-map (λ byte. byte < 256) as_byte numbers (λ k d within. mod-lt (slice_index_or numbers k d) (zero-lt-suc 255))

-- the content of an option that has one
abbrev inner : List ℕ → Option (List ℕ) → List ℕ
inner default o = unwrap_or o default

-- where these are told, they are bytes
told_are : (numbers bytes : List ℕ) → Some (as_bytes numbers) ≡ Some bytes → AreBytes bytes
told_are numbers bytes e = subst AreBytes (ap (inner []) e) (are_bytes numbers)

some_are : (o : Option (List ℕ)) (bytes : List ℕ) → option_map as_bytes o ≡ Some bytes → AreBytes bytes
some_are None bytes e = absurd (none-some bytes e)
some_are (Some numbers) bytes e = told_are numbers bytes e

-- the file of a path is told as bytes
pub file_told : (path : List ℕ) (files : List (List ℕ × List ℕ)) → file_at path (as_byte_files files) ≡ option_map as_bytes (file_at path files)
file_told path [] = refl
file_told path (file ∷ files) = by (bytes_eq path file.0) (file_told path files)
  where
    by : (same : Bool) → file_at path (as_byte_files files) ≡ option_map as_bytes (file_at path files)
        → cond same (Some (as_bytes file.1)) (file_at path (as_byte_files files)) ≡ option_map as_bytes (cond same (Some file.1) (file_at path files))
    by true others = refl
    by false others = others

pub mem_tells_bytes : (host : MemHost) → TellsBytes (told_of host)
mem_tells_bytes host = record {
  file = λ path bytes e. some_are (file_at path host.files) bytes (sym (file_told path host.files) ∙ e);
  input = λ input e. told_are (unwrap_or (open_in host) []) input e;
}
