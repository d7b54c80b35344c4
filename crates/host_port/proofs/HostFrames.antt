-- The frames of a host: calls one after the other, and what a frame promises, fact by fact.
use Rattle.std.proofs.Common.{◌≡◌, refl, ◌∙◌}
use Rattle.host_port.specs.HostState.{HostState, OnlyReads, OnlyOpens, OnlyPuts, OnlySays}

-- ---- no call, and one call after another

pub reads_none : (a : HostState) → OnlyReads a a
reads_none a = record { files = refl; is_open = refl; input = refl; puts = refl; said = refl; put_faults = refl; say_faults = refl; willing = λ w. w }

pub reads_then : (a b c : HostState) → OnlyReads a b → OnlyReads b c → OnlyReads a c
reads_then a b c p q = record {
  files = q.files ∙ p.files;
  is_open = q.is_open ∙ p.is_open;
  input = q.input ∙ p.input;
  puts = q.puts ∙ p.puts;
  said = q.said ∙ p.said;
  put_faults = q.put_faults ∙ p.put_faults;
  say_faults = q.say_faults ∙ p.say_faults;
  willing = λ w. q.willing (p.willing w);
}

-- reading on is less than opening
pub opens_then_reads : (a b c : HostState) → OnlyOpens a b → OnlyReads b c → OnlyOpens a c
opens_then_reads a b c p q = record {
  files = q.files ∙ p.files;
  puts = q.puts ∙ p.puts;
  said = q.said ∙ p.said;
  put_faults = q.put_faults ∙ p.put_faults;
  say_faults = q.say_faults ∙ p.say_faults;
  willing = λ w. q.willing (p.willing w);
}

pub puts_none : (a : HostState) → OnlyPuts a a
puts_none a = record { place = refl; said = refl; read_faults = refl; say_faults = refl; willing = λ w. w }

pub puts_then : (a b c : HostState) → OnlyPuts a b → OnlyPuts b c → OnlyPuts a c
puts_then a b c p q = record {
  place = q.place ∙ p.place;
  said = q.said ∙ p.said;
  read_faults = q.read_faults ∙ p.read_faults;
  say_faults = q.say_faults ∙ p.say_faults;
  willing = λ w. q.willing (p.willing w);
}

pub says_then : (a b c : HostState) → OnlySays a b → OnlySays b c → OnlySays a c
says_then a b c p q = record {
  files = q.files ∙ p.files;
  is_open = q.is_open ∙ p.is_open;
  input = q.input ∙ p.input;
  place = q.place ∙ p.place;
  puts = q.puts ∙ p.puts;
  read_faults = q.read_faults ∙ p.read_faults;
  put_faults = q.put_faults ∙ p.put_faults;
  willing = λ w. q.willing (p.willing w);
}

-- ---- what a frame promises, each fact alone

-- a call that reads on: nothing told but the place; no fault of putting; none of saying; willing still
pub reading_promises : (old new : HostState) → OnlyReads old new →
    ((new.told.files ≡ old.told.files) × (new.told.is_open ≡ old.told.is_open) × (new.told.input ≡ old.told.input) × (new.told.puts ≡ old.told.puts) × (new.told.said ≡ old.told.said))
    × (new.put_faults ≡ old.put_faults)
    × (new.say_faults ≡ old.say_faults)
    × (old.willing → new.willing)
reading_promises old new h = ((h.files, h.is_open, h.input, h.puts, h.said), h.put_faults, h.say_faults, h.willing)

-- a call that opens: no file, nothing put, nothing said; no fault of putting; none of saying; willing still
pub opening_promises : (old new : HostState) → OnlyOpens old new →
    ((new.told.files ≡ old.told.files) × (new.told.puts ≡ old.told.puts) × (new.told.said ≡ old.told.said))
    × (new.put_faults ≡ old.put_faults)
    × (new.say_faults ≡ old.say_faults)
    × (old.willing → new.willing)
opening_promises old new h = ((h.files, h.puts, h.said), h.put_faults, h.say_faults, h.willing)

-- a call that puts: the place and what was said; no fault of reading; none of saying; willing still
pub putting_promises : (old new : HostState) → OnlyPuts old new →
    ((new.told.place ≡ old.told.place) × (new.told.said ≡ old.told.said))
    × (new.read_faults ≡ old.read_faults)
    × (new.say_faults ≡ old.say_faults)
    × (old.willing → new.willing)
putting_promises old new h = ((h.place, h.said), h.read_faults, h.say_faults, h.willing)

-- a call that says: nothing told but what was said; no fault of reading; none of putting; willing still
pub saying_promises : (old new : HostState) → OnlySays old new →
    ((new.told.files ≡ old.told.files) × (new.told.is_open ≡ old.told.is_open) × (new.told.input ≡ old.told.input) × (new.told.place ≡ old.told.place) × (new.told.puts ≡ old.told.puts))
    × (new.read_faults ≡ old.read_faults)
    × (new.put_faults ≡ old.put_faults)
    × (old.willing → new.willing)
saying_promises old new h = ((h.files, h.is_open, h.input, h.place, h.puts), h.read_faults, h.put_faults, h.willing)
