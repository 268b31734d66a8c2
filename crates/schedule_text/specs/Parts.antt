-- What the lines of a schedule name: hosts, devices and programs.
use Rattle.std.specs.Prelude.{ℕ, Bool, not, List, Ok}
use Rattle.std.specs.List.{find}
use Rattle.std.specs.Option.{ok_or}
use Rattle.std.specs.Str.{bytes_eq}
use Rattle.plan_base.specs.declared.ids.Host.{Host}
use Rattle.plan_base.specs.declared.ids.Dev.{Dev}
use Rattle.network_config.specs.declared.schedule.HostSpec.{HostSpec}
use Rattle.network_config.specs.declared.schedule.Link.{Link}
use Rattle.network_config.specs.Hosts.{host_of, dev_of, has_host, has_link}
use Rattle.line_reader.specs.declared.fault.LineReason.TheVariants.{UnknownHost, UnknownProgram, TwiceNamed}
use Rattle.line_reader.specs.Reads.{◌>>=◌, Part, word_at, allowed_or_reason}
use Rattle.line_reader.specs.Numbers.{number_at}
use Rattle.schedule_text.specs.declared.reading.NamedProgram.{NamedProgram}

-- the next word as a host that was named
unfoldable pub host_at : List HostSpec → List (List ℕ) → Part Host
host_at hosts ws = do
  n ← number_at 0 4294967295 ws
  _ ← allowed_or_reason (has_host (host_of n.0) hosts) UnknownHost
  Ok (host_of n.0, n.1)

-- the next word as a device
unfoldable pub device_at : List (List ℕ) → Part Dev
device_at ws = do
  d ← number_at 0 8 ws
  Ok (dev_of d.0, d.1)

-- the next word as a device of a host that has no link yet
unfoldable pub free_device_at : List Link → Host → List (List ℕ) → Part Dev
free_device_at links h ws = do
  d ← number_at 1 8 ws
  _ ← allowed_or_reason (not (has_link h (dev_of d.0) links)) TwiceNamed
  Ok (dev_of d.0, d.1)

-- whether a program has a name
abbrev pub is_called : List ℕ → NamedProgram → Bool
is_called name p = bytes_eq p.name name

-- the next word as a program that was named
unfoldable pub program_at : List NamedProgram → List (List ℕ) → Part NamedProgram
program_at programs ws = do
  w ← word_at ws
  p ← ok_or (find (is_called w.0) programs) UnknownProgram
  Ok (p, w.1)
