-- A list of hosts that ascend.
use Rattle.std.specs.Prelude.{ℕ, nat_lt, Bool, List, [], ◌∷◌, ◌++◌, length, Result, Ok}
use Rattle.std.specs.List.{list_all}
use Rattle.plan_base.specs.declared.ids.Host.{Host}
use Rattle.network_config.specs.Hosts.{host_of, is_listed}
use Rattle.line_reader.specs.declared.fault.LineReason.{LineReason}
use Rattle.line_reader.specs.declared.fault.LineReason.TheVariants.{TooMany, BadArgument}
use Rattle.line_reader.specs.Reads.{◌>>=◌, Part, allowed_or_reason}
use Rattle.line_reader.specs.Numbers.{number_at}

-- whether a host is above each of these
abbrev pub is_above : List Host → ℕ → Bool
is_above seen n = list_all (λ h. nat_lt h.0 n) seen

-- one host more, of at most 32
unfoldable pub host_more : List Host → List (List ℕ) → Part (List Host)
host_more seen ws = do
  n ← number_at 0 4294967295 ws
  _ ← allowed_or_reason (nat_lt (length seen) 32) TooMany
  _ ← allowed_or_reason (is_above seen n.0) BadArgument
  Ok (seen ++ host_of n.0 ∷ [], n.1)

-- hosts until the line ends
unfoldable pub hosts_from : List Host → List (List ℕ) → Result (List Host) LineReason
hosts_from seen [] = Ok seen
hosts_from seen (w ∷ ws) = do
  next ← host_more seen (w ∷ ws)
  hosts_from next.0 ws

-- the hosts of a network, with this one among them
unfoldable pub hosts_with : Host → List (List ℕ) → Result (List Host) LineReason
hosts_with here ws = do
  hosts ← hosts_from [] ws
  _ ← allowed_or_reason (is_listed here hosts) BadArgument
  Ok hosts
