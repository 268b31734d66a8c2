-- What files say of how a node begins: the lines that configurations and logs share.
use Rattle.std.specs.Prelude.{ℕ, ◌==◌, nat_lt, Bool, not, List, Result, Ok}
use Rattle.std.specs.List.{list_any, position_or_len, insert}
use lib.Chars.{codes}
use Rattle.plan_base.specs.declared.ids.Host.{Host}
use Rattle.plan_base.specs.declared.ids.Dev.{Dev}
use Rattle.network_config.specs.Hosts.{host_of, dev_of, is_listed}
use Rattle.line_reader.specs.declared.fault.LineReason.{LineReason}
use Rattle.line_reader.specs.declared.fault.LineReason.TheVariants.{UnknownHost, TwiceNamed, BadArgument}
use Rattle.line_reader.specs.Reads.{◌>>=◌, Part, allowed_or_reason}
use Rattle.line_reader.specs.Numbers.{number_at}
use Rattle.line_reader.specs.HostLists.{hosts_with}
use Rattle.node_files.specs.Parts.{behind_word, last_number}

-- `host N`: the node's own host
unfoldable pub host_line : List (List ℕ) → Result Host LineReason
host_line ws = do
  more ← behind_word (codes "host") ws
  n ← last_number 0 4294967295 more
  Ok (host_of n)

-- `hosts` and the numbers of the network's hosts, the node's own among them
unfoldable pub hosts_line : Host → List (List ℕ) → Result (List Host) LineReason
hosts_line here ws = do
  more ← behind_word (codes "hosts") ws
  hosts_with here more

-- whether a device leads to a neighbour
abbrev pub has_device : ℕ → List (Host × Dev) → Bool
has_device d ns = list_any (λ n. n.1.0 == d) ns

-- `D HOST`: a device that leads to no neighbour yet, and another host of the network
unfoldable pub neighbour_at : Host → List Host → List (Host × Dev) → List (List ℕ) → Part (Host × Dev)
neighbour_at here hosts seen ws = do
  d ← number_at 1 8 ws
  _ ← allowed_or_reason (not (has_device d.0 seen)) TwiceNamed
  h ← number_at 0 4294967295 d.1
  _ ← allowed_or_reason (is_listed (host_of h.0) hosts) UnknownHost
  _ ← allowed_or_reason (not (h.0 == here.0)) BadArgument
  Ok ((host_of h.0, dev_of d.0), h.1)

-- the place in front of the first item with a higher number
abbrev pub place_of : {A : Type 0} → (A → ℕ) → ℕ → List A → ℕ
place_of key n xs = position_or_len (λ x. nat_lt n (key x)) xs

-- an item put at its place by its number
abbrev pub placed_items : {A : Type 0} → (A → ℕ) → A → List A → List A
placed_items key x xs = insert xs (place_of key (key x) xs) x

-- the number of a neighbour's device
abbrev pub device_of : Host × Dev → ℕ
device_of n = n.1.0

-- the number of a port's device
abbrev pub port_device : Dev × ℕ → ℕ
port_device p = p.0.0
