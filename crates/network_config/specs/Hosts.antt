-- Hosts and links by their numbers.
use Rattle.std.specs.Prelude.{Bool, ◌&&◌, ◌||◌, ◌==◌, List, ℕ}
use Rattle.std.specs.List.{list_any}
use Rattle.plan_base.specs.declared.ids.Host.{Host}
use Rattle.plan_base.specs.declared.ids.Dev.{Dev}
use Rattle.network_config.specs.declared.schedule.HostSpec.{HostSpec}
use Rattle.network_config.specs.declared.schedule.Link.{Link}

-- a host by its number
abbrev pub host_of : ℕ → Host
host_of n = record { 0 = n }

-- a device by its number
abbrev pub dev_of : ℕ → Dev
dev_of n = record { 0 = n }

-- whether a network has a host
abbrev pub has_host : Host → List HostSpec → Bool
has_host h hosts = list_any (λ s. s.host.0 == h.0) hosts

-- whether a host is in a list of hosts
abbrev pub is_listed : Host → List Host → Bool
is_listed h hosts = list_any (λ g. g.0 == h.0) hosts

-- whether a link ends at a device of a host
abbrev pub ends_at : Host → Dev → Link → Bool
ends_at h d l = (l.from.0 == h.0 && l.from_dev.0 == d.0) || (l.to.0 == h.0 && l.to_dev.0 == d.0)

-- whether a device of a host has a link
abbrev pub has_link : Host → Dev → List Link → Bool
has_link h d links = list_any (ends_at h d) links
