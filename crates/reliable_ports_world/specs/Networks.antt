-- The network of two ends.
use Rattle.std.specs.Prelude.{ℕ, [], ◌∷◌}
use Rattle.plan_base.specs.declared.stamp.Version.TheVariants.{Two}
use Rattle.network_config.specs.Hosts.{host_of, dev_of}
use Rattle.network_config.specs.declared.schedule.HostSpec.{HostSpec}
use Rattle.network_config.specs.declared.schedule.Topology.{Topology}

-- a host with all packages
abbrev pub whole_host : ℕ → HostSpec
whole_host n = record { host = host_of n; missing = [] }

-- hosts 1 and 2, joined by their devices 1, of version 2
abbrev pub two_hosts : Topology
two_hosts = record {
  hosts = whole_host 1 ∷ whole_host 2 ∷ [];
  links = record { from = host_of 1; from_dev = dev_of 1; to = host_of 2; to_dev = dev_of 1 } ∷ [];
  version = Two;
}
