-- The network of two ends keeps the rules of a network.
use Rattle.std.proofs.Common.{◌<◌, [], ◌∷◌, refl, arith}
use Rattle.std.proofs.lemmas.List.Elements.{All-nil, All-cons}
use Rattle.network_config.specs.declared.schedule.Link.{Link}
use Rattle.network_config.specs.Hosts.{host_of, dev_of}
use Rattle.network_config.specs.declared.schedule.HostSpec.{HostSpec}
use Rattle.network_config.specs.Rules.{PackagesDiffer, KeepsLink, KeepsNetwork}
use Rattle.reliable_ports_world.specs.Networks.{whole_host, two_hosts}

abbrev Small : HostSpec → Type 0
Small s = s.host.0 < 4294967296

abbrev Lacks : HostSpec → Type 0
Lacks s = PackagesDiffer s.missing

abbrev Keeps : Link → Type 0
Keeps l = KeepsLink two_hosts.hosts l

abbrev the_link : Link
the_link = record { from = host_of 1; from_dev = dev_of 1; to = host_of 2; to_dev = dev_of 1 }

link_keeps : Keeps the_link
link_keeps = record { from = refl; to = refl; apart = λ e. omega (arith, e); from_device = (omega arith, omega arith); to_device = (omega arith, omega arith) }

pub two_keep : KeepsNetwork two_hosts
two_keep = record {
  few = omega arith;
  hosts = (refl, (refl, tt));
  numbers = All-cons Small (whole_host 1) (whole_host 2 ∷ []) (omega arith) (All-cons Small (whole_host 2) [] (omega arith) (All-nil Small));
  missing = All-cons Lacks (whole_host 1) (whole_host 2 ∷ []) tt (All-cons Lacks (whole_host 2) [] tt (All-nil Lacks));
  links = All-cons Keeps the_link [] link_keeps (All-nil Keeps);
  apart = (refl, refl, tt);
}
