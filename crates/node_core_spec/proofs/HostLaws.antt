-- The hosts of a network, among others and sorted, and a node at the beginning.
use Rattle.std.proofs.Common.{◌≡◌, ◌<◌, ◌^◌, List, [], ◌∷◌, refl, ap, arith}
use Rattle.std.specs.Prelude.{map, ◌==◌, ◌||◌}
use Rattle.std.proofs.lemmas.List.Elements.{All-nil}
use Rattle.plan_base.specs.declared.ids.Host.{Host}
use Rattle.service_api.specs.Services.{ServiceState}
use Rattle.network_config.specs.Hosts.{has_host}
use Rattle.network_config.specs.declared.node.NodeConfig.{NodeConfig}
use Rattle.network_config.specs.declared.schedule.HostSpec.{HostSpec}
use Rattle.dv_routing.specs.Routing.{is_among}
use Rattle.dv_routing.specs.Sorted.{sorted_into, HostsSmall}
use Rattle.dv_routing.proofs.Sorting.{sorted_length, sorted_ascends, sorted_all}
use Rattle.node_core_spec.specs.State.{new_node}
use Rattle.node_core_spec.specs.Fits.{StampedKeeps, HostsFit, NetworkFits, ConfigFits, ServicesFit, NodeFits}
use Rattle.node_core_spec.proofs.Contexts.{near_by_devices}
use Rattle.node_core_spec.proofs.Keeping.{none_kept}

pub same_among : (x : Host) (hs : List HostSpec) → is_among (map (λ s. s.host) hs) x ≡ has_host x hs
same_among x [] = refl
same_among x (h ∷ hs) = ap (λ b. (h.host.0 == x.0) || b) (same_among x hs)

pub sorted_fit : (hosts : List Host) → NetworkFits hosts → HostsSmall (sorted_into [] hosts) → HostsFit (sorted_into [] hosts)
sorted_fit hosts n small = record {
  few = let e = sorted_length hosts in omega (arith, n.few);
  ascend = sorted_ascends hosts n.differ;
  numbers = small;
}

pub new_node_fits : (c : NodeConfig) (n : ServiceState) → c.here.0 < 2 ^ 32 → HostsSmall c.hosts → c.serial < 2 ^ 64 → ConfigFits c → ServicesFit n → NodeFits (new_node c n)
unfolding new_node
new_node_fits c n h small s k f = record {
  here = h;
  hosts = sorted_fit c.hosts k.hosts (sorted_all (λ h. h.0 < 2 ^ 32) [] c.hosts small (All-nil (λ h. h.0 < 2 ^ 32)));
  near = near_by_devices c.neighbours k.devices k.ordered;
  ordered = k.ordered;
  services = f;
  queues = none_kept (StampedKeeps c.version) c.link;
  serial = s;
  now = omega arith;
}
