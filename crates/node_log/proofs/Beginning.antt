-- A node that keeps the rules of plans may begin.
use Rattle.std.proofs.Common.{◌≡◌, ◌<◌, false, List, [], ◌∷◌, refl, arith, tests}
use Rattle.std.specs.List.{All}
use Rattle.std.proofs.lemmas.List.Elements.{All-head, All-tail, All-weaker}
use Rattle.plan_base.specs.declared.ids.Host.{Host}
use Rattle.network_config.specs.declared.node.NodeConfig.{NodeConfig}
use Rattle.network_config.specs.Rules.{IsLinkDevice}
use Rattle.network_config.specs.NodeRules.{Ascend, IsNeighbour, KeepsNode}
use Rattle.dv_routing.specs.Routing.{is_among}
use Rattle.dv_routing.specs.Sorted.{HostsDiffer}
use Rattle.node_core_spec.specs.Fits.{ConfigFits}

-- a host below all others is none of them
apart : (h : Host) (hs : List Host) → All (λ g. h.0 < g.0) hs → is_among hs h ≡ false
apart h [] a = refl
apart h (g ∷ hs) a =
    let first = All-head (λ g. h.0 < g.0) g hs a in
    grind (arith, tests, first, apart h hs (All-tail (λ g. h.0 < g.0) g hs a))

differ : (hs : List Host) → Ascend hs → HostsDiffer hs
differ [] a = tt
differ (h ∷ hs) a = (apart h hs a.0, differ hs a.1)

pub may_begin : (n : NodeConfig) → KeepsNode n → ConfigFits n
may_begin n k = record {
  hosts = record { few = k.few; differ = differ n.hosts k.ascend };
  devices = All-weaker (IsNeighbour n.here n.hosts) (λ x. IsLinkDevice x.1) (λ x i. i.device) n.neighbours k.neighbours;
  ordered = k.devices;
}
