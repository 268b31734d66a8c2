-- What a log's rules say of an event is enough for a node of its version.
use Rattle.std.proofs.Common.{◌≡◌, sym, subst}
use Rattle.plan_base.specs.declared.stamp.Version.{Version}
use Rattle.network_config.specs.declared.event.Event.{Event}
use Rattle.network_config.specs.declared.event.Event.TheVariants as event
use Rattle.network_config.specs.NodeRules.{KeepsNodeEvent}
use Rattle.node_core_spec.specs.Fits.{comes_within}

pub comes_as : (v : Version) (e : Event) → KeepsNodeEvent v e → comes_within v e
comes_as v (event.Inject chunk bound handler) k = (k.0.0, k.1)
comes_as v (event.Frame d bytes) k = k.0
comes_as v (event.Control bytes) k = tt
comes_as v event.Tick k = tt
comes_as v (event.Take d) k = tt

pub comes_so : (v w : Version) (e : Event) → w ≡ v → KeepsNodeEvent v e → comes_within w e
comes_so v w e same k = subst (λ u. comes_within u e) (sym same) (comes_as v e k)
