-- The moment at which a serving node begins, and what its version takes.
use Rattle.std.specs.Prelude.{◌≡◌, ◌<◌, ◌^◌, ℕ, Bool, true, false, Option, Some, None, Result}
use Rattle.plan_base.specs.declared.name.Name.{Name}
use Rattle.plan_base.specs.declared.stamp.Version.{Version}
use Rattle.plan_base.specs.declared.stamp.Version.TheVariants.{One, Two}
use Rattle.network_config.specs.declared.serve.ServeConfig.{ServeConfig}
use Rattle.network_config.specs.NodeRules.{KeepsServe}
use Rattle.service_api.specs.Services.{ServiceState}
use Rattle.node_io.specs.Clocks.{ClockState, Tells}
use Rattle.node_core_spec.specs.State.{new_node}
use Rattle.node_serve.specs.declared.fault.ServeFault.{ServeFault}
use Rattle.node_serve.specs.Desks.{Serving}
use Rattle.node_serve.specs.Serves.{Serves}

-- a configuration whose node begins at this moment
abbrev pub booted_config : ℕ → ServeConfig → ServeConfig
booted_config boot cfg = record cfg { node = record cfg.node { boot = boot } }

-- a configuration of version 2 that keeps its rules
pub record KeepsTwo (cfg : ServeConfig) : Type 0 where
  pub keeps : KeepsServe cfg
  pub two : cfg.node.version ≡ Two

-- a node of version 2 begins at the next answer of the clock; one of version 1 asks for none, and its moment is 0
abbrev pub Asks : Version → ClockState → ClockState → ℕ → Type 0
Asks One old new boot = (new ≡ old) × (boot ≡ 0)
Asks Two old new boot = Tells old new boot

-- the moment was asked for, a number of 64 bits, and then the node that begins with it served so many turns, or a prefix of them
pub record ServesFrom {T : Type 0} (cfg : ServeConfig) (services : ServiceState) (turns : ℕ) (old new : Serving) (result : Result T ServeFault) : Type 0 where
  pub boot : ℕ
  pub clock : ClockState
  pub asked : Asks cfg.node.version old.clock clock boot
  pub fits : boot < 2 ^ 64
  pub serves : Serves (booted_config boot cfg) (new_node (booted_config boot cfg).node services) turns (record old { clock = clock }) new result

-- a node of version 1 takes no handler
abbrev pub takes_handler : Version → Option Name → Bool
takes_handler One None = true
takes_handler One (Some n) = false
takes_handler Two handler = true
