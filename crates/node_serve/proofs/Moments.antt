-- A node of version 2 begins at the clock's next answer, one of version 1 at none.
use Rattle.std.proofs.Common.{◌≡◌, ℕ, ◌<◌, ◌^◌, List, Result, refl, sym, subst, arith}
use Rattle.plan_base.specs.declared.ids.Dev.{Dev}
use Rattle.service_api.specs.declared.package.PackageName.{PackageName}
use Rattle.network_config.specs.declared.serve.Inject.{Inject as Injection}
use Rattle.network_config.specs.declared.node.NodeConfig.{NodeConfig}
use Rattle.plan_base.specs.declared.stamp.Version.TheVariants.{One, Two}
use Rattle.network_config.specs.NodeRules.{KeepsBoot, KeepsServe}
use Rattle.network_config.specs.declared.serve.ServeConfig.{ServeConfig}
use Rattle.node_io.specs.Clocks.{ClockState, Tells}
use Rattle.node_core_spec.specs.State.{new_node}
use Rattle.service_api.specs.Services.{ServiceState}
use Rattle.node_serve.specs.declared.fault.ServeFault.{ServeFault}
use Rattle.node_serve.specs.Desks.{Serving}
use Rattle.node_serve.specs.Moments.{booted_config, Asks, ServesFrom}
use Rattle.node_serve.specs.Serves.{Serves}

pub booted_keeps : (cfg : ServeConfig) (boot : ℕ) → cfg.node.version ≡ Two → boot < 2 ^ 64 → KeepsServe cfg → KeepsServe (booted_config boot cfg)
booted_keeps cfg boot two small k = record {
  node = record {
    few = k.node.few;
    ascend = k.node.ascend;
    numbers = k.node.numbers;
    here = k.node.here;
    neighbours = k.node.neighbours;
    devices = k.node.devices;
    serial = k.node.serial;
    boot = subst (λ v. KeepsBoot v boot) (sym two) small;
    link = k.node.link;
  };
  serial = k.serial;
  link = k.link;
  missing = k.missing;
  period = k.period;
  log = k.log;
  devices = k.devices;
  ports = k.ports;
  apart = k.apart;
  injects = k.injects;
  weight = k.weight;
}

-- the same of one whose parts are equal
pub booted_so : (cfg : ServeConfig) (boot : ℕ) (node : NodeConfig) (missing : List PackageName) (log : List ℕ) (devs : List (Dev × ℕ)) (at : List Injection)
    → node ≡ cfg.node → missing ≡ cfg.missing → log ≡ cfg.log → devs ≡ cfg.devs → at ≡ cfg.at → cfg.node.version ≡ Two → boot < 2 ^ 64 → KeepsServe cfg
    → KeepsServe (record { node = record node { boot = boot }; missing = missing; port = cfg.port; control = cfg.control; period = cfg.period; log = log; devs = devs; at = at })
booted_so cfg boot node missing log devs at n m l d a two small k =
    let same : record { node = record node { boot = boot }; missing = missing; port = cfg.port; control = cfg.control; period = cfg.period; log = log; devs = devs; at = at } ≡ booted_config boot cfg =
    (λ i. record { node = record (n i) { boot = boot }; missing = m i; port = cfg.port; control = cfg.control; period = cfg.period; log = l i; devs = d i; at = a i }) in
    subst KeepsServe (sym same) (booted_keeps cfg boot two small k)

module _ {T : Type 0} (cfg : ServeConfig) (services : ServiceState) (n : ℕ) (old new : Serving) (result : Result T ServeFault) where
  -- under version 1
  pub one_served : cfg.node.version ≡ One → KeepsServe cfg → Serves cfg (new_node cfg.node services) n old new result → ServesFrom cfg services n old new result
  one_served one k h =
      let none : cfg.node.boot ≡ 0 = subst (λ v. KeepsBoot v cfg.node.boot) one k.node.boot in
      let same : cfg ≡ booted_config 0 cfg = (λ i. record cfg { node = record cfg.node { boot = none i } }) in
      record {
        boot = 0;
        clock = old.clock;
        asked = subst (λ v. Asks v old.clock old.clock 0) (sym one) (refl, refl);
        fits = omega arith;
        serves = subst (λ (c : ServeConfig). Serves c (new_node c.node services) n old new result) same h;
      }

  -- under version 2
  pub two_served : (boot : ℕ) (clock : ClockState) (c : ServeConfig) → cfg.node.version ≡ Two → Tells old.clock clock boot → boot < 2 ^ 64 → c ≡ booted_config boot cfg
      → Serves c (new_node c.node services) n (record old { clock = clock }) new result → ServesFrom cfg services n old new result
  two_served boot clock c two told small is h = record {
    boot = boot;
    clock = clock;
    asked = subst (λ v. Asks v old.clock clock boot) (sym two) told;
    fits = small;
    serves = subst (λ (d : ServeConfig). Serves d (new_node d.node services) n (record old { clock = clock }) new result) is h;
  }
