-- What every run of two ends keeps.
use Rattle.std.proofs.Common.{◌+◌, List, [], ◌∷◌, map, take, refl, arith}
use Rattle.std.specs.List.{AllByRecursion}
use Rattle.plan_base.specs.declared.stamp.Version.TheVariants.{Two}
use Rattle.net_world_spec.specs.World.{opening}
use Rattle.command_files.specs.declared.port.PortEvent.{PortEvent as Said}
use Rattle.command_files.specs.declared.port.PortEvent.TheVariants as says
use Rattle.command_files.specs.declared.port.PortFile.{PortFile}
use Rattle.command_files.specs.PortRules.{KeepsEvent, KeepsPort}
use Rattle.reliable_ports_world.proofs.Worlds.{all_take}
use Rattle.reliable_ports_world.specs.Paid.{EventFits, ScriptFits}
use Rattle.reliable_ports_world.proofs.Purses.{run_pays, begun_pays}
use Rattle.reliable_ports_world.proofs.Fitting.{run_fits, begun_fits}
use Rattle.reliable_ports_world.proofs.Paying.{families_pay}
use Rattle.reliable_ports_world.specs.Networks.{two_hosts}
use Rattle.reliable_ports_world.specs.Scripts.{happening, script_of, begun_ports, state_at}
use Rattle.reliable_ports_world.specs.Keeping.{KeepsOrder, KeepsPurses}
use Rattle.reliable_ports_world.proofs.HostRules.{two_keep}
use Rattle.reliable_ports_world.proofs.Few.{wires_at, kept_at}

pub keeps_order : (p : PortFile) → KeepsOrder p
keeps_order p = record {
  prefix = λ k. (let t = kept_at p k in (t.receives.rest, t.receives.prefix));
  acked = λ k. (kept_at p k).acked;
  made = λ k. (run_pays (opening two_hosts) (p.first + p.second) (take k (script_of p)) (begun_ports p) (wires_at p k) (begun_pays (opening two_hosts) p.first p.second)).world;
}

-- what a file says fits, where it keeps the rules
happenings_fit : (es : List Said) → AllByRecursion KeepsEvent es → ScriptFits Two (map happening es)
happenings_fit [] h = tt
happenings_fit (says.Offer b ∷ es) h = (h.0.1, happenings_fit es h.1)
happenings_fit (says.Transmit seq ∷ es) h = (tt, happenings_fit es h.1)
happenings_fit (says.Send g d ∷ es) h = (h.0.1, happenings_fit es h.1)
happenings_fit (says.Deliver k ∷ es) h = (tt, happenings_fit es h.1)
happenings_fit (says.Lose k ∷ es) h = (tt, happenings_fit es h.1)
happenings_fit (says.Repeat k ∷ es) h = (refl, happenings_fit es h.1)

pub keeps_purses : (p : PortFile) → KeepsPort p → KeepsPurses p
keeps_purses p h = record {
  paid = λ k fs apart.
      let script = take k (script_of p) in
      let r = run_pays (opening two_hosts) (p.first + p.second) script (begun_ports p) (wires_at p k) (begun_pays (opening two_hosts) p.first p.second) in
      let f = run_fits Two script (begun_ports p) (all_take (EventFits Two) k (script_of p) (happenings_fit p.events h.events)) (begun_fits Two (opening two_hosts) p.first p.second) in
      omega (arith, r.paid, families_pay two_hosts (state_at p k).events fs two_keep f.events r.wired apart);
}
