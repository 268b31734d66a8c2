use Rattle.std.proofs.Common.{arith, ◌+◌}
use Rattle.net_world_spec.specs.World.{opening}
use Rattle.reliable_ports_world.specs.Ports.{port_run, port_begun}
use Rattle.reliable_ports_world.proofs.Paying.{families_pay}
use Rattle.reliable_ports_world.proofs.Purses.{run_pays, begun_pays}
use Rattle.reliable_ports_world.proofs.Fitting.{run_fits, begun_fits}
use Rattle.reliable_ports_world.proofs.known_laws.port_is_paid.Goals as goal

pub returns-clause-network : goal.returns-clause-network
returns-clause-network x t b c script h = (run_pays (opening t) (b + c) script (port_begun (opening t) b c) h (begun_pays (opening t) b c)).world

pub returns-clause-paid : goal.returns-clause-paid
returns-clause-paid x t b c script fs net fits h k =
    let p = run_pays (opening t) (b + c) script (port_begun (opening t) b c) h (begun_pays (opening t) b c) in
    let f = run_fits t.version script (port_begun (opening t) b c) fits (begun_fits t.version (opening t) b c) in
    omega (arith, p.paid, families_pay t (port_run script (port_begun (opening t) b c)).events fs net f.events p.wired k)
