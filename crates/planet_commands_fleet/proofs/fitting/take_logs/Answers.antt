use Rattle.std.proofs.Common.{subst}
use Rattle.planet_commands_fleet.specs.Audits.{TakesLogs}
use Rattle.planet_commands_fleet.proofs.fitting.take_logs.Goals as goal

pub returns : goal.returns
returns g c =
    let state = g.F.Files.state in
    subst (λ names. TakesLogs c.args.a.now.links names (state c.args.files.now) (state c.reckon_logs.new.files) c.reckon_logs.result) c.as_slice-2.ensures
    (subst (λ links. TakesLogs links c.as_slice-2.result.now (state c.args.files.now) (state c.reckon_logs.new.files) c.reckon_logs.result) c.as_slice.ensures c.reckon_logs.ensures)
