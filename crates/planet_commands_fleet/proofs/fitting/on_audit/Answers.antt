use Rattle.planet_commands_fleet.proofs.FileTaking.{file_taken, file_untaken}
use Rattle.planet_commands_fleet.proofs.fitting.on_audit.Goals as goal

pub returns-in-Ok : goal.returns-in-Ok
returns-in-Ok g c =
    file_taken c.args.name.now (g.F.Files.state c.args.files.now) (g.F.Files.state c.value_of.new.files) (g.F.Files.state c.audit_read.new.files) c.audit_read.result (g.K.Sink.state c.args.out.now) (g.K.Sink.state c.audit_read.new.out)
    c.in-Ok.a c.in-Ok.ensures.takes c.audit_read.ensures

pub returns-in-Err : goal.returns-in-Err
returns-in-Err g c = file_untaken c.args.name.now (g.F.Files.state c.args.files.now) (g.F.Files.state c.value_of.new.files) c.in-Err.cause (g.K.Sink.state c.args.out.now) c.in-Err.ensures.takes
