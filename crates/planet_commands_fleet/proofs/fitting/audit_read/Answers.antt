use Rattle.planet_commands_fleet.proofs.FileTaking.{is_kept, read_all, read_not}
use Rattle.planet_commands_fleet.proofs.fitting.audit_read.Goals as goal

pub print_answer-requires : goal.print_answer-requires
print_answer-requires g c = is_kept c.args.a.now (g.F.Files.state c.args.files.now) (g.F.Files.state c.take_logs.new.files) c.in-Ok.reckoning c.in-Ok.ensures

pub returns-in-Ok : goal.returns-in-Ok
returns-in-Ok g c =
    read_all c.args.a.now (g.F.Files.state c.args.files.now) (g.F.Files.state c.take_logs.new.files) c.in-Ok.reckoning c.print_answer.result (g.K.Sink.state c.args.out.now) (g.K.Sink.state c.print_answer.new.out) c.in-Ok.ensures
    (λ ls k. c.print_answer.ensures c.args.a.now.links ls k)

pub returns-in-Err : goal.returns-in-Err
returns-in-Err g c = read_not c.args.a.now (g.F.Files.state c.args.files.now) (g.F.Files.state c.take_logs.new.files) c.in-Err.cause (g.K.Sink.state c.args.out.now) c.in-Err.ensures
