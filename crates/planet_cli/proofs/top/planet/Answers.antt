use Rattle.node_io.specs.Outsides.{Outside, outside}
use Rattle.planet_cli.proofs.Headline.{found_writes}
use Rattle.planet_cli.proofs.Keeping.{schedule_run_keeps}
use Rattle.planet_cli.proofs.top.planet.Goals as goal

pub returns-clause-replayed : goal.returns-clause-replayed
returns-clause-replayed g c =
    let old : Outside = outside (g.F.Files.state c.args.files.now) (g.K.Sink.state c.args.out.now) (g.L.Link.state c.args.link.now) (g.C.Clock.state c.args.clock.now) (g.P.Spawner.state c.args.spawn.now) in
    let new : Outside = outside (g.F.Files.state c.run-found.new.files) (g.K.Sink.state c.run-found.new.out) (g.L.Link.state c.run-found.new.link) (g.C.Clock.state c.run-found.new.clock) (g.P.Spawner.state c.run-found.new.spawn) in
    found_writes c.args.words.now c.run-found.result c.settle-cause.result old new (g.N.Sink.state c.args.notes.now) (g.N.Sink.state c.settle-cause.new.notes) c.run-found.ensures c.settle-cause.ensures

pub returns-clause-keeps : goal.returns-clause-keeps
returns-clause-keeps g c = schedule_run_keeps
