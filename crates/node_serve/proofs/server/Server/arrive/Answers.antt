use Rattle.node_log.specs.Runs.{arrival}
use Rattle.node_serve.proofs.FrameLaws.{arrives_quiet}
use Rattle.node_core.specs.Stands.{version_of}
use Rattle.node_serve.proofs.Coming.{may_come_always}
use Rattle.node_serve.proofs.server.Server.arrive.Goals as goal

pub returns : goal.returns
returns g c = λ l. c.step.ensures l (arrival (c.args.dev, c.args.bytes.now)) c.arrival-event.ensures.event (arrives_quiet (c.args.dev, c.args.bytes.now))

pub step-requires-clause-event : goal.step-requires-clause-event
step-requires-clause-event g c = may_come_always c.args.cfg.now.node.version (version_of c.args.self.now.node) c.arrival-event.result c.arrival-event.ensures.keeps
